-- Items from the newest one on.
use Rattle.exact_decoder.proofs.Names.{◌≡◌, ℕ, zero, suc, ◌+◌, ◌-◌, ◌<◌, ◌≤◌, List, [], ◌∷◌, length, take, drop, set, get_or, slice_get}
use Rattle.exact_decoder.proofs.Names.{Some, arith, refl, sym, ◌∙◌, ap, common_steps, take-map, choices_of, columns_in, from_newest, Choice}
use Rattle.exact_decoder.proofs.Names.{Column}
use Rattle.std.proofs.lemmas.List.{drop-set, length-map}

get-drop : {A : Type 0} (n : ℕ) (xs : List A) (i j : ℕ) → j ≡ n + i → slice_get (drop n xs) i ≡ slice_get xs j
get-drop zero xs i j e = ap (slice_get xs) (omega arith)
get-drop (suc n) [] i j e = refl
get-drop (suc n) (x ∷ xs) i zero e = absurd (omega arith)
get-drop (suc n) (x ∷ xs) i (suc j) e = get-drop n xs i j (omega arith)

get-take : {A : Type 0} (n : ℕ) (xs : List A) (i : ℕ) → i < n → slice_get (take n xs) i ≡ slice_get xs i
get-take zero xs i l = absurd (omega arith)
get-take (suc n) [] i l = refl
get-take (suc n) (x ∷ xs) zero l = refl
get-take (suc n) (x ∷ xs) (suc i) l = get-take n xs i (omega arith)

-- the item at a place
pub get-some : {A : Type 0} (xs : List A) (i : ℕ) (v : A) → i < length xs → v ≡ get_or xs i v → slice_get xs i ≡ Some v
get-some [] i v l e = absurd (omega arith)
get-some (x ∷ xs) zero v l e = ap Some (sym e)
get-some (x ∷ xs) (suc i) v l e = get-some xs i v (omega arith) e

-- one that so many are newer than
pub newest-at : {A : Type 0} (xs : List A) (n count back : ℕ) (v : A) → n + count ≤ length xs → back < count → v ≡ get_or xs (n + back) v
    → slice_get (from_newest n count xs) back ≡ Some v
newest-at xs n count back v within l e = get-take _ (drop n xs) _ l ∙ get-drop _ xs _ _ refl ∙ get-some xs _ v (omega arith) e

pub newest-long : {A : Type 0} (xs : List A) (n count : ℕ) → n + count ≤ length xs → length (from_newest n count xs) ≡ count
newest-long xs n count within = grind (arith, common_steps)

take-one : {A : Type 0} (v : A) (xs : List A) (n : ℕ) → 1 ≤ n → take n (v ∷ xs) ≡ v ∷ take (n - 1) (take n xs)
take-one v xs n some = grind (arith, common_steps)

-- a new one before the others but the oldest
newest-more : {A : Type 0} (xs : List A) (n count : ℕ) (v : A) → 1 ≤ count → n < length xs
    → from_newest n count (set xs n v) ≡ v ∷ take (count - 1) (from_newest (n + 1) count xs)
newest-more xs n count v some l = ap (take count) (drop-set xs n v l) ∙ take-one v (drop (n + 1) xs) count some

-- the columns from the newest on
pub columns-long : {size : ℕ} (items : List (Column size)) (n count : ℕ) (columns : List (List Choice)) → n + count ≤ length items
    → columns_in (from_newest n count items) ≡ columns → length columns ≡ count
columns-long items n count columns l e = grind (arith, length-map, newest-long)

pub columns-more : {size : ℕ} (items : List (Column size)) (n count : ℕ) (v : Column size) (old : List (List Choice)) → 1 ≤ count
    → n + 1 + count ≤ length items → columns_in (from_newest (n + 1) count items) ≡ old
    → columns_in (from_newest n count (set items n v)) ≡ choices_of v ∷ take (length old - 1) old
columns-more items n count v old some l h = grind (arith, newest-more, take-map, columns-long)
