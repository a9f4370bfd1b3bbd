-- Segments that are marked to be sent again.
use Rattle.std.proofs.Common.{◌≡◌, ℕ, zero, suc, ◌+◌, ◌-◌, ◌<◌, ◌≤◌, Bool, true, false, cond, not, List, [], ◌∷◌, ◌++◌, length, drop, set}
use Rattle.std.proofs.Common.{nat_eq, nat_lt, nat_le, Some, None, refl, sym, ap, subst, ◌∙◌, arith}
use Rattle.std.specs.Prelude.{slice_get, is_some, Option}
use Rattle.std.specs.Option.{option_map}
use Rattle.std.specs.List.{position, position_or_len}
use Rattle.std.proofs.lemmas.List.{length-append, drop-map}
use Rattle.std.proofs.lemmas.Bool.Decides.{nat_tests}
use Rattle.lapm_sender.specs.Numbers.{with_number, from_number}
use Rattle.lapm_sender.specs.Segments.{Unacknowledged, infos, is_marked, marked_from}
use Rattle.lapm_sender.specs.declared.segments.Segment.{Segment}

-- an item that is there lies within
slice_get-within : (ss : List Segment) (k : ℕ) (s : Segment) → slice_get ss k ≡ Some s → k < length ss
slice_get-within [] k s e = cc
slice_get-within (first ∷ ss) zero s e = omega arith
slice_get-within (first ∷ ss) (suc k) s e = let rest : k < length ss = slice_get-within ss k s e in omega (arith, rest)

-- what is kept of segments in a ring
abbrev pub seen : ℕ → ℕ → List Segment → Unacknowledged
seen room front ss = record { room = room; front = front; kept = infos ss; chosen = marked_from front ss }

-- no marked number lies below the first one
marked-from_number : (low n : ℕ) (ss : List Segment) → low ≤ n → from_number low (marked_from n ss) ≡ marked_from n ss
marked-from_number low n [] l = refl
marked-from_number low n (s ∷ ss) l = by s.again (marked-from_number low (n + 1) ss (omega arith))
  where
    by : (t : Bool) → from_number low (marked_from (n + 1) ss) ≡ marked_from (n + 1) ss
        → from_number low (cond t (n ∷ marked_from (n + 1) ss) (marked_from (n + 1) ss)) ≡ cond t (n ∷ marked_from (n + 1) ss)
        (marked_from (n + 1) ss)
    by true rest = let t : nat_le low n ≡ true = grind (arith, nat_tests) in rw t (ap (λ ns. n ∷ ns) rest)
    by false rest = rest

-- the segments before a number go, and with them their marks
marked-drop : (m n k : ℕ) (ss : List Segment) → m ≡ n + k → marked_from m (drop k ss) ≡ from_number m (marked_from n ss)
marked-drop m n zero ss e = let same : m ≡ n = omega arith in
    subst (λ x. marked_from m ss ≡ from_number m (marked_from x ss)) same (sym (marked-from_number m m ss (omega arith)))
marked-drop m n (suc k) [] e = refl
marked-drop m n (suc k) (s ∷ ss) e = by s.again (marked-drop m (n + 1) k ss (omega arith))
  where
    by : (t : Bool) → marked_from m (drop k ss) ≡ from_number m (marked_from (n + 1) ss)
        → marked_from m (drop k ss) ≡ from_number m (cond t (n ∷ marked_from (n + 1) ss) (marked_from (n + 1) ss))
    by true rest = let t : nat_le m n ≡ false = grind (arith, nat_tests) in rw t rest
    by false rest = rest

-- a number below all marked ones goes before them
with_number-first : (m n : ℕ) (ss : List Segment) → m < n → with_number m (marked_from n ss) ≡ m ∷ marked_from n ss
with_number-first m n [] l = refl
with_number-first m n (s ∷ ss) l = by s.again (with_number-first m (n + 1) ss (omega arith))
  where
    by : (t : Bool) → with_number m (marked_from (n + 1) ss) ≡ m ∷ marked_from (n + 1) ss
        → with_number m (cond t (n ∷ marked_from (n + 1) ss) (marked_from (n + 1) ss)) ≡ m ∷ cond t (n ∷ marked_from (n + 1) ss)
        (marked_from (n + 1) ss)
    by true rest = let t : nat_lt m n ≡ true = grind (arith, nat_tests) in rw t refl
    by false rest = rest

-- a segment is marked
marked-set : (m n k : ℕ) (ss : List Segment) (info : List ℕ) → m ≡ n + k → k < length ss
    → marked_from n (set ss k (record { info = info; again = true })) ≡ with_number m (marked_from n ss)
marked-set m n k [] info e l = absurd (omega arith)
marked-set m n zero (s ∷ ss) info e l = by s.again
  where
    same : m ≡ n
    same = omega arith

    by : (t : Bool) → n ∷ marked_from (n + 1) ss ≡ with_number m (cond t (n ∷ marked_from (n + 1) ss) (marked_from (n + 1) ss))
    by true =
        let less : nat_lt m n ≡ false = grind (arith, nat_tests) in
        let equal : nat_eq m n ≡ true = grind (arith, nat_tests) in
        rw (less, equal) refl
    by false = ap (λ x. x ∷ marked_from (n + 1) ss) (sym same) ∙ sym (with_number-first m (n + 1) ss (omega arith))
marked-set m n (suc k) (s ∷ ss) info e l = by s.again (marked-set m (n + 1) k ss info (omega arith) (omega arith))
  where
    others : List Segment
    others = set ss k (record { info = info; again = true })

    by : (t : Bool) → marked_from (n + 1) others ≡ with_number m (marked_from (n + 1) ss)
        → cond t (n ∷ marked_from (n + 1) others) (marked_from (n + 1) others) ≡ with_number m
        (cond t (n ∷ marked_from (n + 1) ss) (marked_from (n + 1) ss))
    by true rest =
        let less : nat_lt m n ≡ false = grind (arith, nat_tests) in
        let equal : nat_eq m n ≡ false = grind (arith, nat_tests) in
        rw (less, equal) (ap (λ ns. n ∷ ns) rest)
    by false rest = rest

-- the infos stay, whatever the mark
infos-set : (k : ℕ) (ss : List Segment) (s : Segment) (again : Bool) → slice_get ss k ≡ Some s
    → infos (set ss k (record { info = s.info; again = again })) ≡ infos ss
infos-set k [] s again e = refl
infos-set zero (first ∷ ss) s again e = let same : first ≡ s = cc in ap (λ x. x.info ∷ infos ss) (sym same)
infos-set (suc k) (first ∷ ss) s again e = ap (λ xs. first.info ∷ xs) (infos-set k ss s again e)

-- where the first mark is
first-marked : (n : ℕ) (ss : List Segment)
    → slice_get (marked_from n ss) 0 ≡ cond (nat_lt (position_or_len is_marked ss) (length ss))
    (Some (n + position_or_len is_marked ss)) None
first-marked n [] = refl
first-marked n (s ∷ ss) = by s.again (first-marked (n + 1) ss)
  where
    p : ℕ
    p = position_or_len is_marked ss

    by : (t : Bool) → slice_get (marked_from (n + 1) ss) 0 ≡ cond (nat_lt p (length ss)) (Some (n + 1 + p)) None
        → slice_get (cond t (n ∷ marked_from (n + 1) ss) (marked_from (n + 1) ss)) 0
        ≡ cond (nat_lt (cond (not t) (1 + p) 0) (suc (length ss))) (Some (n + cond (not t) (1 + p) 0)) None
    by true rest =
        let same : n + 0 ≡ n = omega arith in
        let test : nat_lt 0 (suc (length ss)) ≡ true = grind (arith, nat_tests) in
        rw (same, test) refl
    by false rest =
        let same : n + (1 + p) ≡ n + 1 + p = omega arith in
        let test : nat_lt (1 + p) (suc (length ss)) ≡ nat_lt p (length ss) = grind (arith, nat_tests) in
        rw (same, test) rest

-- the first mark is taken away
marked-clear : (n : ℕ) (ss : List Segment) (info : List ℕ)
    → marked_from n (set ss (position_or_len is_marked ss) (record { info = info; again = false })) ≡ drop 1 (marked_from n ss)
marked-clear n [] info = refl
marked-clear n (s ∷ ss) info = by s.again refl (marked-clear (n + 1) ss info)
  where
    p : ℕ
    p = position_or_len is_marked ss

    by : (t : Bool) → s.again ≡ t → marked_from (n + 1) (set ss p (record { info = info; again = false })) ≡ drop 1 (marked_from (n + 1) ss)
        → marked_from n (set (s ∷ ss) (cond (not t) (1 + p) 0) (record { info = info; again = false })) ≡ drop 1
        (cond t (n ∷ marked_from (n + 1) ss) (marked_from (n + 1) ss))
    by true e rest = refl
    by false e rest = let one : 1 + p ≡ suc p = omega arith in rw (one, e) rest

none-marked : (n : ℕ) (ss : List Segment) → length ss ≤ position_or_len is_marked ss → marked_from n ss ≡ []
none-marked n [] l = refl
none-marked n (s ∷ ss) l = by s.again l (none-marked (n + 1) ss)
  where
    p : ℕ
    p = position_or_len is_marked ss

    by : (t : Bool) → suc (length ss) ≤ cond (not t) (1 + p) 0 → (length ss ≤ p → marked_from (n + 1) ss ≡ [])
        → cond t (n ∷ marked_from (n + 1) ss) (marked_from (n + 1) ss) ≡ []
    by true l rest = absurd (omega arith)
    by false l rest = rest (omega arith)

-- where the place of the first mark is known
pub marked-first : (n : ℕ) (ss : List Segment) (r : Option ℕ) → r ≡ position is_marked ss
    → slice_get (marked_from n ss) 0 ≡ option_map (λ p. n + p) r
marked-first n ss r e =
    first-marked n ss ∙ (by (nat_lt (position_or_len is_marked ss) (length ss)) ∙ ap (λ o. option_map (λ p. n + p) o) (sym e))
  where
    by : (t : Bool) → cond t (Some (n + position_or_len is_marked ss)) None ≡ option_map (λ p. n + p)
        (cond t (Some (position_or_len is_marked ss)) None)
    by true = refl
    by false = refl

-- what a place of the first mark is
pub first-place : (ss : List Segment) (place : ℕ) → Some place ≡ position is_marked ss
    → (place ≡ position_or_len is_marked ss) × (place < length ss)
first-place ss place e = by (nat_lt (position_or_len is_marked ss) (length ss)) refl e
  where
    by : (t : Bool) → nat_lt (position_or_len is_marked ss) (length ss) ≡ t → Some place ≡ cond t (Some (position_or_len is_marked ss)) None
        → (place ≡ position_or_len is_marked ss) × (place < length ss)
    by true t e = let same : place ≡ position_or_len is_marked ss = cc in (same, grind (arith, nat_tests, t, same))
    by false t e = cc

same-seen : (room front : ℕ) (ss : List Segment) (kept : List (List ℕ)) (chosen : List ℕ) → infos ss ≡ kept → marked_from front ss ≡ chosen
    → seen room front ss ≡ record { room = room; front = front; kept = kept; chosen = chosen }
same-seen room front ss kept chosen k m =
    ap (λ ks. record { room = room; front = front; kept = ks; chosen = marked_from front ss }) k
    ∙ ap (λ ns. record { room = room; front = front; kept = kept; chosen = ns }) m

infos-length : (ss : List Segment) → length (infos ss) ≡ length ss
infos-length [] = refl
infos-length (s ∷ ss) = ap suc (infos-length ss)

infos-snoc : (ss : List Segment) (s : Segment) → infos (ss ++ s ∷ []) ≡ infos ss ++ s.info ∷ []
infos-snoc [] s = refl
infos-snoc (first ∷ ss) s = ap (λ xs. first.info ∷ xs) (infos-snoc ss s)

marked-snoc : (n : ℕ) (ss : List Segment) (info : List ℕ)
    → marked_from n (ss ++ (record { info = info; again = false }) ∷ []) ≡ marked_from n ss
marked-snoc n [] info = refl
marked-snoc n (first ∷ ss) info = ap (λ ns. cond first.again (n ∷ ns) ns) (marked-snoc (n + 1) ss info)

-- The calls, of a view of segments. A segment goes behind them.
pub seen-push : (room front : ℕ) (ss : List Segment) (info : List ℕ) (v : Unacknowledged) → seen room front ss ≡ v → length v.kept < v.room
    → seen room front (drop (length (ss ++ (record { info = info; again = false }) ∷ []) - room)
    (ss ++ (record { info = info; again = false }) ∷ [])) ≡ record v { kept = v.kept ++ info ∷ [] }
seen-push room front ss info v e =
    subst (λ v. length v.kept < v.room
    → seen room front (drop (length (ss ++ s ∷ []) - room) (ss ++ s ∷ [])) ≡ record v { kept = v.kept ++ info ∷ [] }) e core
  where
    s : Segment
    s = record { info = info; again = false }

    core : length (infos ss) < room
        → seen room front (drop (length (ss ++ s ∷ []) - room) (ss ++ s ∷ [])) ≡ record
        (seen room front ss) { kept = infos ss ++ info ∷ [] }
    core less =
        let none : length (ss ++ s ∷ []) - room ≡ 0 = omega (arith, less, infos-length ss, length-append ss (s ∷ [])) in
        rw none (same-seen room front (ss ++ s ∷ []) (infos ss ++ info ∷ []) (marked_from front ss) (infos-snoc ss s)
        (marked-snoc front ss info))

-- the first ones go
pub seen-advance : (room front number : ℕ) (ss : List Segment) (v : Unacknowledged) → seen room front ss ≡ v → v.front ≤ number
    → number ≤ v.front + length v.kept
    → seen room number (drop (length ss - (length ss - (number - front))) ss) ≡ record
    v { front = number; kept = drop (number - v.front) v.kept; chosen = from_number number v.chosen }
seen-advance room front number ss v e = subst (λ v. v.front ≤ number → number ≤ v.front + length v.kept
    → seen room number (drop (length ss - (length ss - (number - front))) ss) ≡ record
    v { front = number; kept = drop (number - v.front) v.kept; chosen = from_number number v.chosen }) e core
  where
    core : front ≤ number → number ≤ front + length (infos ss) → seen room number (drop (length ss - (length ss - (number - front))) ss)
        ≡ record {
          room = room;
          front = number;
          kept = drop (number - front) (infos ss);
          chosen = from_number number (marked_from front ss);
        }
    core low high =
        let gone : length ss - (length ss - (number - front)) ≡ number - front = omega (arith, low, high, infos-length ss) in
        rw gone (same-seen room number (drop (number - front) ss) (drop (number - front) (infos ss))
        (from_number number (marked_from front ss))
        (sym (drop-map (λ s. s.info) (number - front) ss)) (marked-drop number front (number - front) ss (omega (arith, low))))

-- a number is marked
pub seen-choose : (room front number : ℕ) (ss : List Segment) (s : Segment) (v : Unacknowledged) → seen room front ss ≡ v → v.front ≤ number
    → slice_get ss (number - front) ≡ Some s
    → seen room front (set ss (number - front) (record { info = s.info; again = true })) ≡ record v { chosen = with_number number v.chosen }
seen-choose room front number ss s v e = subst (λ v. v.front ≤ number → slice_get ss (number - front) ≡ Some s
    → seen room front (set ss (number - front) (record { info = s.info; again = true })) ≡ record
    v { chosen = with_number number v.chosen }) e core
  where
    core : front ≤ number → slice_get ss (number - front) ≡ Some s
        → seen room front (set ss (number - front) (record { info = s.info; again = true }))
        ≡ record { room = room; front = front; kept = infos ss; chosen = with_number number (marked_from front ss) }
    core low is = same-seen room front (set ss (number - front) (record { info = s.info; again = true })) (infos ss)
        (with_number number (marked_from front ss))
        (infos-set (number - front) ss s true is)
        (marked-set number front (number - front) ss s.info (omega (arith, low)) (slice_get-within ss (number - front) s is))

-- the first mark goes
pub seen-clear : (room front place : ℕ) (ss : List Segment) (s : Segment) (v : Unacknowledged) → seen room front ss ≡ v
    → Some place ≡ position is_marked ss → slice_get ss place ≡ Some s
    → seen room front (set ss place (record { info = s.info; again = false })) ≡ record v { chosen = drop 1 v.chosen }
seen-clear room front place ss s v e first is =
    subst (λ v. seen room front (set ss place (record { info = s.info; again = false })) ≡ record v { chosen = drop 1 v.chosen }) e
    (same-seen room front (set ss place (record { info = s.info; again = false })) (infos ss) (drop 1 (marked_from front ss))
    (infos-set place ss s false is)
    (rw (first-place ss place first).0 (marked-clear front ss s.info)))

-- no number is marked
pub seen-none : (room front : ℕ) (ss : List Segment) (v : Unacknowledged) → seen room front ss ≡ v → None ≡ position is_marked ss
    → v ≡ record v { chosen = drop 1 v.chosen }
seen-none room front ss v e none = subst (λ v. v ≡ record v { chosen = drop 1 v.chosen }) e
    (by (nat_lt (position_or_len is_marked ss) (length ss)) refl none)
  where
    by : (t : Bool) → nat_lt (position_or_len is_marked ss) (length ss) ≡ t → None ≡ cond t (Some (position_or_len is_marked ss)) None
        → seen room front ss ≡ record (seen room front ss) { chosen = drop 1 (marked_from front ss) }
    by true t e = cc
    by false t e =
        let beyond : length ss ≤ position_or_len is_marked ss = grind (arith, nat_tests, t) in
        let none : marked_from front ss ≡ [] = none-marked front ss beyond in
        rw none refl

-- where no item is, there is no segment
pub slice_get-beyond : (ss : List Segment) (k : ℕ) → None ≡ slice_get ss k → k < length ss → ⊥
slice_get-beyond [] k e l = omega arith
slice_get-beyond (s ∷ ss) zero e l = cc
slice_get-beyond (s ∷ ss) (suc k) e l = slice_get-beyond ss k e (omega arith)

-- a number of the view lies within
pub seen-within : (room front number : ℕ) (ss : List Segment) (v : Unacknowledged) → seen room front ss ≡ v → v.front ≤ number
    → number < v.front + length v.kept → number - front < length ss
seen-within room front number ss v e =
    subst (λ v. v.front ≤ number → number < v.front + length v.kept → number - front < length ss) e
    (λ low high. omega (arith, low, high, infos-length ss))

-- where there is no first number there is none
pub nothing-first : (ns : List ℕ) (o : Option ℕ) → o ≡ slice_get ns 0 → false ≡ is_some o → ns ≡ []
nothing-first [] o e f = refl
nothing-first (n ∷ ns) None e f = cc
nothing-first (n ∷ ns) (Some first) e f = cc
