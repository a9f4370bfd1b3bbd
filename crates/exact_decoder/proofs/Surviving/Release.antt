-- A state has one survivor; a prefix of two lists that part is a prefix of what they share.
use Rattle.exact_decoder.proofs.Names.{◌≡◌, ◌≢◌, ℕ, inl, inr, List, [], ◌∷◌, ◌++◌, arith, refl, subst, LessFromLast}
use Rattle.exact_decoder.proofs.Names.{IsSurvivor, IsFirstLeast, Trellis, IsPrefixOf}

not_less-self : (a : List ℕ) → LessFromLast a a → ⊥
not_less-self [] h = h
not_less-self (x ∷ a) (inl h) = not_less-self a h
not_less-self (x ∷ a) (inr (e, l)) = absurd (omega arith)

not_less-both : (a b : List ℕ) → LessFromLast a b → LessFromLast b a → ⊥
not_less-both [] b h k = h
not_less-both (x ∷ a) [] h k = h
not_less-both (x ∷ a) (y ∷ b) (inl h) (inl k) = not_less-both a b h k
not_less-both (x ∷ a) (y ∷ b) (inl h) (inr (e, l)) = not_less-self a (subst (LessFromLast a) e h)
not_less-both (x ∷ a) (y ∷ b) (inr (e, l)) (inl k) = not_less-self b (subst (LessFromLast b) e k)
not_less-both (x ∷ a) (y ∷ b) (inr (e, l)) (inr (f, m)) = absurd (omega arith)

-- a state has one survivor
pub survivor-one : {X : Type 0} (c : Trellis X) (samples : List X) (a b : List ℕ) (state : ℕ) → IsSurvivor c samples a state
    → IsSurvivor c samples b state → a ≡ b
survivor-one c samples a b state h k = grind (arith, not_less-both)

pub first-least-once : {X : Type 0} (c : Trellis X) (samples : List X) (a b : List ℕ) → IsFirstLeast c samples a → IsFirstLeast c samples b
    → a ≡ b
first-least-once c samples a b h k = grind (arith, survivor-one)

-- a prefix of two lists that part after a front is a prefix of the front
pub prefix-parted : (other front a b : List ℕ) (x y : ℕ) → x ≢ y → IsPrefixOf other (front ++ x ∷ a) → IsPrefixOf other (front ++ y ∷ b)
    → IsPrefixOf other front
prefix-parted [] front a b x y apart (r, e) (s, f) = (front, refl)
prefix-parted (z ∷ other) [] a b x y apart (r, e) (s, f) = absurd (apart cc)
prefix-parted (z ∷ other) (w ∷ front) a b x y apart (r, e) (s, f) =
    let tail_e : other ++ r ≡ front ++ x ∷ a = cc in
    let tail_f : other ++ s ≡ front ++ y ∷ b = cc in
    let same : w ≡ z = cc in
    let p = prefix-parted other front a b x y apart (r, tail_e) (s, tail_f) in (p.0, cc)
