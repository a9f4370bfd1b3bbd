-- The coefficients of sums, of products and of what is raised.
use Rattle.frame_check.proofs.Names.{◌≡◌, ℕ, zero, suc, ◌+◌, ◌-◌, ◌<◌, ◌≤◌, inl, inr, Bool, true, false, List, [], ◌∷◌, length, arith, refl}
use Rattle.frame_check.proofs.Names.{sym, ◌∙◌, ap, cond, nat_eq, if◌then◌else◌, eq-or-lt_of_le, cases_lt, nat_tests, common_steps}
use Rattle.frame_check.proofs.Names.{coefficient, plus, raised, xor}
use Rattle.std.proofs.Common.{add-one}

-- sums in the field

pub xor_false : (a : Bool) → xor a false ≡ a
xor_false true = refl
xor_false false = refl

pub false_xor : (a : Bool) → xor false a ≡ a
false_xor true = refl
false_xor false = refl

pub xor_itself : (a : Bool) → xor a a ≡ false
xor_itself true = refl
xor_itself false = refl

xor_assoc : (a b c : Bool) → xor (xor a b) c ≡ xor a (xor b c)
xor_assoc true true true = refl
xor_assoc true true false = refl
xor_assoc true false true = refl
xor_assoc true false false = refl
xor_assoc false true true = refl
xor_assoc false true false = refl
xor_assoc false false true = refl
xor_assoc false false false = refl

xor_comm : (a b : Bool) → xor a b ≡ xor b a
xor_comm true true = refl
xor_comm true false = refl
xor_comm false true = refl
xor_comm false false = refl

-- what stands twice falls out
pub xor_twice : (a b : Bool) → xor (xor b a) a ≡ b
xor_twice a b = xor_assoc b a a ∙ ap (xor b) (xor_itself a) ∙ xor_false b

-- the sum of five terms in another order, where one of them stands twice
pub regroup : (x a y z f : Bool) → xor (xor (xor x a) y) (xor (xor z f) a) ≡ xor f (xor (xor x y) z)
regroup x a y z f =
    let together : xor (xor (xor x a) y) (xor (xor z f) a) ≡ xor (xor (xor x y) a) (xor (xor z f) a) =
    ap (λ t. xor t (xor (xor z f) a)) (xor_assoc x a y ∙ ap (xor x) (xor_comm a y) ∙ sym (xor_assoc x y a)) in
    let apart : xor (xor (xor x y) a) (xor (xor z f) a) ≡ xor (xor x y) (xor z f) =
    xor_assoc (xor x y) a (xor (xor z f) a) ∙ ap (xor (xor x y)) (xor_comm a (xor (xor z f) a) ∙ xor_twice a (xor z f)) in
    together ∙ apart ∙ sym (xor_assoc (xor x y) z f) ∙ xor_comm (xor (xor x y) z) f

-- coefficients

-- of a sum
pub coefficient-plus : (p q : List Bool) (i : ℕ) → coefficient (plus p q) i ≡ xor (coefficient p i) (coefficient q i)
coefficient-plus [] q i = sym (false_xor (coefficient q i))
coefficient-plus (a ∷ p) [] i = sym (xor_false (coefficient (a ∷ p) i))
coefficient-plus (a ∷ p) (b ∷ q) zero = refl
coefficient-plus (a ∷ p) (b ∷ q) (suc i) = coefficient-plus p q i

pub length-plus : (p q : List Bool) → length p ≤ length (plus p q)
length-plus [] q = omega arith
length-plus (a ∷ p) [] = omega arith
length-plus (a ∷ p) (b ∷ q) = omega (arith, length-plus p q)

-- above the highest power
pub coefficient-past : (p : List Bool) (i : ℕ) → length p ≤ i → coefficient p i ≡ false
coefficient-past p i h = grind (arith, common_steps)

-- of x·p with a lowest coefficient
pub coefficient-behind : (b : Bool) (p : List Bool) (i : ℕ) → 0 < i → coefficient (b ∷ p) i ≡ coefficient p (i - 1)
coefficient-behind b p zero h = absurd (omega arith)
coefficient-behind b p (suc i) h = let e : suc i - 1 ≡ i = omega arith in rw e refl

pub coefficient-lowest : (b : Bool) (p : List Bool) (i : ℕ) → i ≤ 0 → coefficient (b ∷ p) i ≡ b
coefficient-lowest b p zero h = refl
coefficient-lowest b p (suc i) h = absurd (omega arith)

-- of x^k·p
pub raised-low : (k : ℕ) (p : List Bool) (i : ℕ) → i < k → coefficient (raised k p) i ≡ false
raised-low k p i h = grind (arith, common_steps)

raised-high : (k : ℕ) (p : List Bool) (i : ℕ) → k ≤ i → coefficient (raised k p) i ≡ coefficient p (i - k)
raised-high k p i h = grind (arith, common_steps)

pub raised-suc : (k : ℕ) (p : List Bool) → raised (k + 1) p ≡ false ∷ raised k p
raised-suc k p = rw (add-one k) refl

pub raised-nothing : (k i : ℕ) → coefficient (raised k []) i ≡ false
raised-nothing k i = elim (cases_lt i k) [ inl h ↦ raised-low k [] i h | inr h ↦ raised-high k [] i h ]

-- of a polynomial or none
pub coefficient-chosen : (f : Bool) (g : List Bool) (i : ℕ) → coefficient (if f then g else []) i ≡ cond f (coefficient g i) false
coefficient-chosen true g i = refl
coefficient-chosen false g i = refl

-- a bit at one power
abbrev pub at_power : ℕ → ℕ → Bool → Bool
at_power i w b = cond (nat_eq i w) b false

pub at_power-other : (i w : ℕ) (b : Bool) → (i ≡ w → ⊥) → at_power i w b ≡ false
at_power-other i w b h = grind (arith, nat_tests)

pub at_power-same : (i w : ℕ) (b : Bool) → w ≡ i → at_power i w b ≡ b
at_power-same i w b e = grind (arith, nat_tests)

-- x^w·(b + x·p) is x·(x^w·p) with the bit at the power w
pub raised-cons : (w : ℕ) (p : List Bool) (b : Bool) (i : ℕ)
    → coefficient (raised w (b ∷ p)) i ≡ xor (coefficient (false ∷ raised w p) i) (at_power i w b)
raised-cons w p b i = elim (cases_lt i w) [ inl h ↦ below h | inr h ↦ elim (eq-or-lt_of_le h) [ inl e ↦ at e | inr l ↦ above l ] ]
  where
    none : i ≤ w → coefficient (false ∷ raised w p) i ≡ false
    none h = elim (cases_lt 0 i) [
      | inl l ↦ coefficient-behind false (raised w p) i l ∙ raised-low w p (i - 1) (omega arith)
      | inr z ↦
          coefficient-lowest false (raised w p) i z
    ]

    below : i < w → coefficient (raised w (b ∷ p)) i ≡ xor (coefficient (false ∷ raised w p) i) (at_power i w b)
    below h = rw (raised-low w (b ∷ p) i h, none (omega arith), at_power-other i w b (λ e. omega arith)) refl

    at : w ≡ i → coefficient (raised w (b ∷ p)) i ≡ xor (coefficient (false ∷ raised w p) i) (at_power i w b)
    at e =
        let here : coefficient (raised w (b ∷ p)) i ≡ b =
        raised-high w (b ∷ p) i (omega arith) ∙ coefficient-lowest b p (i - w) (omega arith) in
        rw (here, none (omega arith), at_power-same i w b e) (sym (false_xor b))

    above : w < i → coefficient (raised w (b ∷ p)) i ≡ xor (coefficient (false ∷ raised w p) i) (at_power i w b)
    above l =
        let here : coefficient (raised w (b ∷ p)) i ≡ coefficient p (i - w - 1) =
        raised-high w (b ∷ p) i (omega arith) ∙ coefficient-behind b p (i - w) (omega arith) in
        let there : coefficient (false ∷ raised w p) i ≡ coefficient p (i - 1 - w) =
        coefficient-behind false (raised w p) i (omega arith) ∙ raised-high w p (i - 1) (omega arith) in
        let same : i - w - 1 ≡ i - 1 - w = omega arith in
        rw (here, there, at_power-other i w b (λ e. omega arith), same) (sym (xor_false (coefficient p (i - 1 - w))))
