-- The remainder that bits leave is one.
use Rattle.frame_check.proofs.Names.{◌≡◌, ℕ, zero, suc, ◌+◌, ◌<◌, ◌≤◌, Bool, true, false, List, [], ◌∷◌, length, get_or, reverse, cond}
use Rattle.frame_check.proofs.Names.{if◌then◌else◌, arith, refl, sym, ◌∙◌, ap, common_steps, same_lists, coefficient, Same, plus, times}
use Rattle.frame_check.proofs.Names.{raised, all_ones, Leaves, xor}
use Rattle.std.proofs.Common.{max}
use Rattle.frame_check.proofs.Polynomials.{xor_false, coefficient-plus, coefficient-past, coefficient-chosen}
use Rattle.frame_check.proofs.Remainders.{itself, neither}

-- the lowest coefficient of a quotient, and the rest of it
head_of : List Bool → Bool
head_of [] = false
head_of (a ∷ q) = a

rest_of : List Bool → List Bool
rest_of [] = []
rest_of (a ∷ q) = q

-- a product's coefficients above the lowest
times-suc : (q g : List Bool) (i : ℕ)
    → coefficient (times q g) (suc i) ≡ xor (cond (head_of q) (coefficient g (suc i)) false) (coefficient (times (rest_of q) g) i)
unfolding head_of rest_of
times-suc [] g i = refl
times-suc (a ∷ q) g i =
    coefficient-plus (if a then g else []) (false ∷ times q g) (suc i)
    ∙ ap (λ x. xor x (coefficient (times q g) i)) (coefficient-chosen a g (suc i))

times-zero : (q g : List Bool) → coefficient (times q g) 0 ≡ cond (head_of q) (coefficient g 0) false
unfolding head_of
times-zero [] g = refl
times-zero (a ∷ q) g =
    coefficient-plus (if a then g else []) (false ∷ times q g) 0 ∙ ap (λ x. xor x false) (coefficient-chosen a g 0)
    ∙ xor_false (cond a (coefficient g 0) false)

xor_cancel : (a b x : Bool) → xor a x ≡ xor b x → a ≡ b
xor_cancel true true x h = refl
xor_cancel false false x h = refl
xor_cancel true false true h = sym h
xor_cancel true false false h = h
xor_cancel false true true h = sym h
xor_cancel false true false h = h

xor_cancel_left : (x a b : Bool) → xor x a ≡ xor x b → a ≡ b
xor_cancel_left x true true h = refl
xor_cancel_left x false false h = refl
xor_cancel_left true true false h = cc
xor_cancel_left true false true h = cc
xor_cancel_left false true false h = cc
xor_cancel_left false false true h = cc

shorter : (xs : List Bool) (n : ℕ) → length xs ≤ suc n → length (rest_of xs) ≤ n
unfolding rest_of
shorter [] n l = omega arith
shorter (x ∷ xs) n l = omega arith

abbrev AgreeFrom : ℕ → List Bool → List Bool → List Bool → Type 0
AgreeFrom w g p q = (i : ℕ) → suc w ≤ i → coefficient (times p g) i ≡ coefficient (times q g) i

above_top : (q g : List Bool) (i w : ℕ) → length g ≡ suc w + 1 → suc w ≤ i
    → coefficient (times q g) (suc i) ≡ xor false (coefficient (times (rest_of q) g) i)
above_top q g i w wide l =
    let none : coefficient g (suc i) ≡ false = coefficient-past g (suc i) (omega arith) in
    times-suc q g i ∙ ap (λ x. xor (cond (head_of q) x false) (coefficient (times (rest_of q) g) i)) none
    ∙ ap (λ x. xor x (coefficient (times (rest_of q) g) i)) (neither (head_of q))

at_top : (q g : List Bool) (w : ℕ) → coefficient g (suc w) ≡ true
    → coefficient (times q g) (suc w) ≡ xor (head_of q) (coefficient (times (rest_of q) g) w)
at_top q g w top = times-suc q g w ∙ ap (λ x. xor (cond (head_of q) x false) (coefficient (times (rest_of q) g) w)) top
    ∙ ap (λ x. xor x (coefficient (times (rest_of q) g) w)) (itself (head_of q))

higher : (w : ℕ) (g p q : List Bool) → length g ≡ suc w + 1 → AgreeFrom w g p q → AgreeFrom w g (rest_of p) (rest_of q)
higher w g p q wide h i l =
    xor_cancel_left false (coefficient (times (rest_of p) g) i) (coefficient (times (rest_of q) g) i)
    (sym (above_top p g i w wide l) ∙ h (suc i) (omega arith) ∙ above_top q g i w wide l)

joined : (w : ℕ) (g p q : List Bool) → coefficient g (suc w) ≡ true → AgreeFrom w g p q → Same (times (rest_of p) g) (times (rest_of q) g)
    → Same (times p g) (times q g)
joined w g p q top h rests = each
  where
    heads : head_of p ≡ head_of q
    heads = xor_cancel (head_of p) (head_of q) (coefficient (times (rest_of p) g) w)
        (sym (at_top p g w top) ∙ h (suc w) (omega arith) ∙ at_top q g w top ∙ ap (xor (head_of q)) (sym (rests w)))

    each : (i : ℕ) → coefficient (times p g) i ≡ coefficient (times q g) i
    each zero = times-zero p g ∙ ap (λ x. cond x (coefficient g 0) false) heads ∙ sym (times-zero q g)
    each (suc i) = times-suc p g i ∙ ap (λ x. xor (cond x (coefficient g (suc i)) false) (coefficient (times (rest_of p) g) i)) heads
        ∙ ap (xor (cond (head_of q) (coefficient g (suc i)) false)) (rests i) ∙ sym (times-suc q g i)

-- Products of a generator that agree from its top coefficient on agree everywhere.
agrees : (n w : ℕ) (g p q : List Bool) → length p ≤ n → length q ≤ n → length g ≡ suc w + 1 → coefficient g (suc w) ≡ true
    → AgreeFrom w g p q → Same (times p g) (times q g)
agrees zero w g [] [] small_p small_q wide top h = λ i. refl
agrees zero w g (a ∷ p) q small_p small_q wide top h = absurd (omega arith)
agrees zero w g [] (b ∷ q) small_p small_q wide top h = absurd (omega arith)
agrees (suc n) w g p q small_p small_q wide top h =
    joined w g p q top h (agrees n w g (rest_of p) (rest_of q) (shorter p n small_p) (shorter q n small_q) wide top (higher w g p q wide h))

-- x^w·M + x^k·A
abbrev before_of : ℕ → List Bool → List Bool
before_of w bits = plus (raised w (reverse bits)) (raised (length bits) (all_ones w))

within : (p : List Bool) (i : ℕ) (d : Bool) → i < length p → get_or p i d ≡ coefficient p i
within p i d l = grind (arith, common_steps)

-- the bits leave one remainder
pub one_remainder : (w : ℕ) (g bits r s : List Bool) → length g ≡ suc w + 1 → coefficient g (suc w) ≡ true → Leaves (suc w) g bits r
    → Leaves (suc w) g bits s → r ≡ s
one_remainder w g bits r s wide top h k = same_lists r s (h.wide ∙ sym k.wide) (λ i d l.
    within r i d l ∙ xor_cancel_left (coefficient (before_of (suc w) bits) i) (coefficient r i) (coefficient s i)
    (sym (coefficient-plus (before_of (suc w) bits) r i) ∙ h.equation i ∙ same i ∙ sym (k.equation i)
    ∙ coefficient-plus (before_of (suc w) bits) s i)
    ∙ sym (within s i d (omega (arith, h.wide, k.wide))))
  where
    high : AgreeFrom w g h.quotient k.quotient
    high i l = sym (h.equation i) ∙ coefficient-plus (before_of (suc w) bits) r i
        ∙ ap (xor (coefficient (before_of (suc w) bits) i))
        (coefficient-past r i (omega (arith, h.wide)) ∙ sym (coefficient-past s i (omega (arith, k.wide))))
        ∙ sym (coefficient-plus (before_of (suc w) bits) s i) ∙ k.equation i

    same : Same (times h.quotient g) (times k.quotient g)
    same = agrees (max (length h.quotient) (length k.quotient)) w g h.quotient k.quotient (omega arith) (omega arith) wide top high
