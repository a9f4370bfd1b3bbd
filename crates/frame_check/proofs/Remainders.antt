-- The long division leaves the remainder of the equation, whatever bits follow.
use Rattle.frame_check.proofs.Names.{◌≡◌, ℕ, zero, suc, ◌+◌, ◌-◌, ◌<◌, ◌≤◌, inl, inr, Bool, true, false, List, [], ◌∷◌, ◌++◌, length, take}
use Rattle.frame_check.proofs.Names.{reverse, cond, if◌then◌else◌, arith, length-append, refl, sym, ◌∙◌, ap, subst, eq-or-lt_of_le}
use Rattle.frame_check.proofs.Names.{cases_lt, common_steps, next_remainder, remainder_from, coefficient, Same, plus, times, raised}
use Rattle.frame_check.proofs.Names.{all_ones, Leaves, xor}
use Rattle.std.proofs.Common.{append_assoc}
use Rattle.std.proofs.lemmas.List.{reverse-append}
use Rattle.frame_check.proofs.Polynomials.{xor_false, xor_twice, regroup, coefficient-plus, length-plus, coefficient-past}
use Rattle.frame_check.proofs.Polynomials.{coefficient-behind, raised-suc, raised-nothing, coefficient-chosen, at_power, at_power-other}
use Rattle.frame_check.proofs.Polynomials.{at_power-same, raised-cons}

-- one more bit

-- whether the generator is taken away
abbrev pub is_taken : ℕ → List Bool → Bool → Bool
is_taken w r b = xor (coefficient (false ∷ r) w) b

-- x·R less the generator, where it is taken away
abbrev pub less : ℕ → List Bool → List Bool → Bool → List Bool
less w g r b = plus (false ∷ r) (if is_taken w r b then g else [])

coefficient-take : (w : ℕ) (p : List Bool) (i : ℕ) → i < w → coefficient (take w p) i ≡ coefficient p i
coefficient-take w p i h = grind (arith, common_steps)

coefficient-past_take : (w : ℕ) (p : List Bool) (i : ℕ) → w ≤ i → coefficient (take w p) i ≡ false
coefficient-past_take w p i h = grind (arith, common_steps)

pub itself : (b : Bool) → cond b true false ≡ b
itself true = refl
itself false = refl

pub neither : (b : Bool) → cond b false false ≡ false
neither true = refl
neither false = refl

cancels : (x b : Bool) → false ≡ xor (xor x (xor x b)) b
cancels true true = refl
cancels true false = refl
cancels false true = refl
cancels false false = refl

-- the coefficients of the next remainder
pub coefficient-next : (w : ℕ) (g r : List Bool) (b : Bool) → length r ≡ w → length g ≡ w + 1 → coefficient g w ≡ true → (i : ℕ)
    → coefficient (next_remainder w g r b) i ≡ xor (xor (coefficient (false ∷ r) i) (coefficient (if is_taken w r b then g else []) i))
    (at_power i w b)
coefficient-next w g r b wide_r wide_g top i =
    elim (cases_lt i w) [ inl h ↦ below h | inr h ↦ elim (eq-or-lt_of_le h) [ inl e ↦ at e | inr l ↦ above l ] ]
  where
    below : i < w → coefficient (next_remainder w g r b) i ≡ xor
        (xor (coefficient (false ∷ r) i) (coefficient (if is_taken w r b then g else []) i)) (at_power i w b)
    below h =
        coefficient-take w (less w g r b) i h
        ∙ coefficient-plus (false ∷ r) (if is_taken w r b then g else []) i
        ∙ rw (at_power-other i w b (λ e. omega arith))
        (sym (xor_false (xor (coefficient (false ∷ r) i) (coefficient (if is_taken w r b then g else []) i))))

    at : w ≡ i → coefficient (next_remainder w g r b) i ≡ xor
        (xor (coefficient (false ∷ r) i) (coefficient (if is_taken w r b then g else []) i)) (at_power i w b)
    at e =
        let taken : coefficient (if is_taken w r b then g else []) i ≡ is_taken w r b =
        coefficient-chosen (is_taken w r b) g i ∙ rw (← e) (rw top (itself (is_taken w r b))) in
        coefficient-past_take w (less w g r b) i (omega arith)
        ∙ rw (at_power-same i w b e, taken, ← e) (cancels (coefficient (false ∷ r) w) b)

    above : w < i → coefficient (next_remainder w g r b) i ≡ xor
        (xor (coefficient (false ∷ r) i) (coefficient (if is_taken w r b then g else []) i)) (at_power i w b)
    above l =
        let none : coefficient (false ∷ r) i ≡ false =
        coefficient-behind false r i (omega arith) ∙ coefficient-past r (i - 1) (omega (arith, wide_r)) in
        let nor : coefficient (if is_taken w r b then g else []) i ≡ false =
        coefficient-chosen (is_taken w r b) g i ∙ rw (coefficient-past g i (omega (arith, wide_g))) (neither (is_taken w r b)) in
        coefficient-past_take w (less w g r b) i (omega arith)
        ∙ rw (at_power-other i w b (λ e. omega arith), none, nor) refl

pub length-next : (w : ℕ) (g r : List Bool) (b : Bool) → length r ≡ w → length (next_remainder w g r b) ≡ w
length-next w g r b h =
    let enough : w ≤ length (less w g r b) = omega (arith, h, length-plus (false ∷ r) (if is_taken w r b then g else [])) in
    grind (arith, common_steps)

-- the equation, times x
shifted_equation : (m a r t : List Bool) → Same (plus (plus m a) r) t → (i : ℕ)
    → xor (xor (coefficient (false ∷ m) i) (coefficient (false ∷ a) i)) (coefficient (false ∷ r) i) ≡ coefficient (false ∷ t) i
shifted_equation m a r t h zero = refl
shifted_equation m a r t h (suc i) =
    sym (coefficient-plus (plus m a) r i ∙ ap (λ x. xor x (coefficient r i)) (coefficient-plus m a i)) ∙ h i

reverse-snoc : (p : List Bool) (b : Bool) → reverse (p ++ b ∷ []) ≡ b ∷ reverse p
reverse-snoc p b = reverse-append p (b ∷ [])

-- the equation of one bit more
Leaves-more : (w : ℕ) (g past r : List Bool) (b : Bool) → length g ≡ w + 1 → coefficient g w ≡ true → Leaves w g past r
    → Leaves w g (past ++ b ∷ []) (next_remainder w g r b)
Leaves-more w g past r b wide top h = record {
  quotient = is_taken w r b ∷ h.quotient;
  wide = length-next w g r b h.wide;
  equation = moved;
}
  where
    moved : (i : ℕ) → coefficient
        (plus (plus (raised w (reverse (past ++ b ∷ []))) (raised (length (past ++ b ∷ [])) (all_ones w))) (next_remainder w g r b))
        i ≡ coefficient (times (is_taken w r b ∷ h.quotient) g) i
    moved i =
        let longer : length (past ++ b ∷ []) ≡ length past + 1 = omega (arith, length-append {A = Bool}) in
        let f = if is_taken w r b then g else [] in
        let m = raised w (reverse past) in
        let a = raised (length past) (all_ones w) in
        let sums = coefficient-plus (plus (raised w (b ∷ reverse past)) (false ∷ a)) (next_remainder w g r b) i
        ∙ ap (λ x. xor x (coefficient (next_remainder w g r b) i)) (coefficient-plus (raised w (b ∷ reverse past)) (false ∷ a) i) in
        let highest = ap (λ x. xor (xor x (coefficient (false ∷ a) i)) (coefficient (next_remainder w g r b) i))
        (raised-cons w (reverse past) b i) in
        let rest = ap (λ x. xor (xor (xor (coefficient (false ∷ m) i) (at_power i w b)) (coefficient (false ∷ a) i)) x)
        (coefficient-next w g r b h.wide wide top i) in
        let order = regroup (coefficient (false ∷ m) i) (at_power i w b) (coefficient (false ∷ a) i) (coefficient (false ∷ r) i)
        (coefficient f i) in
        let before = ap (λ x. xor (coefficient f i) x) (shifted_equation m a r (times h.quotient g) h.equation i) in
        let product = sym (coefficient-plus f (false ∷ times h.quotient g) i) in
        rw (reverse-snoc past b, longer, raised-suc (length past) (all_ones w)) (sums ∙ highest ∙ rest ∙ order ∙ before ∙ product)

-- no bits leave the ones
Leaves-none : (w : ℕ) (g : List Bool) → Leaves w g [] (all_ones w)
Leaves-none w g = record {
  quotient = [];
  wide = grind (arith, common_steps);
  equation = λ i.
      coefficient-plus (plus (raised w []) (all_ones w)) (all_ones w) i
      ∙ ap (λ x. xor x (coefficient (all_ones w) i)) (coefficient-plus (raised w []) (all_ones w) i)
      ∙ xor_twice (coefficient (all_ones w) i) (coefficient (raised w []) i)
      ∙ raised-nothing w i;
}

-- the division

Leaves-from : (w : ℕ) (g past r bits : List Bool) → length g ≡ w + 1 → coefficient g w ≡ true → Leaves w g past r
    → Leaves w g (past ++ bits) (remainder_from w g r bits)
Leaves-from w g past r [] wide top h = subst (λ p. Leaves w g p r) (grind (arith, common_steps)) h
Leaves-from w g past r (b ∷ bits) wide top h =
    subst (λ p. Leaves w g p (remainder_from w g (next_remainder w g r b) bits)) (append_assoc past (b ∷ []) bits)
    (Leaves-from w g (past ++ b ∷ []) (next_remainder w g r b) bits wide top (Leaves-more w g past r b wide top h))

-- the bits leave what the division from the ones gives
pub Leaves-all : (w : ℕ) (g bits : List Bool) → length g ≡ w + 1 → coefficient g w ≡ true
    → Leaves w g bits (remainder_from w g (all_ones w) bits)
Leaves-all w g bits wide top = Leaves-from w g [] (all_ones w) bits wide top (Leaves-none w g)

pub remainder_from-append : (w : ℕ) (g r bits more : List Bool)
    → remainder_from w g r (bits ++ more) ≡ remainder_from w g (remainder_from w g r bits) more
remainder_from-append w g r [] more = refl
remainder_from-append w g r (b ∷ bits) more = remainder_from-append w g (next_remainder w g r b) bits more
