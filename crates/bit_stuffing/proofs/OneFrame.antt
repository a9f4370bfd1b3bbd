-- The bits of a flag slot tell which frame it carries, if it carries one.
use Rattle.bit_stuffing.proofs.Names.{◌≡◌, ◌∙◌, ℕ, zero, suc, ◌-◌, ◌/◌, ◌%◌, ◌≤◌, Bool, true, false, List, [], ◌∷◌, ◌++◌, length, take}
use Rattle.bit_stuffing.proofs.Names.{drop, Option, Some, None, refl, sym, ap, arith, append_assoc, length-append, flag, flags, fill}
use Rattle.bit_stuffing.proofs.Names.{rest_of_flag, framed, opening, slot_bits, IsFrame, IsSlot, Flags, stuffed, length-bits_of}
use Rattle.bit_stuffing.proofs.Names.{same_octets, bits_of}
use Rattle.std.proofs.Math.Seq.{drop-append_seam}
use Rattle.bit_stuffing.proofs.Fill.{length-fill}

-- no six ones stand where a stuffing begins, nor where it ends before
not-six : (content more rest : List Bool) → stuffed 5 content ++ flag ++ more ≡ true ∷ true ∷ true ∷ true ∷ true ∷ true ∷ rest → ⊥
not-six content more rest e = grind (arith)

-- a stuffing with a flag behind it is that of one content
same-content : (room : ℕ) (a b x y : List Bool) → stuffed room a ++ flag ++ x ≡ stuffed room b ++ flag ++ y → a ≡ b
same-content zero [] [] x y e = refl
same-content zero [] (true ∷ b) x y e = absurd cc
same-content zero [] (false ∷ b) x y e = absurd (not-six b y (false ∷ x) (sym (ap (drop 2) e)))
same-content zero (true ∷ a) [] x y e = absurd cc
same-content zero (false ∷ a) [] x y e = absurd (not-six a x (false ∷ y) (ap (drop 2) e))
same-content zero (true ∷ a) (true ∷ b) x y e = ap (λ l. true ∷ l) (same-content 4 a b x y (ap (drop 2) e))
same-content zero (false ∷ a) (false ∷ b) x y e = ap (λ l. false ∷ l) (same-content 5 a b x y (ap (drop 2) e))
same-content zero (true ∷ a) (false ∷ b) x y e = absurd cc
same-content zero (false ∷ a) (true ∷ b) x y e = absurd cc
same-content (suc room) [] [] x y e = refl
same-content (suc room) [] (true ∷ b) x y e = absurd cc
same-content (suc room) [] (false ∷ b) x y e = absurd (not-six b y (false ∷ x) (sym (ap (drop 1) e)))
same-content (suc room) (true ∷ a) [] x y e = absurd cc
same-content (suc room) (false ∷ a) [] x y e = absurd (not-six a x (false ∷ y) (ap (drop 1) e))
same-content (suc room) (true ∷ a) (true ∷ b) x y e = ap (λ l. true ∷ l) (same-content room a b x y (ap (drop 1) e))
same-content (suc room) (false ∷ a) (false ∷ b) x y e = ap (λ l. false ∷ l) (same-content 5 a b x y (ap (drop 1) e))
same-content (suc room) (true ∷ a) (false ∷ b) x y e = absurd cc
same-content (suc room) (false ∷ a) (true ∷ b) x y e = absurd cc

-- flags to the end of a slot begin with one
fill-flag : (n : ℕ) → 8 ≤ n → fill n ≡ flag ++ (flags (n / 8 - 1) ++ take (n % 8) flag)
fill-flag n h = let more : n / 8 ≡ suc (n / 8 - 1) = omega (arith, h) in ap (λ k. flags k ++ take (n % 8) flag) more

-- and no frame begins so
not-fill : (n : ℕ) (content more : List Bool) → 8 ≤ n → 1 ≤ length content → fill n ≡ stuffed 5 content ++ flag ++ more → ⊥
not-fill n content more wide some e = grind (arith, fill-flag, flags, not-six)

-- what stands behind the flags that open a slot
behind-opening : (phase : ℕ) (frame : Option (List ℕ)) (tail : List Bool)
    → opening phase frame ++ tail ≡ (rest_of_flag phase ++ flags 4) ++ (framed frame ++ tail)
behind-opening phase frame tail = append_assoc (rest_of_flag phase ++ flags 4) (framed frame) tail

same-behind : (front a b : List Bool) → front ++ a ≡ front ++ b → a ≡ b
same-behind front a b e = sym (drop-append_seam front a) ∙ ap (drop (length front)) e ∙ drop-append_seam front b

some-bits : (octets : List ℕ) → IsFrame octets → 1 ≤ length (bits_of octets)
some-bits octets is = omega (arith, length-bits_of octets, is.low)

same-framed : (n m : ℕ) (a b : Option (List ℕ)) (size phase : ℕ) → IsSlot size phase (Flags a) → IsSlot size phase (Flags b)
    → framed a ++ fill n ≡ framed b ++ fill m → a ≡ b
same-framed n m None None size phase is others e = refl
same-framed n m None (Some b) size phase is others e =
    let split : fill n ≡ stuffed 5 (bits_of b) ++ flag ++ fill m = e in
    absurd (not-fill n (bits_of b) (fill m)
    (omega (
      arith,
      ap length split,
      length-fill n,
      length-append {A = Bool} (stuffed 5 (bits_of b) ++ flag) (fill m),
      length-append {A = Bool} (stuffed 5 (bits_of b)) flag,
    )) (some-bits b others.0) split)
same-framed n m (Some a) None size phase is others e =
    let split : fill m ≡ stuffed 5 (bits_of a) ++ flag ++ fill n = sym e in
    absurd (not-fill m (bits_of a) (fill n)
    (omega (
      arith,
      ap length split,
      length-fill m,
      length-append {A = Bool} (stuffed 5 (bits_of a) ++ flag) (fill n),
      length-append {A = Bool} (stuffed 5 (bits_of a)) flag,
    )) (some-bits a is.0) split)
same-framed n m (Some a) (Some b) size phase is others e =
    let bits : bits_of a ≡ bits_of b
    = same-content 5 (bits_of a) (bits_of b) (fill n) (fill m) e in
    ap Some (same_octets a b is.0.small others.0.small bits)

pub one-frame : (size phase : ℕ) (a b : Option (List ℕ)) → IsSlot size phase (Flags a) → IsSlot size phase (Flags b)
    → slot_bits size phase (Flags a) ≡ slot_bits size phase (Flags b) → a ≡ b
one-frame size phase a b is others e = grind (arith, same-framed, same-behind, flags, framed, fill, behind-opening)
