-- Four bits that are turned at once, as numbers.
use Rattle.scramblers.proofs.Names.{◌≡◌, ◌∙◌, ℕ, zero, suc, ◌+◌, ◌-◌, ◌%◌, ◌<◌, ◌≤◌, Bool, true, false, List, length, arith, refl, ap}
use Rattle.scramblers.proofs.Names.{nat_eq, bit_xor, bit_at-lt, bit_at, number, xor, earlier}
use Rattle.std.proofs.lemmas.Nat.Bits.{bit_at_xor}
use Rattle.scramblers.proofs.Registers.{has_bit}
use Rattle.scramblers.proofs.Streams.{AreTurned}

-- the four bits that stand so many places before each of the next four
abbrev pub AreBefore : ℕ → ℕ → List Bool → Type 0
AreBefore n places line = (i : ℕ) → i < 4 → bit_at n i ≡ number (earlier line (length line) (places - i))

odd : (m : ℕ) (b c : Bool) → m < 2 → nat_eq (((m + number b) % 2 + number c) % 2) 1 ≡ xor (xor (nat_eq m 1) b) c
odd zero true true low = refl
odd zero true false low = refl
odd zero false true low = refl
odd zero false false low = refl
odd (suc zero) true true low = refl
odd (suc zero) true false low = refl
odd (suc zero) false true low = refl
odd (suc zero) false false low = refl
odd (suc (suc m)) b c low = absurd (omega (arith, low))

pub turned : (four near far i : ℕ) (b c : Bool) → bit_at near i ≡ number b → bit_at far i ≡ number c
    → has_bit (bit_xor (bit_xor four near) far) i ≡ xor (xor (has_bit four i) b) c
turned four near far i b c e f =
    ap (λ n. nat_eq n 1) (bit_at_xor (bit_xor four near) far i ∙ ap (λ n. (n + bit_at far i) % 2) (bit_at_xor four near i)
    ∙ ap (λ n. ((bit_at four i + n) % 2 + bit_at far i) % 2) e ∙ ap (λ n. ((bit_at four i + number b) % 2 + n) % 2) f)
    ∙ odd (bit_at four i) b c (bit_at-lt four i)

pub are-turned : (tap four near far : ℕ) (line : List Bool) → 4 ≤ tap → AreBefore near tap line → AreBefore far 23 line
    → let sum : ℕ = bit_xor (bit_xor four near) far in
    AreTurned tap line (has_bit four 0) (has_bit four 1) (has_bit four 2) (has_bit four 3) (has_bit sum 0) (has_bit sum 1) (has_bit sum 2)
    (has_bit sum 3)
are-turned tap four near far line high n f = let none : tap - 0 ≡ tap = omega arith in record {
  far = high;
  first = turned four near far 0 (earlier line (length line) tap) (earlier line (length line) 23)
      (n 0 (omega arith) ∙ ap (λ k. number (earlier line (length line) k)) none) (f 0 (omega arith));
  second = turned four near far 1 (earlier line (length line) (tap - 1)) (earlier line (length line) 22) (n 1 (omega arith))
      (f 1 (omega arith));
  third = turned four near far 2 (earlier line (length line) (tap - 2)) (earlier line (length line) 21) (n 2 (omega arith))
      (f 2 (omega arith));
  fourth = turned four near far 3 (earlier line (length line) (tap - 3)) (earlier line (length line) 20) (n 3 (omega arith))
      (f 3 (omega arith));
}
