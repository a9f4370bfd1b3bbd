-- Bits that stand above a register go on a line and are descrambled, the lowest first.
use Rattle.scramblers.proofs.Names.{◌≡◌, ◌∙◌, ℕ, zero, suc, ◌+◌, ◌-◌, ◌*◌, ◌/◌, ◌^◌, ◌<◌, ◌≤◌, ◌⊎◌, inl, inr, Bool, true, false, List, []}
use Rattle.scramblers.proofs.Names.{◌∷◌, ◌++◌, length, arith, refl, sym, ap, subst, nat_eq, bit_xor, cases_lt, bit_at_cat_low}
use Rattle.scramblers.proofs.Names.{bit_at_cat_high, bit_at_lowest, bit_at-suc, bit_at-lt, bit_at, low_bits, number, xor, Holds}
use Rattle.scramblers.proofs.Names.{Descrambles, earlier}
use Rattle.std.proofs.Common.{append_assoc, append-nil}
use Rattle.std.proofs.lemmas.Nat.{shr-shr}
use native.Mathlib.Nat.{div-one}
use Rattle.scramblers.proofs.Registers.{has_bit, bit-number}
use Rattle.scramblers.proofs.Streams.{earlier-last, earlier-more, turned_at, Descrambles-more}
use Rattle.scramblers.proofs.Turning.{turned}

-- the register without its lowest bit holds the line with the bit that stood above it
Holds-next : (r : ℕ) (line : List Bool) → Holds r line → Holds (r / 2) (line ++ has_bit r 32 ∷ [])
Holds-next r line h = record { recent = λ places low high. first_or_later places low high (cases_lt 1 places) }
  where
    first_or_later : (places : ℕ) → 1 ≤ places → places ≤ 23 → (1 < places) ⊎ (places ≤ 1)
        → bit_at (r / 2) (32 - places) ≡ number (earlier (line ++ has_bit r 32 ∷ []) (length (line ++ has_bit r 32 ∷ [])) places)
    first_or_later places low high (inl later) =
        let up : suc (32 - places) ≡ 32 - (places - 1) = omega arith in
        let back : (places - 1) + 1 ≡ places = omega arith in
        let seen = ap number (earlier-more line (has_bit r 32) (places - 1) (omega arith)) in
        sym (bit_at-suc r (32 - places)) ∙ ap (bit_at r) up ∙ h.recent (places - 1) (omega arith) (omega arith) ∙ sym (rw back at seen)
    first_or_later places low high (inr first) =
        let one : places ≡ 1 = omega arith in
        rw one (sym (bit_at-suc r 31) ∙ bit-number (bit_at r 32) (bit_at-lt r 32) ∙ ap number (sym (earlier-last line (has_bit r 32))))

-- a bit of the register is the one so many places before
seen : (r places : ℕ) (line : List Bool) → 1 ≤ places → places ≤ 23 → Holds r line
    → has_bit r (32 - places) ≡ earlier line (length line) places
seen r places line low high h = ap (λ n. nat_eq n 1) (h.recent places low high) ∙ number-back (earlier line (length line) places)
  where
    number-back : (b : Bool) → nat_eq (number b) 1 ≡ b
    number-back true = refl
    number-back false = refl

-- the number y has n bits of what is descrambled of a register and the bits above it
abbrev pub AreRead : ℕ → ℕ → ℕ → ℕ → Type 0
AreRead n tap r y = (i : ℕ) → i < n → has_bit y i ≡ xor (xor (has_bit r (32 + i)) (has_bit r (32 - tap + i))) (has_bit r (9 + i))

-- the number x has n of the bits above a register
abbrev pub AreAbove : ℕ → ℕ → ℕ → Type 0
AreAbove n r x = (i : ℕ) → i < n → has_bit x i ≡ has_bit r (32 + i)

pub record Follows (n tap r x y : ℕ) (line output : List Bool) : Type 0 where
  pub descrambled : Descrambles tap (line ++ low_bits n x) (output ++ low_bits n y)
  pub holds : Holds (r / 2 ^ n) (line ++ low_bits n x)

pub follows : (n tap r x y : ℕ) (line output : List Bool) → 1 ≤ tap → tap ≤ 22 → AreAbove n r x → AreRead n tap r y
    → Descrambles tap line output → Holds r line → Follows n tap r x y line output
follows zero tap r x y line output low high above read d h = record {
  descrambled = subst (λ (p : List Bool × List Bool). Descrambles tap p.0 p.1)
      (λ i. (sym (append-nil line) i, sym (append-nil output) i)) d;
  holds = subst (λ (p : ℕ × List Bool). Holds p.0 p.1) (λ i. (sym (div-one r) i, sym (append-nil line) i)) h;
}
follows (suc n) tap r x y line output low high above read d h =
    let none : 32 - tap + 0 ≡ 32 - tap = omega arith in
    let first : has_bit y 0 ≡ turned_at tap (has_bit r 32) line (length line) =
    read 0 (omega arith)
    ∙ ap (λ k. xor (xor (has_bit r 32) (has_bit r k)) (has_bit r 9)) none
    ∙ ap (λ b. xor (xor (has_bit r 32) b) (has_bit r 9)) (seen r tap line low (omega arith) h)
    ∙ ap (λ b. xor (xor (has_bit r 32) (earlier line (length line) tap)) b) (seen r 23 line (omega arith) (omega arith) h) in
    let rest = follows n tap (r / 2) (x / 2) (y / 2) (line ++ has_bit r 32 ∷ []) (output ++ has_bit y 0 ∷ []) low high
    (λ i l. ap (λ b. nat_eq b 1) (sym (bit_at-suc x i)) ∙ above (suc i) (omega arith) ∙ down (32 + i) (32 + suc i) (omega arith))
    (λ i l. ap (λ b. nat_eq b 1) (sym (bit_at-suc y i)) ∙ read (suc i) (omega arith)
    ∙ ap (λ b. xor (xor b (has_bit r (32 - tap + suc i))) (has_bit r (9 + suc i))) (down (32 + i) (32 + suc i) (omega arith))
    ∙ ap (λ b. xor (xor (has_bit (r / 2) (32 + i)) b) (has_bit r (9 + suc i))) (down (32 - tap + i) (32 - tap + suc i) (omega arith))
    ∙ ap (λ b. xor (xor (has_bit (r / 2) (32 + i)) (has_bit (r / 2) (32 - tap + i))) b) (down (9 + i) (9 + suc i) (omega arith)))
    (Descrambles-more tap line output (has_bit r 32) (has_bit y 0) low d first) (Holds-next r line h) in
    let lines : (line ++ has_bit r 32 ∷ []) ++ low_bits n (x / 2) ≡ line ++ low_bits (suc n) x =
    append_assoc line (has_bit r 32 ∷ []) (low_bits n (x / 2))
    ∙ ap (λ b. line ++ b ∷ low_bits n (x / 2)) (sym (above 0 (omega arith)) ∙ ap (λ m. nat_eq m 1) (bit_at_lowest x)) in
    let outputs : (output ++ has_bit y 0 ∷ []) ++ low_bits n (y / 2) ≡ output ++ low_bits (suc n) y =
    append_assoc output (has_bit y 0 ∷ []) (low_bits n (y / 2))
    ∙ ap (λ m. output ++ nat_eq m 1 ∷ low_bits n (y / 2)) (bit_at_lowest y) in
    let shorter : r / 2 / 2 ^ n ≡ r / 2 ^ suc n = let e : 1 + n ≡ suc n = omega arith in shr-shr r 1 n ∙ ap (λ k. r / 2 ^ k) e in
    record {
      descrambled = subst (λ (p : List Bool × List Bool). Descrambles tap p.0 p.1) (λ i. (lines i, outputs i)) rest.descrambled;
      holds = subst (λ (p : ℕ × List Bool). Holds p.0 p.1) (λ i. (shorter i, lines i)) rest.holds;
    }
  where
    down : (i j : ℕ) → j ≡ suc i → has_bit r j ≡ has_bit (r / 2) i
    down i j e = ap (λ k. has_bit r k) e ∙ ap (λ b. nat_eq b 1) (bit_at-suc r i)

-- an octet above a register
above-octet : (octet register : ℕ) → register < 2 ^ 32 → AreAbove 8 (octet * 2 ^ 32 + register) octet
above-octet octet register fits i l =
    let place : 32 + i - 32 ≡ i = omega arith in
    ap (λ b. nat_eq b 1) (sym (bit_at_cat_high octet 32 register (32 + i) fits (omega arith) ∙ ap (bit_at octet) place))

-- what the register holds is the same with bits above it
with-above : (octet register : ℕ) (line : List Bool) → register < 2 ^ 32 → Holds register line → Holds (octet * 2 ^ 32 + register) line
with-above octet register line fits h = record {
  recent = λ places low high. bit_at_cat_low octet 32 register (32 - places) (omega (arith, low)) ∙ h.recent places low high;
}

-- the octet that is read of an octet, and of those that stand so many places before
pub octet-follows : (tap octet register near far : ℕ) (line output : List Bool) → 1 ≤ tap → tap ≤ 22 → register < 2 ^ 32
    → ((i : ℕ) → i < 8 → bit_at near i ≡ bit_at (octet * 2 ^ 32 + register) (32 - tap + i))
    → ((i : ℕ) → i < 8 → bit_at far i ≡ bit_at (octet * 2 ^ 32 + register) (32 - 23 + i))
    → Descrambles tap line output → Holds register line
    → Follows 8 tap (octet * 2 ^ 32 + register) octet (bit_xor (bit_xor octet near) far) line output
octet-follows tap octet register near far line output low high fits n f d h =
    let all : ℕ = octet * 2 ^ 32 + register in
    follows 8 tap all octet (bit_xor (bit_xor octet near) far) line output low high (above-octet octet register fits)
    (λ i l. turned octet near far i (has_bit all (32 - tap + i)) (has_bit all (9 + i))
    (n i l ∙ bit-number (bit_at all (32 - tap + i)) (bit_at-lt all (32 - tap + i)))
    (f i l ∙ bit-number (bit_at all (9 + i)) (bit_at-lt all (9 + i)))
    ∙ ap (λ b. xor (xor b (has_bit all (32 - tap + i))) (has_bit all (9 + i))) (above-octet octet register fits i l))
    d (with-above octet register line fits h)
