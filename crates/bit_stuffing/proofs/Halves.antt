-- The two fours of an octet.
use Rattle.bit_stuffing.proofs.Names.{◌≡◌, ℕ, ◌/◌, ◌%◌, Bool, List, ◌++◌, arith, append_assoc, ◌∙◌, ap, low_bits, octet_bits}

-- four bits have no part in the higher ones
pub low-four : (octet : ℕ) → low_bits 4 (octet % 16) ≡ low_bits 4 octet
low-four octet =
    let e0 : octet % 16 % 2 ≡ octet % 2 = omega arith in
    let e1 : octet % 16 / 2 % 2 ≡ octet / 2 % 2 = omega arith in
    let e2 : octet % 16 / 2 / 2 % 2 ≡ octet / 2 / 2 % 2 = omega arith in
    let e3 : octet % 16 / 2 / 2 / 2 % 2 ≡ octet / 2 / 2 / 2 % 2 = omega arith in grind (arith)

-- their bits are the octet's
pub octet-fours : (past : List Bool) (octet : ℕ) → (past ++ low_bits 4 (octet % 16)) ++ low_bits 4 (octet / 16) ≡ past ++ octet_bits octet
octet-fours past octet =
    append_assoc past (low_bits 4 (octet % 16)) (low_bits 4 (octet / 16)) ∙ ap (λ l. past ++ l) halves
  where
    halves : low_bits 4 (octet % 16) ++ low_bits 4 (octet / 16) ≡ octet_bits octet
    halves = let e : octet / 16 ≡ octet / 2 / 2 / 2 / 2 = omega arith in grind (arith, low-four)
