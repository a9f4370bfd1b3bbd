-- Worked values of the definitions.
use Rattle.bit_stuffing.proofs.Names.{◌≡◌, replicate, true, false, [], ◌∷◌, ◌++◌, refl, Some, flag, sent_bits, Plain, Flags, stuffed, Whole}
use Rattle.bit_stuffing.proofs.Names.{Ragged, Aborted, bits_of}
use Rattle.bit_stuffing.specs.Found.{found_at, pieces_of}

ones_stuffed : stuffed 5
    (bits_of (255 ∷ 255 ∷ [])) ≡ true ∷ true ∷ true ∷ true ∷ true ∷ false ∷ true ∷ true ∷ true ∷ true ∷ true ∷ false ∷ true ∷ true ∷ true ∷
    true ∷ true ∷ false ∷ true ∷ []
ones_stuffed = refl

ragged : pieces_of (flag
    ++ (true ∷ true ∷ true ∷ true ∷ true ∷ false ∷ true ∷ true ∷ true ∷ true ∷ true ∷ false ∷ true ∷ true ∷ true ∷ true ∷ true ∷ false ∷ [])
    ++ flag) ≡ record { place = 34; piece = Ragged; octets = [] } ∷ []
unfolding pieces_of found_at
ragged = refl

sabme : pieces_of (bits_of (0x7e ∷ 0x03 ∷ 0xdf ∷ 0x3e ∷ 0xb9 ∷ 0xfa ∷ 0xf9 ∷ [])) ≡ record {
  place = 50;
  piece = Whole;
  octets = 0x03 ∷ 0x7f ∷ 0x5f ∷ 0xae ∷ [];
} ∷ []
unfolding pieces_of found_at
sabme = refl

-- a frame in a slot of 80 bits, at whose end seven bits of a flag stand, and ones: the first of these is the seventh in a row
aborted : pieces_of (sent_bits 80 (Flags (Some (1 ∷ 2 ∷ 3 ∷ 255 ∷ [])) ∷ Plain (replicate 10 true) ∷ []))
    ≡ record { place = 73; piece = Whole; octets = 1 ∷ 2 ∷ 3 ∷ 255 ∷ [] } ∷ record { place = 81; piece = Aborted; octets = [] } ∷ []
unfolding pieces_of found_at
aborted = refl
