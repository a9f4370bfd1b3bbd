-- How many quads the bits of a slot have.
use Rattle.detection.proofs.Names.{ℕ, ◌*◌, ◌≡◌, Bool, List, length, arith, line_bits}
use Rattle.bit_stuffing.proofs.Written.{length-line_bits}

-- so many quads are a slot's
pub whole-slot : (quads : List ℕ) (bits : List Bool) (symbols : ℕ) → line_bits quads ≡ bits → length bits ≡ 4 * symbols
    → length quads ≡ symbols
whole-slot quads bits symbols same long = grind (arith, length-line_bits)
