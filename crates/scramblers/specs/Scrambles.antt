-- Scrambling with the generating polynomial 1 + x^-tap + x^-23, and its inverse, as equations of two lists of bits.
use Rattle.std.specs.Prelude.{◌≡◌, ℕ, ◌<◌, Bool, List, length}
use Rattle.scramblers.specs.Stream.{bit_at_place, earlier}
use Rattle.frame_check.specs.Xor.{xor}

-- each bit of the line is the input's bit at its place, turned by the line's own bits tap places and 23 places before
pub record Scrambles (tap : ℕ) (input line : List Bool) : Type 0 where
  pub lengths : length line ≡ length input
  pub each : (i : ℕ) → i < length input →
      bit_at_place line i ≡ xor (xor (bit_at_place input i) (earlier line i tap)) (earlier line i 23)

-- each bit of the output is the line's bit at its place, turned by the line's bits tap places and 23 places before
pub record Descrambles (tap : ℕ) (line output : List Bool) : Type 0 where
  pub lengths : length output ≡ length line
  pub each : (i : ℕ) → i < length line →
      bit_at_place output i ≡ xor (xor (bit_at_place line i) (earlier line i tap)) (earlier line i 23)
