-- What the register of the check holds: the coefficients of a polynomial, mirrored.
use Rattle.std.specs.Prelude.{◌≡◌, ℕ, zero, suc, ◌+◌, ◌-◌, ◌/◌, ◌%◌, ◌<◌, ◌≤◌, ◌^◌, Bool, true, if◌then◌else◌, List, length, nat_eq, slice_index_or}
use Rattle.std.specs.Int.{bit_at}
use Rattle.std.specs.Int.RustNames.{bit_xor}
use Rattle.frame_check.specs.Bits.{number}
use Rattle.frame_check.specs.FrameCheck.{coefficient}

-- the low bit of the register is the coefficient of the highest power below the width
pub record Mirrors (width register : ℕ) (polynomial : List Bool) : Type 0 where
  pub low : register < 2 ^ width
  pub each : (power : ℕ) → power < width → bit_at register (width - 1 - power) ≡ number (coefficient polynomial power)

-- a remainder of this width, mirrored
pub record Holds (width register : ℕ) (remainder : List Bool) : Type 0 where
  pub wide : length remainder ≡ width
  pub mirrors : Mirrors width register remainder

-- the register after one more bit that isn't set. The mirrored generator is added where the bit that leaves the register is set.
abbrev pub after_zero : ℕ → ℕ → ℕ
after_zero reversed register = bit_xor (register / 2) (if nat_eq (register % 2) 1 then reversed else 0)

-- the register after so many bits that aren't set
unfoldable pub after_zeros : ℕ → ℕ → ℕ → ℕ
after_zeros zero reversed register = register
after_zeros (suc count) reversed register = after_zeros count reversed (after_zero reversed register)

-- the register after four bits that aren't set, from each value of its low four bits
abbrev pub AreFours : ℕ → List ℕ → Type 0
AreFours reversed fours = (low : ℕ) → low < 16 → slice_index_or fours low 0 ≡ after_zeros 4 reversed low

-- a generator of this degree, whose coefficients below its degree are mirrored
pub record Divides (width : ℕ) (fours : List ℕ) (generator : List Bool) : Type 0 where
  pub positive : 0 < width
  pub small : width ≤ 32
  pub wide : length generator ≡ width + 1
  pub top : coefficient generator width ≡ true
  pub reversed : ℕ
  pub mirrors : Mirrors width reversed generator
  pub are_fours : AreFours reversed fours
