-- For which samples and bits a reader of the middle of a line stands.
use Rattle.std.specs.Prelude.{◌≡◌, ℕ, ◌*◌, min, Bool, List, [], ◌∷◌, length, drop, Option, Some, None}
use Rattle.frame_check.specs.Bits.{low_bits}
use Rattle.scramblers.specs.declared.mode.Mode.{Mode}
use Rattle.symbol_map.specs.declared.sample.Sample.{Sample}
use Rattle.exact_decoder.specs.Surviving.V32.{at_any}
use Rattle.line_coding.specs.V32.{LineReading, LineRead}
use Rattle.line_coding.specs.declared.middle_reader.Taken.{Taken}
use Rattle.line_coding.specs.declared.middle_reader.Taken.TheVariants as taken

-- what a reader keeps
pub record Middle : Type 0 where
  pub reading : LineReading
  pub taken : ℕ

-- The samples are read, from any state, and the bits are those behind the first quad and 23 more.
pub record MiddleRead (mode : Mode) (depth : ℕ) (m : Middle) (samples : List Sample) (bits : List Bool) : Type 0 where
  pub all : List Bool
  pub read : LineRead mode at_any depth m.reading samples all
  pub bits_are : bits ≡ drop 27 all
  pub counted : 4 * m.taken ≡ min 28 (length all)  -- of seven labels at most

-- the bits that a label gives
abbrev pub bits_of_taken : Taken → List Bool
bits_of_taken taken.Nothing = []
bits_of_taken (taken.LastBit bit) = bit ∷ []
bits_of_taken (taken.Four four) = low_bits 4 four

abbrev pub bits_taken : Option Taken → List Bool
bits_taken None = []
bits_taken (Some t) = bits_of_taken t
