-- Why hexadecimal digits are refused.
use Rattle.std.specs.Prelude.{◌≡◌, ◌⊎◌, ℕ, ◌<◌, ◌≤◌, ◌%◌, false, List, length, take, slice_index}
use Rattle.std.specs.List.{AllPass}
use Rattle.hex.specs.Hex.{is_hex_digit}
use Rattle.hex.specs.declared.error.FromHexError.{FromHexError}
use Rattle.hex.specs.declared.error.FromHexError.TheVariants.{InvalidHexCharacter, OddLength, InvalidStringLength, OutOfMemory}
use Rattle.command_base.specs.declared.limits.TheConstants.{HEX_LIMIT}
use Rattle.command_base.specs.declared.status.Status.{Status}
use Rattle.command_base.specs.declared.status.Status.TheVariants.{BadHex, TooLong}

-- The first octet that is no digit.
pub record IsFirstOther (digits : List ℕ) (at : ℕ) : Type 0 where
  pub within : at < length digits
  pub other : is_hex_digit (slice_index digits at) ≡ false
  pub before : AllPass is_hex_digit (take at digits)

-- an odd number of octets, which is the place; else the first octet that is no digit
abbrev pub IsBadHex : List ℕ → ℕ → Type 0
IsBadHex digits at = ((length digits % 2 ≡ 1) × (at ≡ length digits)) ⊎ ((length digits % 2 ≡ 0) × IsFirstOther digits at)

-- why digits are refused, by the answer
abbrev pub RefusesDigits : List ℕ → Status → Type 0
RefusesDigits digits (TooLong word) = (word ≡ 1) × (HEX_LIMIT < length digits)
RefusesDigits digits (BadHex at) = (length digits ≤ HEX_LIMIT) × IsBadHex digits at
RefusesDigits digits status = ⊥

-- the place that an error of decoding names, of so many digits
abbrev pub place_named : ℕ → FromHexError → ℕ
place_named count (InvalidHexCharacter c index) = index
place_named count OddLength = count
place_named count InvalidStringLength = count
place_named count OutOfMemory = count
