-- What the pieces of a stream are to a reader of frames, and the lines that say it.
use Rattle.std.specs.Prelude.{◌≡◌, ℕ, ◌+◌, ◌/◌, ◌%◌, List, [], ◌∷◌, ◌++◌, length, codes, decimal, if◌then◌else◌, nat_lt, Result, Ok, Err}
use Rattle.frame_check.specs.declared.check.Check.TheVariants.{Sixteen}
use Rattle.bit_stuffing.specs.declared.piece.Piece.{Piece}
use Rattle.bit_stuffing.specs.declared.piece.Piece.TheVariants as pieces
use Rattle.bit_stuffing.specs.Found.{Found}
use Rattle.shared_terms.specs.declared.role.Role.{Role}
use Rattle.lapm_frames.specs.declared.frame.Frame.{Frame}
use Rattle.lapm_frames.specs.declared.fault.FrameFault.{FrameFault}
use Rattle.lapm_frames.specs.declared.fault.FrameFault.TheVariants as faults
use Rattle.lapm_frames.specs.declared.fault.CheckedFault.{CheckedFault}
use Rattle.lapm_frames.specs.declared.fault.CheckedFault.TheVariants as checks
use Rattle.lapm_frames.specs.Checked.{IsCheckedFault, SpellsFrame}
use Rattle.line_texts.specs.FrameText.{frame_text}

-- what a piece of a stream is to a reader of frames, who knows the end that sent it
pub data Reading : Type 0 where
  -- with the check of 16 bits
  IsFrame : Frame → Reading
  -- the check is right, and the octets before it are no frame
  IsRefused : FrameFault → Reading
  -- the check is wrong, of so many octets, with those of the check
  IsUnchecked : ℕ → Reading
  -- the bits between two flags are no stuffing of whole octets
  IsRagged : Reading
  -- seven ones in a row stood in place of the second flag
  IsAborted : Reading
  -- more bits than the longest frame has
  IsTooLong : Reading
  -- fewer octets than the shortest frame has
  IsTooShort : Reading

-- what a whole piece of these octets is, on channel 0: a frame or none, with the check of 16 bits behind it, or octets without it
abbrev pub ReadsWhole : Role → List ℕ → Reading → Type 0
ReadsWhole sender octets (IsFrame frame) = SpellsFrame Sixteen sender 0 octets frame
ReadsWhole sender octets (IsRefused fault) = IsCheckedFault Sixteen sender 0 octets (checks.Refused fault)
ReadsWhole sender octets (IsUnchecked count) = IsCheckedFault Sixteen sender 0 octets checks.BadCheck × (count ≡ length octets)
ReadsWhole sender octets reading = ⊥

-- what a piece of these octets is, by its kind
abbrev pub ReadsPiece : Role → Piece → List ℕ → Reading → Type 0
ReadsPiece sender pieces.Whole octets reading = ReadsWhole sender octets reading
ReadsPiece sender pieces.Ragged octets reading = reading ≡ IsRagged
ReadsPiece sender pieces.Aborted octets reading = reading ≡ IsAborted
ReadsPiece sender pieces.TooLong octets reading = reading ≡ IsTooLong
ReadsPiece sender pieces.TooShort octets reading = reading ≡ IsTooShort

abbrev pub Reads : Role → Found → Reading → Type 0
Reads sender found reading = ReadsPiece sender found.piece found.octets reading

-- what was read of a whole piece of so many octets
abbrev pub reading_of : Result Frame CheckedFault → ℕ → Reading
reading_of (Ok frame) count = IsFrame frame
reading_of (Err (checks.Refused fault)) count = IsRefused fault
reading_of (Err checks.BadCheck) count = IsUnchecked count

-- ---- lines

-- a digit below sixteen
abbrev pub hex_digit : ℕ → ℕ
hex_digit n = if nat_lt n 10 then 48 + n else 87 + n

-- an octet as two hexadecimal digits
abbrev pub hex_octet : ℕ → List ℕ
hex_octet octet = hex_digit (octet / 16) ∷ hex_digit (octet % 16) ∷ []

abbrev pub fault_words : FrameFault → List ℕ
fault_words (faults.Address octet) = codes "address " ++ hex_octet octet
fault_words (faults.Control octet) = codes "control " ++ hex_octet octet
fault_words faults.Short = codes "short"
fault_words (faults.Long len) = codes "long " ++ decimal len

abbrev pub reading_line : Reading → List ℕ
reading_line (IsFrame frame) = codes "frame " ++ frame_text frame ++ codes "\n"
reading_line (IsRefused fault) = codes "refused " ++ fault_words fault ++ codes "\n"
reading_line (IsUnchecked count) = codes "bad check " ++ decimal count ++ codes "\n"
reading_line IsRagged = codes "ragged\n"
reading_line IsAborted = codes "aborted\n"
reading_line IsTooLong = codes "too long\n"
reading_line IsTooShort = codes "too short\n"

-- the line of a piece
pub record IsLine (sender : Role) (found : Found) (line : List ℕ) : Type 0 where
  pub reading : Reading
  pub reads : Reads sender found reading
  pub line_is : line ≡ reading_line reading

-- the lines of these pieces, in order
abbrev pub AreLines : Role → List Found → List ℕ → Type 0
AreLines sender [] lines = lines ≡ []
AreLines sender (found ∷ more) lines =
    (reading : Reading) × (rest : List ℕ) × Reads sender found reading × (lines ≡ reading_line reading ++ rest) × AreLines sender more rest
