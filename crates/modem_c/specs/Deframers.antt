-- What a handle that leads to a deframer stands for, and what a push tells.
use Rattle.std.specs.Prelude.{◌≡◌, ◌≢◌, ℕ, ℤ, ◌<◌, ◌≤◌, ◌⊎◌, Bool, List, [], ◌++◌, length, Option, Some, None, IsSomeAnd}
use Rattle.shared_terms.specs.declared.role.Role.{Role}
use Rattle.frame_check.specs.declared.check.Check.{Check}
use Rattle.frame_check.specs.declared.sizes.TheConstants.{INFO}
use Rattle.bit_stuffing.specs.declared.piece.Piece.{Piece}
use Rattle.bit_stuffing.specs.declared.piece.Piece.TheVariants.{Whole, Ragged, Aborted, TooLong, TooShort}
use Rattle.bit_stuffing.specs.Found.{lent_of}
use Rattle.lapm_frames.specs.declared.frame.Frame.{Frame}
use Rattle.lapm_frames.specs.declared.fault.FrameFault.TheVariants.{Address, Control, Short, Long}
use Rattle.lapm_frames.specs.declared.fault.CheckedFault.{CheckedFault}
use Rattle.lapm_frames.specs.declared.fault.CheckedFault.TheVariants.{BadCheck, Refused}
use Rattle.lapm_frames.specs.Checked.{SpellsFrame, IsCheckedFault}
use Rattle.gateway.specs.declared.deframer.FrameReader.{FrameReader}
use Rattle.gateway.specs.declared.deframer.FrameStop.{FrameStop}
use Rattle.gateway.specs.declared.deframer.FrameStop.TheVariants as stops
use Rattle.gateway.specs.Given.{heard}
use Rattle.gateway.specs.Frames.{HasHeard, StopsAt}
use Rattle.modem_c.specs.declared.codes.TheConstants.{DONE, NOTHING, FULL, NO_MEMORY, BAD_ARGUMENT, LATE}
use Rattle.modem_c.specs.declared.deframer.Found.{Found}
use Rattle.modem_c.specs.declared.machine.Machine.{Machine}
use Rattle.modem_c.specs.declared.machine.Machine.TheVariants as machines
use Rattle.modem_c.specs.Answered.{Puts}
use Rattle.modem_c.specs.FrameFields.{HasFields, no_fields}
use Rattle.modem_c.specs.Led.{deframer_in}

-- a deframer of what this end sends, where I frames and S frames have this check, that has heard these bits
abbrev pub Deframes : Role → Check → Option Machine → List Bool → Type 0
Deframes sender check led past = IsSomeAnd (deframer_in led) (λ it. HasHeard sender check it past)

-- what making one for an end and a check answers, each of which a number may not name
abbrev pub MakesDeframer : Option Role → Option Check → Option Machine → Option Machine → ℤ → Type 0
MakesDeframer None check before after code = (code ≡ BAD_ARGUMENT) × (after ≡ before)
MakesDeframer (Some sender) None before after code = (code ≡ BAD_ARGUMENT) × (after ≡ before)
MakesDeframer (Some sender) (Some check) before after code =
    ((code ≡ DONE) × Deframes sender check after []) ⊎ ((code ≡ NO_MEMORY) × (after ≡ before))

-- what setting a check answers at a deframer, which a number may not name: it is the same deframer but for the check
abbrev pub SetsCheck : Option Check → FrameReader → Option Machine → Option Machine → ℤ → Type 0
SetsCheck None reader before after code = (code ≡ BAD_ARGUMENT) × (after ≡ before)
SetsCheck (Some check) reader before after code = (code ≡ DONE) × (after ≡ Some (machines.Deframer (record reader { check = check })))

-- what is found where nothing is read
abbrev pub nothing_found : Found
nothing_found = record { read = 0; ended = 0; info = 0; piece = 0; fault = 0; octet = 0; frame = no_fields }

-- a frame is told by its fields, and its information is written
pub record TellsFrame (frame : Frame) (found : Found) (before room : List ℕ) : Type 0 where
  pub piece_is : found.piece ≡ 1
  pub fault_is : found.fault ≡ 0
  pub octet_is : found.octet ≡ 0
  pub info : List ℕ
  pub fields : HasFields frame found.frame info
  pub puts : Puts info before room found.info

-- what is no frame, by the number of what it is, and where it is refused by that of the reason, and by the octet where one is refused
pub record TellsNoFrame (found : Found) (piece fault octet : ℕ) : Type 0 where
  pub piece_is : found.piece ≡ piece
  pub fault_is : found.fault ≡ fault
  pub octet_is : found.octet ≡ octet
  pub frame_is : found.frame ≡ no_fields

abbrev pub TellsFault : CheckedFault → Found → Type 0
TellsFault BadCheck found = TellsNoFrame found 6 0 0
TellsFault (Refused (Address octet)) found = TellsNoFrame found 7 1 octet
TellsFault (Refused (Control octet)) found = TellsNoFrame found 7 2 octet
TellsFault (Refused Short) found = TellsNoFrame found 7 3 0
TellsFault (Refused (Long count)) found = TellsNoFrame found 7 4 0

-- Whole octets are told as the frame that they are, sent by this end with this check, or by why they are none.
pub data TellsOctets (sender : Role) (check : Check) (octets : List ℕ) (found : Found) (before room : List ℕ) : Type 0 where
  AsFrame : (frame : Frame) → SpellsFrame check sender 0 octets frame → TellsFrame frame found before room
      → TellsOctets sender check octets found before room
  AsFault : (fault : CheckedFault) → IsCheckedFault check sender 0 octets fault → TellsFault fault found → Puts [] before room found.info
      → TellsOctets sender check octets found before room

-- nothing but the number of a piece that isn't whole
pub record TellsPiece (found : Found) (piece : ℕ) (before room : List ℕ) : Type 0 where
  pub numbers : TellsNoFrame found piece 0 0
  pub puts : Puts [] before room found.info

-- the piece that these bits end with
abbrev pub Tells : Role → Check → List Bool → Piece → Found → List ℕ → List ℕ → Type 0
Tells sender check bits Whole found before room = TellsOctets sender check (lent_of bits) found before room
Tells sender check bits Ragged found before room = TellsPiece found 2 before room
Tells sender check bits Aborted found before room = TellsPiece found 3 before room
Tells sender check bits TooLong found before room = TellsPiece found 4 before room
Tells sender check bits TooShort found before room = TellsPiece found 5 before room

-- what is answered and told where a push stops so, these bits having been heard
abbrev pub TellsStop : Role → Check → List Bool → FrameStop → Found → List ℕ → List ℕ → ℤ → Type 0
TellsStop sender check bits stops.Nothing found before room code = (code ≡ NOTHING) × TellsPiece found 0 before room
TellsStop sender check bits (stops.Piece piece) found before room code = (code ≡ DONE) × Tells sender check bits piece found before room
TellsStop sender check bits stops.Late found before room code = (code ≡ LATE) × TellsPiece found 0 before room

-- What a push of these bits behind the past answers and tells, with what was the room before.
pub data Pushed (sender : Role) (check : Check) (past : List Bool) (bits : List ℕ) (found : Found) (before room : List ℕ) (code : ℤ) : Type 0 where
  NoRoom : length before < INFO → code ≡ FULL → found ≡ nothing_found → room ≡ before → Pushed sender check past bits found before room code
  Stopped : (stop : FrameStop) → INFO ≤ length before → StopsAt past bits found.read stop → found.ended ≡ length (past ++ heard found.read bits)
      → TellsStop sender check (past ++ heard found.read bits) stop found before room code
      → Pushed sender check past bits found before room code

-- What is answered where the octets of the piece are asked for that the bits end with: none where it isn't whole.
abbrev pub Lends : List ℕ → List ℕ → List ℕ → ℕ → ℤ → Type 0
Lends octets before room count code =
    ((octets ≡ []) × (code ≡ NOTHING) × Puts [] before room count)
    ⊎ ((octets ≢ []) × (length before < length octets) × (code ≡ FULL) × Puts [] before room count)
    ⊎ ((octets ≢ []) × (length octets ≤ length before) × (code ≡ DONE) × Puts octets before room count)
