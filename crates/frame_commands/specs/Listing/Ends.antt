-- How a listing ends, before its last line is said. What is said of a name's octets holds where the folder tells that name.
use Rattle.std.specs.Prelude.{◌≡◌, ◌⊎◌, ℕ, IsTrue, List, [], ◌∷◌, ◌++◌, length, Result, Ok, Err}
use Rattle.outside_calls.specs.Folder.{FolderState, octets_at, Said, PartlySaid}
use Rattle.frame_check.specs.Bits.{bits_of}
use Rattle.bit_stuffing.specs.Found.{Found, pieces_of}
use Rattle.shared_terms.specs.declared.limits.TheConstants.{FILE_LIMIT}
use Rattle.command_base.specs.Inputs.{IsWithin, IsLonger}
use Rattle.command_base.specs.Job.{Job}
use Rattle.command_base.specs.Lines.{pieces_line}
use Rattle.command_base.specs.declared.status.Status.TheVariants.{TooLong}
use Rattle.command_base.specs.declared.stop.Stop.{Stop}
use Rattle.command_base.specs.declared.stop.Stop.TheVariants.{Own, Read, Write, Say, NoMemory}
use Rattle.frame_commands.specs.Listing.Words.{FramesNames}
use Rattle.command_base.specs.Readings.{AreLines}

-- The lines of all pieces of the file's bits were said, in order, and they are so many.
pub record SaysAll (old new : FolderState) (n : FramesNames) (count : ℕ) : Type 0 where
  pub octets : List ℕ
  pub within : IsWithin old n.bits FILE_LIMIT
  pub read : IsTrue (old.tells n.bits) → octets ≡ octets_at old n.bits
  pub lines : List ℕ
  pub are_lines : AreLines n.sender (pieces_of (bits_of octets)) lines
  pub said : Said old new lines
  pub count_is : count ≡ length (pieces_of (bits_of octets))

-- These are the lines of the first pieces of the file's bits.
pub record AreFirst (old : FolderState) (n : FramesNames) (lines : List ℕ) : Type 0 where
  pub octets : List ℕ
  pub read : IsTrue (old.tells n.bits) → octets ≡ octets_at old n.bits
  pub told : List Found
  pub rest : List Found
  pub pieces_are : pieces_of (bits_of octets) ≡ told ++ rest
  pub are_lines : AreLines n.sender told lines

-- the lines of the first pieces were said
abbrev pub SaysFirst : FolderState → FolderState → FramesNames → Type 0
SaysFirst old new n = (lines : List ℕ) × AreFirst old n lines × Said old new lines

-- a beginning of the lines of the first pieces was said
abbrev pub SaysPart : FolderState → FolderState → FramesNames → Type 0
SaysPart old new n = (lines : List ℕ) × AreFirst old n lines × PartlySaid old new lines

-- why not all pieces are listed; word 2 names the file
abbrev pub EndsBy : FolderState → FolderState → FramesNames → Stop → Type 0
EndsBy old new n (Own answer) = (answer ≡ TooLong 2) × Said old new [] × IsLonger old n.bits FILE_LIMIT
EndsBy old new n (Read fault) = Said old new [] ⊎ (IsWithin old n.bits FILE_LIMIT × SaysFirst old new n)
EndsBy old new n (Say fault) = IsWithin old n.bits FILE_LIMIT × SaysPart old new n
EndsBy old new n (Write fault) = ⊥
EndsBy old new n NoMemory = ⊥

-- how a listing ends: with so many pieces, or before
abbrev pub Ends : FolderState → FolderState → FramesNames → Result ℕ Stop → Type 0
Ends old new n (Ok count) = SaysAll old new n count
Ends old new n (Err stop) = EndsBy old new n stop

-- The job of the command: it writes no file, and once it is done its last line says the number of pieces.
abbrev pub frames_job : FramesNames → Job ℕ
frames_job n = record { inputs = n.bits ∷ []; outputs = []; Ends = λ old new end. Ends old new n end; line_of = pieces_line }
