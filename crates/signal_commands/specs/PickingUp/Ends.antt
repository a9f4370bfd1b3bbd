-- How the picking up of a recording ends, before its last line is said. What is said of a name's octets holds where the folder tells
-- that name.
use Rattle.std.specs.Prelude.{◌≡◌, ◌≢◌, ◌⊎◌, ℕ, ◌+◌, ◌%◌, List, [], ◌∷◌, length, take, Some, None, Result, Ok, Err}
use Rattle.scramblers.specs.declared.mode.Mode.{Mode}
use Rattle.symbol_map.specs.declared.sample.Sample.{Sample}
use Rattle.shared_terms.specs.declared.role.Role.{Role}
use Rattle.outside_calls.specs.Folder.{FolderState, Said}
use Rattle.exact_decoder.specs.Surviving.Survivors.{LostIs}
use Rattle.exact_decoder.specs.Surviving.V32.{any_trellis, line_depth}
use Rattle.command_base.specs.declared.limits.TheConstants.{RECORDING_LIMIT}
use Rattle.command_base.specs.declared.status.Status.{Status}
use Rattle.command_base.specs.declared.status.Status.TheVariants.{TooLong, BadRecording, LineLost}
use Rattle.command_base.specs.declared.stop.Stop.{Stop}
use Rattle.command_base.specs.declared.stop.Stop.TheVariants.{Own, Read, Write, Say, NoMemory}
use Rattle.command_base.specs.Inputs.{IsLonger}
use Rattle.command_base.specs.Job.{Job}
use Rattle.command_base.specs.Lines.{pieces_line}
use Rattle.recordings.specs.declared.rate.Rate.TheVariants as rates
use Rattle.recordings.specs.declared.header.TheConstants.{HEADER}
use Rattle.recordings.specs.Samples.{samples_in}
use Rattle.command_base.specs.Recordings.{hearer_of, ReadsRecording, HasNoHeader, Opened}
use Rattle.signal_commands.specs.PickingUp.Gives.{AreFollowed, SaysPieces, SaysPart}

-- it ends with a whole sample, and is not lost
pub record IsFollowed (content : List ℕ) : Type 0 where
  pub whole : length content % 4 ≡ 0
  pub not_lost : LostIs any_trellis line_depth (samples_in content) None

-- The lines were said of all pieces that the recording gives, and they are so many.
pub record PicksUpAll (old new : FolderState) (rec : List ℕ) (count : ℕ) : Type 0 where
  pub mode : Mode
  pub content : List ℕ
  pub reads : ReadsRecording old rec rates.Trellis mode content
  pub followed : IsFollowed content
  pub says : SaysPieces old new mode (samples_in content)
  pub count_is : count ≡ length says.pieces

-- The last sample is cut at this place. The lines were said of the pieces that the others give.
pub record SampleCut (old new : FolderState) (rec : List ℕ) (at : ℕ) : Type 0 where
  pub mode : Mode
  pub content : List ℕ
  pub reads : ReadsRecording old rec rates.Trellis mode content
  pub cut : length content % 4 ≢ 0
  pub at_is : at + length content % 4 ≡ HEADER + length content
  pub not_lost : LostIs any_trellis line_depth (samples_in content) None
  pub says : SaysPieces old new mode (samples_in content)

-- The line is lost with this symbol. The lines were said of the pieces that the samples up to it give.
pub record RecordingLost (old new : FolderState) (rec : List ℕ) (role : Role) (symbol : ℕ) : Type 0 where
  pub mode : Mode
  pub content : List ℕ
  pub reads : ReadsRecording old rec rates.Trellis mode content
  pub role_is : role ≡ hearer_of mode
  pub lost : LostIs any_trellis line_depth (samples_in content) (Some symbol)
  pub says : SaysPieces old new mode (take (symbol + 1) (samples_in content))

-- The lines were said of the pieces that the first samples give.
pub record PicksUpFront (old new : FolderState) (rec : List ℕ) : Type 0 where
  pub mode : Mode
  pub content : List ℕ
  pub reads : ReadsRecording old rec rates.Trellis mode content
  pub first : List Sample
  pub followed : AreFollowed (samples_in content) first
  pub says : SaysPieces old new mode first

-- A beginning was said of the lines of the first pieces that the first samples give.
pub record PicksUpPart (old new : FolderState) (rec : List ℕ) : Type 0 where
  pub mode : Mode
  pub content : List ℕ
  pub reads : ReadsRecording old rec rates.Trellis mode content
  pub first : List Sample
  pub followed : AreFollowed (samples_in content) first
  pub says : SaysPart old new mode first

-- What ends it but a fault: the recording is too long, begins with no header, ends within a sample, or is lost. Word 1 names it.
pub data EndsOwn (old new : FolderState) (rec : List ℕ) (answer : Status) : Type 0 where
  is_long : answer ≡ TooLong 1 → Said old new [] → IsLonger old rec RECORDING_LIMIT → EndsOwn old new rec answer
  is_other : (at : ℕ) → answer ≡ BadRecording at → Said old new [] → HasNoHeader old rec rates.Trellis at → EndsOwn old new rec answer
  is_cut : (at : ℕ) → answer ≡ BadRecording at → SampleCut old new rec at → EndsOwn old new rec answer
  is_lost : (role : Role) (symbol : ℕ) → answer ≡ LineLost role symbol → RecordingLost old new rec role symbol → EndsOwn old new rec answer

-- There is no memory for a decoder. Nothing was said, and the folder counted no fault.
abbrev pub WantsMemory : FolderState → FolderState → List ℕ → Type 0
WantsMemory old new rec = (mode : Mode) × Opened old new rec rates.Trellis mode

-- why a recording is not picked up, or not to its end
abbrev pub EndsBy : FolderState → FolderState → List ℕ → Stop → Type 0
EndsBy old new rec (Own answer) = EndsOwn old new rec answer
EndsBy old new rec (Read fault) = Said old new [] ⊎ PicksUpFront old new rec
EndsBy old new rec (Say fault) = PicksUpPart old new rec
EndsBy old new rec (Write fault) = ⊥
EndsBy old new rec NoMemory = WantsMemory old new rec

-- how the picking up of a recording ends: with so many pieces, or before
abbrev pub Ends : FolderState → FolderState → List ℕ → Result ℕ Stop → Type 0
Ends old new rec (Ok count) = PicksUpAll old new rec count
Ends old new rec (Err stop) = EndsBy old new rec stop

-- The job of the command: it writes no file, and once it is done its last line says the number of pieces.
abbrev pub pickup_job : List ℕ → Job ℕ
pickup_job rec = record { inputs = rec ∷ []; outputs = []; Ends = λ old new end. Ends old new rec end; line_of = pieces_line }
