-- How the measuring of a recording ends, before its line is said. What is said of a name's octets holds where the folder tells that
-- name.
use Rattle.std.specs.Prelude.{◌≡◌, ◌≢◌, ℕ, ◌+◌, ◌*◌, min, nat_lt, IsTrue, List, [], ◌∷◌, length, take, Result, Ok, Err}
use Rattle.scramblers.specs.declared.mode.Mode.{Mode}
use Rattle.outside_calls.specs.Folder.{FolderState, octets_at}
use Rattle.outside_calls.specs.declared.folder.FolderFault.{FolderFault}
use Rattle.noise_bound.specs.Near.{sure}
use Rattle.noise_bound.specs.Margins.{IsCostOf, Measured}
use Rattle.recordings.specs.declared.rate.Rate.TheVariants as rates
use Rattle.recordings.specs.declared.header.TheConstants.{HEADER}
use Rattle.recordings.specs.Recording.{header_of}
use Rattle.recordings.specs.Samples.{samples_in}
use Rattle.command_base.specs.Recordings.{ReadsRecording, HasNoHeader}
use Rattle.command_base.specs.declared.limits.TheConstants.{RECORDING_LIMIT}
use Rattle.shared_terms.specs.declared.limits.TheConstants.{FILE_LIMIT}
use Rattle.command_base.specs.declared.status.Status.{Status}
use Rattle.command_base.specs.declared.status.Status.TheVariants.{TooLong, BadRecording}
use Rattle.command_base.specs.declared.stop.Stop.{Stop}
use Rattle.command_base.specs.declared.stop.Stop.TheVariants.{Own, Read}
use Rattle.command_base.specs.Inputs.{IsWithin, IsLonger}
use Rattle.command_base.specs.Job.{Job}
use Rattle.command_base.specs.Lines.{margin_line}
use Rattle.outside_calls.specs.Outputs.{SaysNothing}
use Rattle.command_base.specs.Stops.{ReadFails}
use Rattle.signal_commands.specs.Margins.Words.{MarginNames, inputs_of}

-- The recording is a header, and eight octets for each octet of the file: the file's octets cost so much against its samples.
pub record Measures (old : FolderState) (n : MarginNames) (m : Measured) : Type 0 where
  pub mode : Mode
  pub content : List ℕ
  pub reads : ReadsRecording old n.rec rates.Trellis mode content
  pub octets : List ℕ
  pub within : IsWithin old n.file FILE_LIMIT
  pub file_is : IsTrue (old.tells n.file) → octets ≡ octets_at old n.file
  pub fits : length content ≡ 8 * length octets
  pub costs : IsCostOf mode octets (samples_in content) m.cost

-- The recording begins with a header, and both inputs are within their limits.
pub record AreOpen (old : FolderState) (n : MarginNames) (mode : Mode) : Type 0 where
  pub rec_within : IsWithin old n.rec RECORDING_LIMIT
  pub file_within : IsWithin old n.file FILE_LIMIT
  pub header : IsTrue (old.tells n.rec) → header_of mode ≡ take HEADER (octets_at old n.rec)

-- how many octets a recording of this file has
abbrev pub recorded_length : FolderState → MarginNames → ℕ
recorded_length old n = 8 + 8 * length (octets_at old n.file)

-- The recording has another length than that of the file: the smaller one of the two is this place.
pub record HasOtherLength (old : FolderState) (n : MarginNames) (at : ℕ) : Type 0 where
  pub mode : Mode
  pub begins : AreOpen old n mode
  pub other : IsTrue (old.tells n.rec) → IsTrue (old.tells n.file) → length (octets_at old n.rec) ≢ recorded_length old n
  pub at_is : IsTrue (old.tells n.rec) → IsTrue (old.tells n.file) → at ≡ min (length (octets_at old n.rec)) (recorded_length old n)

-- What ends it but a fault: an input is too long (word 1 names the recording and word 2 the file), or the recording begins with no
-- header, or is none of so many octets.
pub data EndsOwn (old : FolderState) (n : MarginNames) (answer : Status) : Type 0 where
  rec_is_long : answer ≡ TooLong 1 → IsLonger old n.rec RECORDING_LIMIT → EndsOwn old n answer
  file_is_long : answer ≡ TooLong 2 → IsWithin old n.rec RECORDING_LIMIT → IsLonger old n.file FILE_LIMIT → EndsOwn old n answer
  is_other : (at : ℕ) → answer ≡ BadRecording at → IsWithin old n.file FILE_LIMIT → HasNoHeader old n.rec rates.Trellis at
      → EndsOwn old n answer
  is_misfit : (at : ℕ) → answer ≡ BadRecording at → HasOtherLength old n at → EndsOwn old n answer

-- Which input was not read: the recording; the file, once the recording is within its limit; or one of them, once both are.
pub data FailsToRead (old new : FolderState) (n : MarginNames) (fault : FolderFault) : Type 0 where
  rec_unread : ReadFails old new (n.rec ∷ []) fault → FailsToRead old new n fault
  file_unread : IsWithin old n.rec RECORDING_LIMIT → ReadFails old new (n.file ∷ []) fault → FailsToRead old new n fault
  one_unread : IsWithin old n.rec RECORDING_LIMIT → IsWithin old n.file FILE_LIMIT → FailsToRead old new n fault

-- why a recording is not measured; no memory is taken, and no line is said before the last one
abbrev pub EndsBy : FolderState → FolderState → MarginNames → Stop → Type 0
EndsBy old new n (Own answer) = EndsOwn old n answer
EndsBy old new n (Read fault) = FailsToRead old new n fault
EndsBy old new n stop = ⊥

-- how the measuring of a recording ends: with this margin, or before
abbrev pub Ends : FolderState → FolderState → MarginNames → Result Measured Stop → Type 0
Ends old new n (Ok m) = Measures old n m
Ends old new n (Err stop) = EndsBy old new n stop

-- The job of the command: it writes no file, and once it is done its line says the cost, and whether that is below the bound.
abbrev pub margin_job : MarginNames → Job Measured
margin_job n = record {
  inputs = inputs_of n;
  outputs = [];
  Ends = λ old new end. Ends old new n end × SaysNothing old new;
  line_of = λ m. margin_line m.cost (nat_lt m.cost sure);
}
