-- How the making of a recording ends, before its line is said. What is said of a name's octets holds where the folder
-- tells that name.
use Rattle.std.specs.Prelude.{◌≡◌, ◌⊎◌, ℕ, IsTrue, List, Result, Ok, Err}
use Rattle.shared_terms.specs.Prefix.{IsPrefixOf}
use Rattle.outside_calls.specs.Folder.{FolderState, octets_at, KeepsName}
use Rattle.signal_commands.specs.Encoding.Recorder.{IsRecordingOf}
use Rattle.shared_terms.specs.declared.limits.TheConstants.{FILE_LIMIT}
use Rattle.command_base.specs.Inputs.{IsWithin, IsLonger}
use Rattle.outside_calls.specs.Outputs.{Holds, HoldsFront, KeepsAll, SaysNothing}
use Rattle.command_base.specs.Job.{Job}
use Rattle.command_base.specs.Lines.{samples_line}
use Rattle.command_base.specs.declared.status.Status.TheVariants.{TooLong}
use Rattle.command_base.specs.declared.stop.Stop.{Stop}
use Rattle.command_base.specs.declared.stop.Stop.TheVariants.{Own, Read, Write, Say, NoMemory}
use Rattle.signal_commands.specs.Encoding.Words.{EncodeNames, inputs_of, outputs_of}

-- The file is within its limit, and this is its recording.
pub record RecordsFile (old : FolderState) (n : EncodeNames) (recording : List ℕ) (samples : ℕ) : Type 0 where
  pub octets : List ℕ
  pub within : IsWithin old n.file FILE_LIMIT
  pub read : IsTrue (old.tells n.file) → octets ≡ octets_at old n.file
  pub recorded : IsRecordingOf n.rate n.mode octets recording samples

-- The output holds the file's recording, of so many samples.
pub record WritesAll (old new : FolderState) (n : EncodeNames) (samples : ℕ) : Type 0 where
  pub recording : List ℕ
  pub records : RecordsFile old n recording samples
  pub rec : Holds new n.rec recording

-- The output holds the beginning of the file's recording.
pub record WritesPart (old new : FolderState) (n : EncodeNames) : Type 0 where
  pub recording : List ℕ
  pub samples : ℕ
  pub records : RecordsFile old n recording samples
  pub rec : HoldsFront new n.rec recording

-- The output holds the whole recording of octets with which the file begins.
pub record WritesFront (old new : FolderState) (n : EncodeNames) : Type 0 where
  pub octets : List ℕ
  pub within : IsWithin old n.file FILE_LIMIT
  pub front : IsTrue (old.tells n.file) → IsPrefixOf octets (octets_at old n.file)
  pub recording : List ℕ
  pub samples : ℕ
  pub recorded : IsRecordingOf n.rate n.mode octets recording samples
  pub rec : Holds new n.rec recording

-- the output is as it was, or holds the beginning of the file's recording
abbrev pub LeavesPart : FolderState → FolderState → EncodeNames → Type 0
LeavesPart old new n = KeepsName old new n.rec ⊎ WritesPart old new n

-- why there is no recording, or no whole one; word 2 names the file
abbrev pub EndsBy : FolderState → FolderState → EncodeNames → Stop → Type 0
EndsBy old new n (Own answer) = (answer ≡ TooLong 2) × KeepsAll old new × IsLonger old n.file FILE_LIMIT
EndsBy old new n (Read fault) = KeepsName old new n.rec ⊎ WritesFront old new n
EndsBy old new n (Write fault) = IsWithin old n.file FILE_LIMIT × LeavesPart old new n
EndsBy old new n (Say fault) = ⊥
EndsBy old new n NoMemory = ⊥

-- how the making of a recording ends: with so many samples, or before
abbrev pub Ends : FolderState → FolderState → EncodeNames → Result ℕ Stop → Type 0
Ends old new n (Ok samples) = WritesAll old new n samples
Ends old new n (Err stop) = EndsBy old new n stop

-- The job of the command: done, its line says the number of samples.
abbrev pub encode_job : EncodeNames → Job ℕ
encode_job n = record {
  inputs = inputs_of n;
  outputs = outputs_of n;
  Ends = λ old new end. Ends old new n end × SaysNothing old new;
  line_of = samples_line;
}
