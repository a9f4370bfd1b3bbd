-- How far a file is recorded.
use Rattle.std.specs.Prelude.{ℕ, List, [], ◌++◌}
use Rattle.outside_calls.specs.Folder.{FolderState}
use Rattle.signal_commands.specs.declared.encode.recorder.Recorder.{Recorder}
use Rattle.recordings.specs.Recording.{header_at}
use Rattle.signal_commands.specs.Encoding.Recorder.{RecorderStands}
use Rattle.shared_terms.specs.declared.limits.TheConstants.{FILE_LIMIT}
use Rattle.command_base.specs.Inputs.{IsWithin, ReadTo}
use Rattle.outside_calls.specs.Outputs.{Holds, OnlyOutput}
use Rattle.signal_commands.specs.Encoding.Words.{EncodeNames}

-- The file is within its limit, and the output was made.
pub record Begun (old now : FolderState) (n : EncodeNames) : Type 0 where
  pub within : IsWithin old n.file FILE_LIMIT
  pub only : OnlyOutput old now n.rec
  pub empty : Holds now n.rec []

-- The first octets of the file, so many, are recorded behind the header, and the output holds that.
pub record RecordedTo (old now : FolderState) (n : EncodeNames) (recorder : Recorder) (at : ℕ) : Type 0 where
  pub octets : List ℕ
  pub recorded : List ℕ
  pub stands : RecorderStands n.rate n.mode recorder octets recorded
  pub read : ReadTo old now n.file FILE_LIMIT at octets
  pub only : OnlyOutput old now n.rec
  pub rec : Holds now n.rec (header_at n.rate n.mode ++ recorded)
