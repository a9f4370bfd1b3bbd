-- What the recordings of a run hold before its first turn, and what is promised of them however it ends.
use Rattle.std.specs.Prelude.{◌⊎◌, ℕ, List, [], ◌++◌, Some, None}
use Rattle.outside_calls.specs.Folder.{FolderState, KeepsName}
use Rattle.outside_calls.specs.Outputs.{Holds, HoldsFront}
use Rattle.shared_terms.specs.declared.role.Role.{Role}
use Rattle.shared_terms.specs.declared.role.Role.TheVariants.{Originator, Answerer}
use Rattle.sample_line.specs.Mode.{mode_of}
use Rattle.shared_terms.specs.Both.{Both}
use Rattle.recordings.specs.Recording.{header_of}
use Rattle.noise_script.specs.Script.{ScriptValue, IsInLimits}
use Rattle.link_run.specs.Run.{Accounts, Turn}
use Rattle.line_run.specs.Recorded.{Tapes, IsRecorded}
use Rattle.line_run.specs.Sampled.{LineRun}
use Rattle.line_run.specs.Scripted.{wire_of, link_of}
use Rattle.run_inputs.specs.Words.{RunNames}
use Rattle.run_commands.specs.Running.Files.{AreOf}

-- the folder failed as the headers were written: the originator's recording holds the beginning of its own and the answerer's nothing, or the
-- originator's all and the answerer's the beginning
abbrev pub HeadsPartly : FolderState → Tapes → Type 0
HeadsPartly f None = ⊥
HeadsPartly f (Some names) =
    (HoldsFront f names.orig (header_of (mode_of Originator)) × Holds f names.answ [])
    ⊎ (Holds f names.orig (header_of (mode_of Originator)) × HoldsFront f names.answ (header_of (mode_of Answerer)))

-- A recording holds the beginning of its header, and of the samples of what its role sends in some turns of the run of the folder's script and
-- files.
pub record HoldsTapeFront (old new : FolderState) (n : RunNames) (name : List ℕ) (role : Role) : Type 0 where
  pub script : ScriptValue
  pub limits : IsInLimits script
  pub files : Both (List ℕ)
  pub are_of : AreOf old n script files
  pub turns : List Turn
  pub ends : Accounts
  pub run : LineRun (wire_of script) (link_of script files) turns ends
  pub body : List ℕ
  pub recorded : IsRecorded (wire_of script) role turns body
  pub holds : HoldsFront new name (header_of (mode_of role) ++ body)

-- it is as it was, or holds no more than the beginning of its header, or that and more
abbrev pub TapeBegun : FolderState → FolderState → RunNames → List ℕ → Role → Type 0
TapeBegun old new n name role =
    KeepsName old new name ⊎ (HoldsFront new name (header_of (mode_of role)) ⊎ HoldsTapeFront old new n name role)

-- so do both, where there are any
abbrev pub TapesBegun : FolderState → FolderState → RunNames → Tapes → Type 0
TapesBegun old new n None = Unit {0}
TapesBegun old new n (Some names) = TapeBegun old new n names.orig Originator × TapeBegun old new n names.answ Answerer
