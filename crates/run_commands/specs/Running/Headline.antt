-- What a run promises, over the folder before and after it. What is said of a name's octets holds where the folder tells that name.
use Rattle.std.specs.Prelude.{◌≡◌, ℕ, List}
use Rattle.std.specs.Option.{MatchOption}
use Rattle.outside_calls.specs.Folder.{FolderState, Said}
use Rattle.shared_terms.specs.declared.role.Role.TheVariants.{Originator, Answerer}
use Rattle.shared_terms.specs.Both.{Both}
use Rattle.noise_script.specs.Script.{ScriptValue, IsInLimits, delay_of}
use Rattle.link_run.specs.Run.{Link, Turn}
use Rattle.link_run.specs.Laws.{agreed_srej}
use Rattle.link_run.specs.Taken.{taken_octets}
use Rattle.line_run.specs.Ends.{RunEnd, Left, RunsTo, turns_heard}
use Rattle.line_run.specs.Ends as runs
use Rattle.line_run.specs.Scripted.{wire_of, link_of}
use Rattle.line_ends.specs.Scripts.{HasFewTurns}
use Rattle.line_ends.specs.Causes.{HasCause}
use Rattle.line_ends.specs.ReadOff.{AreReadOff}
use Rattle.command_base.specs.declared.status.Status.{Status}
use Rattle.command_base.specs.declared.status.Status.TheVariants.{Done}
use Rattle.command_base.specs.Job.{Shared}
use Rattle.command_base.specs.Lines.{done_line}
use Rattle.outside_calls.specs.Outputs.{Holds}
use Rattle.run_inputs.specs.Answers.{stop_by}
use Rattle.run_inputs.specs.Files.{KeptOrPrefix, HoldsWhole}
use Rattle.run_inputs.specs.Words.{RunNames, inputs_of, outputs_of}
use Rattle.line_world.specs.Tapes.{HoldTapes}
use Rattle.run_commands.specs.Running.Files.{AreOf}
use Rattle.run_commands.specs.Running.Tapes.{TapesBegun}

-- The received files hold what passed in these turns, by the numbers that were meant.
pub record HoldWhatPassed (f : FolderState) (n : RunNames) (script : ScriptValue) (link : Link) (ts : List Turn) : Type 0 where
  pub got_o : Holds f n.names.got_o (taken_octets (agreed_srej link) (delay_of script) Originator ts)
  pub got_a : Holds f n.names.got_a (taken_octets (agreed_srej link) (delay_of script) Answerer ts)

-- The run of the folder's script and files ended so: each outcome was read off the line, the received files hold what passed, the trace holds
-- its text, where the run is recorded the recordings hold what both ends sent, there were few turns, and its end has its cause: no link was
-- given up but for losses that went on.
pub record Ran (old new : FolderState) (n : RunNames) (end : RunEnd) : Type 0 where
  pub script : ScriptValue
  pub limits : IsInLimits script
  pub files : Both (List ℕ)
  pub are_of : AreOf old n script files
  pub left : Left
  pub run : RunsTo (wire_of script) (link_of script files) end left
  pub heard : List Turn
  pub heard_is : heard ≡ turns_heard (wire_of script) (link_of script files) run.turns run.ends end left run.ended
  pub read_off : AreReadOff (wire_of script) heard
  pub got : HoldWhatPassed new n script (link_of script files) heard
  pub trace : Holds new n.names.trace left.trace
  pub taped : HoldTapes new n.tapes (wire_of script) run.turns
  pub few : HasFewTurns script files run.turns run.ends
  pub cause : HasCause (wire_of script) files end left run

-- the run, where the answer is one by which a run itself ends; done says its last turn
abbrev pub RanBy : FolderState → FolderState → RunNames → Status → Type 0
RanBy old new n Done = (turn : ℕ) × Said old new (done_line turn) × Ran old new n (runs.IsDone turn)
RanBy old new n status = MatchOption (stop_by status) (Unit {0}) (Ran old new n)

-- Whatever the line does, each end receives a prefix of the other's file; done means both whole; every other end has its cause. Where the run is
-- recorded, each recording holds the beginning of what its end sends.
pub record Headline (old new : FolderState) (n : RunNames) (s : Status) : Type 0 where
  pub shared : Shared (inputs_of n) (outputs_of n) old new s
  pub got_o : KeptOrPrefix old new n.names.got_o n.names.answ
  pub got_a : KeptOrPrefix old new n.names.got_a n.names.orig
  pub whole_o : s ≡ Done → HoldsWhole old new n.names.got_o n.names.answ
  pub whole_a : s ≡ Done → HoldsWhole old new n.names.got_a n.names.orig
  pub taped : TapesBegun old new n n.tapes
  pub ran : RanBy old new n s
