-- What a tap promises, over the folder before and after it. What is said of a name's octets holds where the folder tells that name.
use Rattle.std.specs.Prelude.{ℕ, IsTrue, List}
use Rattle.std.specs.Option.{MatchOption}
use Rattle.shared_terms.specs.Both.{Both}
use Rattle.outside_calls.specs.Folder.{FolderState, octets_at, Said}
use Rattle.outside_calls.specs.Outputs.{HoldEach}
use Rattle.noise_script.specs.Script.{ScriptValue, IsInLimits}
use Rattle.noise_script.specs.Grammar.{ScriptSpelling}
use Rattle.line_run.specs.Ends.{Left}
use Rattle.line_tap.specs.Tapping.{tapping}
use Rattle.line_tap.specs.Ends.{TapEnd, TapOf}
use Rattle.line_tap.specs.Ends as ends
use Rattle.command_base.specs.declared.status.Status.{Status}
use Rattle.command_base.specs.declared.status.Status.TheVariants.{Done}
use Rattle.command_base.specs.Job.{Shared}
use Rattle.command_base.specs.Lines.{turns_line}
use Rattle.line_tap.specs.Answers.{stop_by}
use Rattle.line_tap.specs.Names.{TapNames, inputs_of, outputs_of}
use Rattle.line_tap.specs.Turns.{KnowsBodies}
use Rattle.line_world.specs.Turns.{held_of}

-- The script and both recordings of a tap are those of the folder.
pub record AreOf (f : FolderState) (n : TapNames) (script : ScriptValue) (bodies : Both (List ℕ)) : Type 0 where
  pub script_is : IsTrue (f.tells n.script) → ScriptSpelling (octets_at f n.script) script
  pub bodies_are : KnowsBodies f n bodies

-- The folder's recordings and script tell this end, and the outputs hold what they tell.
pub record Told (old new : FolderState) (n : TapNames) (end : TapEnd) : Type 0 where
  pub script : ScriptValue
  pub limits : IsInLimits script
  pub bodies : Both (List ℕ)
  pub are_of : AreOf old n script bodies
  pub left : Left
  pub tap : TapOf (tapping script bodies) end left
  pub holds : HoldEach new (outputs_of n) (held_of left)

-- where the answer is one by which a tap itself ends; done says how many turns there were
abbrev pub ToldBy : FolderState → FolderState → TapNames → Status → Type 0
ToldBy old new n Done = (turns : ℕ) × Said old new (turns_line turns) × Told old new n (ends.IsDone turns)
ToldBy old new n status = MatchOption (stop_by status) (Unit {0}) (Told old new n)

-- What is written is what the script and the recordings tell, and the answer is how that ends.
pub record Headline (old new : FolderState) (n : TapNames) (s : Status) : Type 0 where
  pub shared : Shared (inputs_of n) (outputs_of n) old new s
  pub told : ToldBy old new n s
