-- Which answer the inputs have over a sound folder.
use Rattle.std.specs.Prelude.{◌≡◌, ◌⊎◌, ℕ, ◌≤◌, ◌++◌, IsTrue, List, length}
use Rattle.scramblers.specs.declared.mode.Mode.TheVariants.{Call, Answer}
use Rattle.outside_calls.specs.Folder.{FolderState, octets_at}
use Rattle.outside_calls.specs.Outputs.{HoldEach}
use Rattle.shared_terms.specs.Both.{Both}
use Rattle.recordings.specs.Recording.{header_of}
use Rattle.noise_script.specs.Script.{ScriptValue}
use Rattle.noise_script.specs.Grammar.{ScriptSpelling}
use Rattle.line_run.specs.Ends.{Left}
use Rattle.line_tap.specs.Tapping.{tapping}
use Rattle.line_tap.specs.Ends.{TapEnd, TapOf}
use Rattle.command_base.specs.declared.status.Status.{Status}
use Rattle.command_base.specs.declared.status.Status.TheVariants.{NoMemory}
use Rattle.command_base.specs.Sound.{IsSound}
use Rattle.line_tap.specs.Names.{TapNames, inputs_of, outputs_of}
use Rattle.line_tap.specs.Answers.{answer_of}
use Rattle.line_world.specs.Turns.{held_of}

-- The inputs are told: a script of at most 65,536 octets, and two recordings of at most 268,435,456, which are these octets behind their headers.
pub record AreRight (f : FolderState) (n : TapNames) (script : ScriptValue) (bodies : Both (List ℕ)) : Type 0 where
  pub script_told : IsTrue (f.tells n.script)
  pub script_short : length (octets_at f n.script) ≤ 65536
  pub spelled : ScriptSpelling (octets_at f n.script) script
  pub orig_told : IsTrue (f.tells n.rec_o)
  pub orig_short : length (octets_at f n.rec_o) ≤ 268435456
  pub orig_is : octets_at f n.rec_o ≡ header_of Call ++ bodies.orig
  pub answ_told : IsTrue (f.tells n.rec_a)
  pub answ_short : length (octets_at f n.rec_a) ≤ 268435456
  pub answ_is : octets_at f n.rec_a ≡ header_of Answer ++ bodies.answ

-- The answer is that to this end, and the outputs hold what is left.
pub record Answered (new : FolderState) (n : TapNames) (end : TapEnd) (left : Left) (s : Status) : Type 0 where
  pub answer : s ≡ answer_of end
  pub holds : HoldEach new (outputs_of n) (held_of left)

-- However the reading of right inputs ends over a sound folder, that is the answer, but for want of memory.
abbrev pub Completes : FolderState → FolderState → TapNames → Status → Type 0
Completes old new n s =
    IsSound old new (inputs_of n) (outputs_of n) → (script : ScriptValue) (bodies : Both (List ℕ)) → AreRight old n script bodies
    → (end : TapEnd) (left : Left) → TapOf (tapping script bodies) end left → Answered new n end left s ⊎ (s ≡ NoMemory)
