-- What a tap of the recordings of a run leaves.
use Rattle.std.specs.Prelude.{◌≡◌, ◌⊎◌, ℕ, ◌≤◌, IsTrue, List, length, Some}
use Rattle.outside_calls.specs.Folder.{FolderState, held_at, octets_at}
use Rattle.shared_terms.specs.Both.{Both}
use Rattle.line_run.specs.Ends.{RunEnd}
use Rattle.command_base.specs.declared.status.Status.{Status}
use Rattle.command_base.specs.declared.status.Status.TheVariants.{NoMemory}
use Rattle.command_base.specs.Sound.{IsSound}
use Rattle.run_inputs.specs.Words.{RunNames}
use Rattle.run_commands.specs.Running.Headline.{Ran}
use Rattle.line_tap.specs.Names.{TapNames, inputs_of, outputs_of}
use Rattle.line_tap.specs.Answers.{answer_of}
use Rattle.line_tap.specs.Completes.{Completes}
use Rattle.line_tap.specs.Ends.{told_end}

-- The files and the script of a run are told before it.
pub record AreTold (f : FolderState) (m : RunNames) : Type 0 where
  pub script : IsTrue (f.tells m.script)
  pub orig : IsTrue (f.tells m.names.orig)
  pub answ : IsTrue (f.tells m.names.answ)

-- A tap's inputs are what a run left in its recordings, and its script: `old` and `new` are the folders before and behind the run, `was` the one
-- before the tap. All are told, and no recording is longer than a tap reads.
pub record AreOfRun (m : RunNames) (tapes : Both (List ℕ)) (old new was : FolderState) (n : TapNames) : Type 0 where
  pub script_told : IsTrue (was.tells n.script)
  pub script_is : octets_at was n.script ≡ octets_at old m.script
  pub script_short : length (octets_at was n.script) ≤ 65536
  pub orig_left : IsTrue (new.tells tapes.orig)
  pub orig_told : IsTrue (was.tells n.rec_o)
  pub orig_is : octets_at was n.rec_o ≡ octets_at new tapes.orig
  pub orig_short : length (octets_at was n.rec_o) ≤ 268435456
  pub answ_left : IsTrue (new.tells tapes.answ)
  pub answ_told : IsTrue (was.tells n.rec_a)
  pub answ_is : octets_at was n.rec_a ≡ octets_at new tapes.answ
  pub answ_short : length (octets_at was n.rec_a) ≤ 268435456

-- what is told of both names in both folders is the same
abbrev pub LeftAlike : FolderState → List ℕ → FolderState → List ℕ → Type 0
LeftAlike f name g other = IsTrue (f.tells name) → IsTrue (g.tells other) → held_at g other ≡ held_at f name

-- The tap answers by the run's end, and leaves what the run left.
pub record LeavesTheSame (m : RunNames) (new then : FolderState) (n : TapNames) (end : RunEnd) (r : Status) : Type 0 where
  pub answer : r ≡ answer_of (told_end end)
  pub got_o : LeftAlike new m.names.got_o then n.got_o
  pub got_a : LeftAlike new m.names.got_a then n.got_a
  pub trace : LeftAlike new m.names.trace then n.trace

-- Of a recorded run, however it ended by itself, a tap over a sound folder tells what it left: to which names, and in which folder, is all the same.
abbrev pub TapsLeaveWhatRunsLeft : Type 0
TapsLeaveWhatRunsLeft = (m : RunNames) (tapes : Both (List ℕ)) (old new was then : FolderState) (n : TapNames) (end : RunEnd) (r : Status)
    → m.tapes ≡ Some tapes → Ran old new m end → AreTold old m → AreOfRun m tapes old new was n → IsSound was then (inputs_of n) (outputs_of n)
    → Completes was then n r → LeavesTheSame m new then n end r ⊎ (r ≡ NoMemory)
