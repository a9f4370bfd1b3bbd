-- Runs that neither the line nor losses keep from their end.
use Rattle.std.specs.Prelude.{List, ℕ}
use Rattle.shared_terms.specs.Both.{Both}
use Rattle.noise_script.specs.Script.{ScriptValue}
use Rattle.line_run.specs.Ends.{RunEnd, Left, StarvedBy, GivesUp, LineEnds}
use Rattle.line_ends.specs.Completes.{ScriptRunsTo, heard_turns}

-- The line doesn't end the run of a script and two files: it isn't lost, and nothing received is a chance match.
abbrev pub LineStays : ScriptValue → Both (List ℕ) → Type 0
LineStays script files = (end : RunEnd) (left : Left) → ScriptRunsTo script files end left → LineEnds end → ⊥

-- The line doesn't end the run, and losses don't go on for so long in it that an end gives up.
pub record IsCarried (script : ScriptValue) (files : Both (List ℕ)) : Type 0 where
  pub stays : LineStays script files
  pub not_starved : (end : RunEnd) (left : Left) (r : ScriptRunsTo script files end left) → GivesUp end
      → StarvedBy script (heard_turns script files end left r) → ⊥
