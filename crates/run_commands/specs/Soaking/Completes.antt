-- Which answer a seed has over a sound folder, and when nothing but want of memory keeps its soak from being done.
use Rattle.std.specs.Prelude.{◌≡◌, ◌⊎◌, ℕ, []}
use Rattle.outside_calls.specs.Folder.{FolderState}
use Rattle.command_base.specs.declared.status.Status.{Status}
use Rattle.command_base.specs.declared.status.Status.TheVariants.{NoMemory}
use Rattle.command_base.specs.Sound.{IsSound, DoneUnlessMemory}
use Rattle.line_run.specs.Ends.{RunEnd, Left}
use Rattle.line_ends.specs.Carried.{IsCarried}
use Rattle.line_ends.specs.Completes.{ScriptRunsTo}
use Rattle.run_inputs.specs.Answers.{answer_of}
use Rattle.run_commands.specs.Soaking.Soak.{soak_script}
use Rattle.run_commands.specs.Soaking.Ends.{soak_files}

-- Where saying doesn't fail, and but for want of memory: however the run of the seed ends, that is the answer; and it is done where the line
-- carries it to its end.
pub record Completes (old new : FolderState) (seed : ℕ) (s : Status) : Type 0 where
  pub exact : IsSound old new [] [] → (end : RunEnd) (left : Left) → ScriptRunsTo (soak_script seed) (soak_files seed) end left
      → (s ≡ answer_of end) ⊎ (s ≡ NoMemory)
  pub carried : IsSound old new [] [] → IsCarried (soak_script seed) (soak_files seed) → DoneUnlessMemory s
