-- What is refused is refused before the outputs are created.
use Rattle.run_commands.proofs.Names.{arith, ℕ, Result, refusal-own, IsRefusal, end_status, Status, Stop, FolderState, KeepsAll, EndsBy}
use Rattle.run_commands.proofs.Names.{RunNames, LIMITS}
use Rattle.command_base.specs.declared.stop.Stop.TheVariants as stops
use Rattle.run_commands.specs.Running.Ends.{Ends}

own-refused : (old before : FolderState) (n : RunNames) (answer : Status) → IsRefusal answer → EndsBy LIMITS old before n (stops.Own answer)
    → KeepsAll old before
own-refused old before n answer r b = grind (arith)

pub refused-by : (old before : FolderState) (n : RunNames) (end : Result ℕ Stop) → Ends LIMITS old before n end → IsRefusal (end_status end)
    → KeepsAll old before
refused-by old before n end ends = grind (arith, refusal-own, own-refused)
