-- Why an input is not taken for its length.
use Rattle.signal_commands.proofs.Names.{arith, ℕ, List, [], ◌∷◌, stop-earlier, IsWithin, IsNotWithin, StopCounts, RECORDING_LIMIT, Stop}
use Rattle.signal_commands.proofs.Names.{FolderState, OnlyReads, CountsStand, FILE_LIMIT, MarginNames, inputs_of}
use Rattle.outside_calls.specs.declared.folder.FolderFault.{FolderFault}
use Rattle.outside_calls.specs.declared.folder.FolderFault.TheVariants as folder
use Rattle.command_base.specs.Stops.{ReadFails}
use Rattle.command_base.proofs.Reading.{longer-earlier}
use Rattle.signal_commands.specs.Margins.Ends.{EndsBy}

pub rec-refused : (old new : FolderState) (n : MarginNames) (stop : Stop) → IsNotWithin old new n.rec RECORDING_LIMIT 1 stop
    → EndsBy old new n stop
rec-refused old new n stop why = grind (arith)

pub file-refused : (old mid new : FolderState) (n : MarginNames) (stop : Stop) → OnlyReads old mid → CountsStand old mid
    → IsWithin old n.rec RECORDING_LIMIT → IsNotWithin mid new n.file FILE_LIMIT 2 stop → EndsBy old new n stop
file-refused old mid new n other reads stand within why = grind (arith, longer-earlier, stop-earlier)

-- a fault of one input is one of the inputs'
pub rec-fails : (old new : FolderState) (n : MarginNames) (fault : FolderFault) → ReadFails old new (n.rec ∷ []) fault
    → ReadFails old new (inputs_of n) fault
rec-fails old new n fault refused = grind (arith)

pub file-fails : (old new : FolderState) (n : MarginNames) (fault : FolderFault) → ReadFails old new (n.file ∷ []) fault
    → ReadFails old new (inputs_of n) fault
file-fails old new n fault rose = grind (arith)

-- what was counted where an input is not taken: a fault of it, or nothing
pub refused-counts : (old new : FolderState) (n : MarginNames) (name : List ℕ) (limit word : ℕ) (stop : Stop)
    → ((fault : FolderFault) → ReadFails old new (name ∷ []) fault → ReadFails old new (inputs_of n) fault)
    → IsNotWithin old new name limit word stop → StopCounts old new (inputs_of n) [] stop
refused-counts old new n name limit word stop among why = grind (arith)
