-- What a run answers, and why a job stops whose turns end by a fault.
use Rattle.std.specs.Prelude.{Option, Some, None, unwrap_or}
use Rattle.std.specs.Option.{MatchOption, option_map}
use Rattle.outside_calls.specs.declared.folder.FolderFault.TheVariants as folder
use Rattle.line_run.specs.Ends.{RunEnd}
use Rattle.line_run.specs.Ends as runs
use Rattle.line_run.specs.declared.fault.RunFault.{RunFault}
use Rattle.line_run.specs.declared.fault.RunFault.TheVariants as faults
use Rattle.line_run.specs.Faults.{fault_end}
use Rattle.command_base.specs.declared.status.Status.{Status}
use Rattle.command_base.specs.declared.status.Status.TheVariants.{Done, LineLost, NotDetected, LinkLost, ChanceMatch}
use Rattle.command_base.specs.declared.stop.Stop.{Stop}
use Rattle.command_base.specs.declared.stop.Stop.TheVariants.{Own, Read, Write, NoMemory}

-- the answer to how a run ends
abbrev pub answer_of : RunEnd → Status
answer_of (runs.IsDone turn) = Done
answer_of (runs.LinkLost role segment turn) = LinkLost role segment turn
answer_of (runs.NotDetected turn) = NotDetected turn
answer_of (runs.LineLost role symbol) = LineLost role symbol
answer_of (runs.ChanceMatch role turn) = ChanceMatch role turn

-- how a run ended to which this is the answer, where it ended with less than both files; the answer of one that is done names no turn
abbrev pub stop_by : Status → Option RunEnd
stop_by (LinkLost role segment turn) = Some (runs.LinkLost role segment turn)
stop_by (NotDetected turn) = Some (runs.NotDetected turn)
stop_by (LineLost role symbol) = Some (runs.LineLost role symbol)
stop_by (ChanceMatch role turn) = Some (runs.ChanceMatch role turn)
stop_by answer = None

-- an answer by which a run itself ends: no input is refused, the folder doesn't fail, and memory is found
abbrev pub EndsRun : Status → Type 0
EndsRun Done = Unit {0}
EndsRun answer = MatchOption (stop_by answer) ⊥ (λ end. Unit {0})

-- why a job stops whose turns end by this fault: for the folder, or with the answer to how its run ends
abbrev pub fault_stop : RunFault → Stop
fault_stop faults.ReadFault = Read folder.Failed
fault_stop faults.WriteFault = Write folder.Failed
fault_stop faults.NoMemory = Write folder.NoMemory
fault_stop fault = unwrap_or (option_map (λ end. Own (answer_of end)) (fault_end fault)) NoMemory
