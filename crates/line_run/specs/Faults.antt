-- Which end of a run a fault is.
use Rattle.std.specs.Prelude.{Option, Some, None}
use Rattle.line_run.specs.Ends.{RunEnd, LinkLost, NotDetected, LineLost, ChanceMatch}
use Rattle.line_run.specs.declared.fault.RunFault.{RunFault}
use Rattle.line_run.specs.declared.fault.RunFault.TheVariants as faults

-- how a run ended whose turns end by this fault; by one of the folder it didn't
abbrev pub fault_end : RunFault → Option RunEnd
fault_end (faults.LinkLost role segment turn) = Some (LinkLost role segment turn)
fault_end (faults.NotDetected turn) = Some (NotDetected turn)
fault_end (faults.LineLost role symbol) = Some (LineLost role symbol)
fault_end (faults.ChanceMatch role turn) = Some (ChanceMatch role turn)
fault_end fault = None
