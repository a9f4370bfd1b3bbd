-- Why there is no further turn: how the line ends a run, and which fault it is that an end breaks.
use Rattle.std.specs.Prelude.{ℕ}
use Rattle.shared_terms.specs.declared.role.Role.{Role}
use Rattle.shared_terms.specs.declared.fault.LinkFault.{LinkFault}
use Rattle.shared_terms.specs.declared.fault.LinkFault.TheVariants as link
use Rattle.line_run.specs.Sampled as lines
use Rattle.line_world.specs.declared.directions.LineEnd.{LineEnd}
use Rattle.line_world.specs.declared.directions.LineEnd.TheVariants as ways
use Rattle.line_run.specs.declared.fault.RunFault.{RunFault}
use Rattle.line_run.specs.declared.fault.RunFault.TheVariants as faults

-- how the line ends a run
abbrev pub end_of : LineEnd → lines.LineEnd
end_of (ways.Lost role symbol) = lines.LineLost role symbol
end_of (ways.Chance role) = lines.ChanceMatch role

-- why a run ends in which an end breaks; in a run an end has no fault but these two, so the last row is for none
abbrev pub fault_named : ℕ → Role → LinkFault → RunFault
fault_named turn role link.NotDetected = faults.NotDetected turn
fault_named turn role (link.Spent segment since) = faults.LinkLost role segment turn
fault_named turn role fault = faults.NoMemory
