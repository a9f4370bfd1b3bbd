use Rattle.trace_audit.proofs.Cited.{◌≡◌, ◌-◌, ◌^◌, true, written, script_of, turn_of, OnlyReads, CountsStand, AreCompared}
use Rattle.line_world.specs.World.{IsReady}
use Rattle.trace_audit.proofs.turns.audit_turns.Given as goal

abbrev pub invariant-loop-comparison : goal.invariant-loop-comparison
invariant-loop-comparison g l = record {
  compared : AreCompared true l.world (g.F.Folder.state l.folder) (written l.names) l.trace l.comparison;
  script : script_of l.world ≡ script_of l.fn.world;
  ready : IsReady l.world;
  reads : OnlyReads (g.F.Folder.state l.fn.folder) (g.F.Folder.state l.folder);
  stand : CountsStand (g.F.Folder.state l.fn.folder) (g.F.Folder.state l.folder);
}

abbrev pub decreases-loop-comparison : goal.decreases-loop-comparison
decreases-loop-comparison g l = 2 ^ 40 - turn_of l.world
