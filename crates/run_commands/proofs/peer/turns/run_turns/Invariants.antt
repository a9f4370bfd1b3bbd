use Rattle.run_commands.proofs.Names.{◌*◌, ◌≤◌, FolderState, CountsStand, OnlyPuts, Reached, named, outputs_of, FILE_LIMIT, slot_octets}
use Rattle.run_commands.proofs.Names.{turn_of}
use Rattle.std.proofs.Common.{◌-◌}
use Rattle.stations.specs.OneEnd.Single.{IsReady}
use Rattle.run_commands.proofs.peer.turns.run_turns.Given as goal

abbrev pub invariant-loop-turns : goal.invariant-loop-turns
invariant-loop-turns g l = record {
  reached : (start : FolderState) → Reached start (g.F.Folder.state l.fn.folder) (named l.words) l.fn.single
      → Reached start (g.F.Folder.state l.folder) (named l.words) l.single;
  ready : IsReady l.single;
  within : slot_octets * turn_of l.single ≤ FILE_LIMIT;
  only : OnlyPuts (g.F.Folder.state l.fn.folder) (g.F.Folder.state l.folder) (outputs_of (named l.words));
  stand : CountsStand (g.F.Folder.state l.fn.folder) (g.F.Folder.state l.folder);
}

abbrev pub decreases-loop-turns : goal.decreases-loop-turns
decreases-loop-turns g l = FILE_LIMIT - turn_of l.single
