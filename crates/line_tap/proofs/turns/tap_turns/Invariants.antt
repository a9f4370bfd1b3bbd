use Rattle.line_tap.proofs.Cited.{◌≡◌, ◌-◌, named, outputs_of, IsReady, AreReadTo, no_octets, FolderState, CountsStand, OnlyPuts}
use Rattle.line_tap.specs.declared.limits.TheConstants.{TAP_LIMIT}
use Rattle.line_tap.proofs.Reached.{Reached}
use Rattle.line_tap.proofs.turns.tap_turns.Given as goal

abbrev pub invariant-loop-turns : goal.invariant-loop-turns
invariant-loop-turns g l = record {
  ready : IsReady l.tap;
  script : l.tap.script ≡ l.fn.tap.script;
  reached : (start : FolderState) → AreReadTo start (g.F.Folder.state l.fn.folder) (named l.names) no_octets
      → Reached l.tap l.fn.tap.script start (g.F.Folder.state l.folder) (named l.names);
  only : OnlyPuts (g.F.Folder.state l.fn.folder) (g.F.Folder.state l.folder) (outputs_of (named l.names));
  stand : CountsStand (g.F.Folder.state l.fn.folder) (g.F.Folder.state l.folder);
}

abbrev pub decreases-loop-turns : goal.decreases-loop-turns
decreases-loop-turns g l = TAP_LIMIT - l.tap.at
