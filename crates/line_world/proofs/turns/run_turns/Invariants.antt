use Rattle.line_world.proofs.Cited.{◌≡◌, ◌-◌, ◌^◌, written, wire_of, KeepTapes, tape_names, IsReady, script_of, turn_of}
use Rattle.line_world.proofs.Reached.{Reached}
use Rattle.line_world.proofs.turns.run_turns.Given as goal

abbrev pub invariant-loop-tapes : goal.invariant-loop-tapes
invariant-loop-tapes g l = record {
  reached : Reached l.world (script_of l.fn.world) (written l.names) (tape_names l.fn.tapes) (g.F.Folder.state l.fn.folder)
      (g.F.Folder.state l.folder);
  named : tape_names l.tapes ≡ tape_names l.fn.tapes;
  taped : KeepTapes l.tapes (g.F.Folder.state l.folder) (wire_of (script_of l.fn.world)) reached.turns;
  ready : IsReady l.world;
  came : g.F.Folder.came l.fn.folder l.folder;
}

abbrev pub decreases-loop-tapes : goal.decreases-loop-tapes
decreases-loop-tapes g l = 2 ^ 40 - turn_of l.world
