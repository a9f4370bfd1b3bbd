use Rattle.link_pair.proofs.Names.{◌≡◌, ◌-◌, ◌^◌, written, Awaits, all_outputs, round_of, script_of, First, CountsStand, OnlyPuts}
use Rattle.link_pair.proofs.rounds.pair_rounds.Given as goal

abbrev pub invariant-loop-endings : goal.invariant-loop-endings
invariant-loop-endings g l = record {
  ready : Awaits l.pair (g.F.Folder.state l.folder) (written l.names.first) (written l.names.second) First;
  script_is : script_of l.pair ≡ script_of l.fn.pair;
  only : OnlyPuts (g.F.Folder.state l.fn.folder) (g.F.Folder.state l.folder)
      (all_outputs (written l.names.first) (written l.names.second));
  stand : CountsStand (g.F.Folder.state l.fn.folder) (g.F.Folder.state l.folder);
  came : g.F.Folder.came l.fn.folder l.folder;
}

abbrev pub decreases-loop-endings : goal.decreases-loop-endings
decreases-loop-endings g l = 2 ^ 39 - round_of l.pair
