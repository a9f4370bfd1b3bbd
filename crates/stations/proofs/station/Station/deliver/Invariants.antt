use Rattle.stations.proofs.Names.{◌≡◌, ℕ, List, TakesNothing, Account, OnlyWrites, CountsStand, Stands}
use Rattle.lapm_link.specs.Stands.{undelivered_of}
use Rattle.stations.proofs.Handing.{Handing}
use Rattle.stations.proofs.station.Station.deliver.Given as goal

abbrev pub invariant-loop-segment : goal.invariant-loop-segment
invariant-loop-segment g l = record {
  hands : (file : List ℕ) (a : Account) → Stands l.fn.self file a
      → Handing (g.F.Folder.state l.fn.folder) (g.F.Folder.state l.folder) l.name l.self file a;
  takes : TakesNothing l.fn.self.end l.self.end;
  breaks : l.self.breaks ≡ l.fn.self.breaks;
  only : OnlyWrites (g.F.Folder.state l.fn.folder) (g.F.Folder.state l.folder) l.name;
  stand : CountsStand (g.F.Folder.state l.fn.folder) (g.F.Folder.state l.folder);
  came : g.F.Folder.came l.fn.folder l.folder;
}

abbrev pub decreases-loop-segment : goal.decreases-loop-segment
decreases-loop-segment g l = undelivered_of l.self.end
