use Rattle.stations.proofs.Names.{◌≡◌, ◌≤◌, ℕ, List, length, TakesNothing, Account, OnlyReads, CountsStand, Stands, Supplying}
use Rattle.frame_check.specs.declared.sizes.TheConstants.{INFO}
use Rattle.lapm_link.specs.Stands.{room_of}
use Rattle.stations.proofs.station.Station.supply.Given as goal

abbrev pub invariant-loop-number : goal.invariant-loop-number
invariant-loop-number g l = record {
  supplies : (file : List ℕ) (a : Account) → Stands l.fn.self file a → length file ≤ l.limit
      → Supplying (g.F.Folder.state l.fn.folder) l.name l.limit file a l.self;
  takes : TakesNothing l.fn.self.end l.self.end;
  breaks : l.self.breaks ≡ l.fn.self.breaks;
  room : length l.segment ≡ INFO;
  only : OnlyReads (g.F.Folder.state l.fn.folder) (g.F.Folder.state l.folder);
  stand : CountsStand (g.F.Folder.state l.fn.folder) (g.F.Folder.state l.folder);
  came : g.F.Folder.came l.fn.folder l.folder;
}

abbrev pub decreases-loop-number : goal.decreases-loop-number
decreases-loop-number g l = room_of l.self.end
