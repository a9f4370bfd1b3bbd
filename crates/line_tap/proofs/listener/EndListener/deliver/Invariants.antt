use Rattle.line_tap.proofs.Cited.{◌≡◌, length, Incoming, StandsIn, OnlyWrites, CountsStand}
use Rattle.line_tap.proofs.Handing.{Handing}
use Rattle.line_tap.proofs.listener.EndListener.deliver.Given as goal

abbrev pub invariant-loop-segment : goal.invariant-loop-segment
invariant-loop-segment g l = record {
  hands : (i : Incoming) → StandsIn l.fn.self.receiver i
      → Handing (g.F.Folder.state l.fn.folder) (g.F.Folder.state l.folder) l.name l.self.receiver i;
  beside : l.self ≡ record l.fn.self { receiver = l.self.receiver };
  window : l.self.receiver.window ≡ l.fn.self.receiver.window;
  taken : l.self.receiver.taken ≡ l.fn.self.receiver.taken;
  only : OnlyWrites (g.F.Folder.state l.fn.folder) (g.F.Folder.state l.folder) l.name;
  stand : CountsStand (g.F.Folder.state l.fn.folder) (g.F.Folder.state l.folder);
  came : g.F.Folder.came l.fn.folder l.folder;
}

abbrev pub decreases-loop-segment : goal.decreases-loop-segment
decreases-loop-segment g l = length l.self.receiver.ready
