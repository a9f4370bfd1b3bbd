use Rattle.command_base.proofs.Names.{◌≤◌, ◌+◌, Ok, take, Hears, low_bits}
use Rattle.command_base.proofs.listener.Listener.hear_each.Given as goal

abbrev pub invariant-loop-place : goal.invariant-loop-place
invariant-loop-place g l = record {
  hears : Hears (g.F.Folder.state l.fn.folder) (g.F.Folder.state l.folder) l.fn.self l.self
      (take l.place (low_bits l.count l.octet)) (Ok tt);
  pieces : l.self.pieces ≤ l.fn.self.pieces + l.place;
}
