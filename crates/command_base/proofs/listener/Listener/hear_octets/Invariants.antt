use Rattle.command_base.proofs.Names.{◌≤◌, ◌+◌, ◌*◌, Ok, take, Hears, bits_of}
use Rattle.command_base.proofs.listener.Listener.hear_octets.Given as goal

abbrev pub invariant-loop-octet : goal.invariant-loop-octet
invariant-loop-octet g l = record {
  hears : Hears (g.F.Folder.state l.fn.folder) (g.F.Folder.state l.folder) l.fn.self l.self (bits_of (take l.octet-index l.octets)) (Ok tt);
  pieces : l.self.pieces ≤ l.fn.self.pieces + 8 * l.octet-index;
}
