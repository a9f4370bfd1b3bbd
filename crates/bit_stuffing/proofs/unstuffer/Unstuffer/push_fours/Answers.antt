use Rattle.bit_stuffing.proofs.Names.{◌%◌, ◌++◌, subst, Gathers, low_bits}
use Rattle.bit_stuffing.proofs.Halves.{octet-fours}
use Rattle.bit_stuffing.proofs.unstuffer.Unstuffer.push_fours.Goals as goal

pub returns : goal.returns
returns c = λ line h.
    subst (Gathers c.push_four-2.new.self) (octet-fours line c.args.octet)
    (c.push_four-2.ensures (line ++ low_bits 4 (c.args.octet % 16)) (c.push_four.ensures line h))
