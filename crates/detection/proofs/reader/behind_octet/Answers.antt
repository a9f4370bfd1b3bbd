use Rattle.detection.proofs.Names.{◌++◌, ◌%◌, subst, ReaderStands, low_bits}
use Rattle.bit_stuffing.proofs.Halves.{octet-fours}
use Rattle.detection.proofs.reader.behind_octet.Goals as goal

pub returns : goal.returns
returns c = λ past h.
    subst (ReaderStands c.behind_four-2.result) (octet-fours past c.args.octet)
    (c.behind_four-2.ensures (past ++ low_bits 4 (c.args.octet % 16)) (c.behind_four.ensures past h))
