use Rattle.detection.proofs.Names.{◌*◌, ◌%◌, ◌^◌, ◌++◌, bit_or, sym, subst, ReaderStands, low_bits}
use Rattle.detection.proofs.Quiet.{four-turned}
use Rattle.detection.proofs.reader.behind_four.Goals as goal

pub returns : goal.returns
returns c = λ past h.
    subst (λ n. ReaderStands (bit_or (c.args.latest * 16 % 2 ^ 128) n) (past ++ low_bits 4 c.args.four)) (sym c.from.ensures)
    (four-turned c.args.latest c.turned.result c.args.four past c.turned.ensures.small c.turned.ensures.bits h)
