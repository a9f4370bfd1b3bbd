use Rattle.bit_stuffing.proofs.Names.{◌-◌, arith, append_assoc, flag, written}
use Rattle.bit_stuffing.proofs.Written.{flag-part}
use Rattle.bit_stuffing.proofs.pen.Pen.flag.Goals as goal

pub loop-place-preserved : goal.loop-place-preserved
loop-place-preserved c =
    let start = written c.args.self.now c.args.out.now in
    let b = c.flag_bit.result in
    let part = flag-part c.args.from c.loop-place.place b (omega arith) (omega arith) c.flag_bit.ensures in
    grind (arith, append_assoc)
