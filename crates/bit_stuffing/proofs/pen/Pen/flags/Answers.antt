use Rattle.bit_stuffing.proofs.Names.{Bool, List, ◌≡◌, suc, ◌+◌, arith, append_assoc, length-append, written}
use Rattle.bit_stuffing.proofs.Names.{flags}
use Rattle.bit_stuffing.proofs.Fill.{length-flags, flags-snoc}
use Rattle.bit_stuffing.proofs.pen.Pen.flags.Goals as goal

pub octet-requires : goal.octet-requires
octet-requires c =
    let start : List Bool = written c.args.self.now c.args.out.now in grind (arith, length-append, flags, length-flags)

pub loop-preserved : goal.loop-preserved
loop-preserved c =
    let start : List Bool = written c.args.self.now c.args.out.now in
    let next : suc c.loop.counter ≡ c.loop.counter + 1 = omega arith in grind (arith, append_assoc, flags, flags-snoc)
