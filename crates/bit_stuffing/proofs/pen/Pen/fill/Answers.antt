use Rattle.bit_stuffing.proofs.Names.{Bool, List, ◌≡◌, ◌+◌, ◌-◌, ◌*◌, ◌%◌, length, arith, append_assoc}
use Rattle.bit_stuffing.proofs.Names.{length-append, written, fill, flags}
use Rattle.bit_stuffing.proofs.Written.{length-written}
use Rattle.bit_stuffing.proofs.Fill.{length-flags}
use Rattle.bit_stuffing.proofs.pen.Pen.fill.Goals as goal

pub overflow_sub-left : goal.overflow_sub-left
overflow_sub-left c = omega (arith, c.requires.room, length-written c.args.self.now c.args.out.now)

pub flags-requires : goal.flags-requires
flags-requires c = omega (arith, c.requires.few, c.requires.room, length-written c.args.self.now c.args.out.now)

pub flag-requires-clause-room : goal.flag-requires-clause-room
flag-requires-clause-room c =
    let left = 4 * c.from-2.result - (4 * c.len.result + c.from.result) in
    let start : List Bool = written c.args.self.now c.args.out.now in
    grind (arith, length-written, length-append, flags, length-flags)

pub returns-clause-written : goal.returns-clause-written
returns-clause-written c =
    let left = 4 * c.from-2.result - (4 * c.len.result + c.from.result) in
    let start : List Bool = written c.args.self.now c.args.out.now in
    let all : left ≡ 4 * c.args.symbols - length start = omega (arith, c.requires.room, length-written c.args.self.now c.args.out.now) in
    let cut : left % 8 - 0 ≡ left % 8 = omega arith in grind (arith, append_assoc, flags, fill)

pub returns-clause-phase : goal.returns-clause-phase
returns-clause-phase c = omega (arith, length-written c.args.self.now c.args.out.now)
