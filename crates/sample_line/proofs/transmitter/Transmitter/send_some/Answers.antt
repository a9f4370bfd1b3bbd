use Rattle.sample_line.proofs.Names.{◌≤◌, ◌++◌, ℕ, List, length, map, take, refl, subst, arith, Transmits, point_of, Sample}
use Rattle.sample_line.proofs.Sending.{unpacked, still-sent}
use Rattle.sample_line.proofs.transmitter.Transmitter.send_some.Goals as goal

pub returns-then-is_still-clause-stands : goal.returns-then-is_still-clause-stands
returns-then-is_still-clause-stands c = λ before past h.
    let labels : List ℕ = c.unpack.new.out in
    let samples : List Sample = take c.args.count c.send_still.new.samples in
    let room : c.args.count ≤ length labels = omega (arith, c.unpack.array_long, c.requires.few) in
    subst (λ points. Transmits c.send_still.new.self c.args.script.now points (past ++ samples))
    (unpacked c.args.slot.now labels c.args.at c.args.count c.requires.within room c.unpack.ensures.value before)
    (still-sent c.args.self.now c.send_still.new.self c.args.script.now
    (before ++ map point_of (take c.args.at c.args.slot.now)) past samples
    labels c.args.count room c.unpack.ensures.bound
    (λ n low high. c.if-is_still.ensures refl n low (omega (arith, high, c.requires.few)))
    c.send_still.ensures.sender c.send_still.ensures.symbol c.send_still.ensures.points h)

pub returns-else-is_still-clause-stands : goal.returns-else-is_still-clause-stands
returns-else-is_still-clause-stands c = λ before past h.
    let labels : List ℕ = c.unpack.new.out in
    let samples : List Sample = take c.args.count c.send_each.new.samples in
    let room : c.args.count ≤ length labels = omega (arith, c.unpack.array_long, c.requires.few) in
    subst (λ points. Transmits c.send_each.new.self c.args.script.now points (past ++ samples))
    (unpacked c.args.slot.now labels c.args.at c.args.count c.requires.within room c.unpack.ensures.value before)
    (c.send_each.ensures.stands _ _ h)
