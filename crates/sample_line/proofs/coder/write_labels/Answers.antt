use Rattle.sample_line.proofs.Names.{◌≡◌, ◌+◌, ◌*◌, ◌-◌, ◌++◌, ℕ, List, map, take, subst, arith, take_all, line_bits, ModulatorStands}
use Rattle.sample_line.proofs.Names.{point_of}
use Rattle.sample_line.proofs.coder.write_labels.Goals as goal

pub returns-then-count-eq1 : goal.returns-then-count-eq1
returns-then-count-eq1 c = λ mode before points h.
    let bits : List ℕ = c.args.bits.now in
    let count : ℕ = c.len-count.result in
    let pairs : 2 * c.loop-pair.pair ≡ count - 1 = omega (arith, c.loop-pair-test.false, c.loop-pair.auto.pair-end, c.if-count-eq1.true) in
    let last = c.write_last.ensures.stands mode before points
    (subst (λ (n : ℕ). ModulatorStands mode c.loop-pair.modulator (before ++ line_bits (take n bits))
    (points ++ map point_of c.loop-pair.out))
    pairs (c.loop-pair.invariant.stands mode before points h)) in
    subst (λ (xs : List ℕ). ModulatorStands mode c.write_last.new.modulator (before ++ line_bits xs)
    (points ++ map point_of c.write_last.new.out)) (take_all (count - 1 + 1) bits (omega (arith, c.len-count.ensures.count))) last
