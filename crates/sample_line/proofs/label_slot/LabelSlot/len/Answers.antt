use Rattle.std.proofs.Common.{sym, arith}
use Rattle.sample_line.proofs.Packing.{labels-count}
use Rattle.sample_line.proofs.label_slot.LabelSlot.len.Goals as goal

pub returns-clause-count : goal.returns-clause-count
returns-clause-count c = sym (labels-count c.self.inside.count c.self.inside.quads c.self.inside.highs c.args.self.now c.self.view_is)

pub returns-clause-bound : goal.returns-clause-bound
returns-clause-bound c = omega (
  arith,
  labels-count c.self.inside.count c.self.inside.quads c.self.inside.highs c.args.self.now c.self.view_is,
  c.self.invariant,
)
