use Rattle.std.proofs.Common.{◌<◌, ◌∙◌, ℕ, List, slice_index, sym, ap, arith}
use Rattle.sample_line.proofs.Packing.{labels-count, label-read}
use Rattle.sample_line.proofs.label_slot.LabelSlot.label.Goals as goal

pub bounds-self-inside-i : goal.bounds-self-inside-i
bounds-self-inside-i c = omega (
  arith,
  c.requires,
  c.self.invariant,
  labels-count c.self.inside.count c.self.inside.quads c.self.inside.highs c.args.self.now c.self.view_is,
)

pub bounds-self-inside-i-2 : goal.bounds-self-inside-i-2
bounds-self-inside-i-2 c = omega (
  arith,
  c.requires,
  c.self.invariant,
  labels-count c.self.inside.count c.self.inside.quads c.self.inside.highs c.args.self.now c.self.view_is,
)

pub returns-clause-value : goal.returns-clause-value
returns-clause-value c =
    let within : c.args.i < c.self.inside.count =
    omega (arith, c.requires, labels-count c.self.inside.count c.self.inside.quads c.self.inside.highs c.args.self.now c.self.view_is) in
    sym (label-read c.self.inside.count c.self.inside.quads c.self.inside.highs c.args.i within)
    ∙ ap (λ (l : List ℕ). slice_index l c.args.i) c.self.view_is
