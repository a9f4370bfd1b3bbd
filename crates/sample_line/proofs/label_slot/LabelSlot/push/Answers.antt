use Rattle.std.proofs.Common.{◌<◌, ◌%◌, ◌*◌, ◌∙◌, ◌∷◌, [], ◌++◌, ℕ, List, ap, arith}
use Rattle.sample_line.proofs.Packing.{labels-count, room-for, pushed}
use Rattle.sample_line.proofs.label_slot.LabelSlot.push.Goals as goal

pub bounds-self-inside-i : goal.bounds-self-inside-i
bounds-self-inside-i c = omega (
  arith,
  c.requires.room,
  labels-count c.self.inside.count c.self.inside.quads c.self.inside.highs c.args.self.now c.self.view_is,
)

pub bounds-self-inside-i-2 : goal.bounds-self-inside-i-2
bounds-self-inside-i-2 c = omega (
  arith,
  c.requires.room,
  labels-count c.self.inside.count c.self.inside.quads c.self.inside.highs c.args.self.now c.self.view_is,
)

pub bounds-self-inside-i-3 : goal.bounds-self-inside-i-3
bounds-self-inside-i-3 c = omega (
  arith,
  c.requires.room,
  labels-count c.self.inside.count c.self.inside.quads c.self.inside.highs c.args.self.now c.self.view_is,
)

pub bounds-self-inside-i-4 : goal.bounds-self-inside-i-4
bounds-self-inside-i-4 c = omega (
  arith,
  c.requires.room,
  labels-count c.self.inside.count c.self.inside.quads c.self.inside.highs c.args.self.now c.self.view_is,
)

pub with_bits-requires-clause-fit : goal.with_bits-requires-clause-fit
with_bits-requires-clause-fit c = room-for (c.args.label % 16) (4 * (c.self.inside.count % 2)) 4 (omega arith) (omega arith)

pub invariant_of-self : goal.invariant_of-self
invariant_of-self c = omega (
  arith,
  c.requires.room,
  labels-count c.self.inside.count c.self.inside.quads c.self.inside.highs c.args.self.now c.self.view_is,
)

pub returns : goal.returns
returns c =
    let all : c.self.inside.count < 2615 =
    omega (
      arith,
      c.requires.room,
      labels-count c.self.inside.count c.self.inside.quads c.self.inside.highs c.args.self.now
          c.self.view_is,
    ) in
    rw (c.with_bits.ensures, c.with_bits-2.ensures)
    (pushed c.self.inside.quads c.self.inside.highs c.self.inside.count c.args.label (omega (arith, all, c.self.told.0))
    (omega (arith, all, c.self.told.1)) c.requires.small)
    ∙ ap (λ (l : List ℕ). l ++ c.args.label ∷ []) c.self.view_is
