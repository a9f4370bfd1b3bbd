use Rattle.std.proofs.Common.{◌≡◌, ◌<◌, ◌+◌, ◌%◌, ◌/◌, ◌*◌, ◌∙◌, ◌∷◌, [], ◌++◌, ℕ, List, ap, arith}
use Rattle.sample_line.proofs.Packing.{labels-count, room-for, pushed-two}
use Rattle.sample_line.proofs.label_slot.LabelSlot.push_two.Goals as goal

pub with_bits-requires-clause-fit : goal.with_bits-requires-clause-fit
with_bits-requires-clause-fit c =
    let even : c.self.inside.count % 2 ≡ 0 = omega (
      arith,
      c.requires.even,
      labels-count c.self.inside.count c.self.inside.quads c.self.inside.highs c.args.self.now c.self.view_is,
    ) in
    room-for (c.args.first / 16 + 2 * (c.args.second / 16)) (c.self.inside.count % 8) 2
    (omega (arith, c.requires.first, c.requires.second)) (omega (arith, even))

pub invariant_of-self : goal.invariant_of-self
invariant_of-self c = omega (
  arith,
  c.requires.room,
  labels-count c.self.inside.count c.self.inside.quads c.self.inside.highs c.args.self.now c.self.view_is,
)

pub returns : goal.returns
returns c =
    let all : c.self.inside.count < 2614 = omega (
      arith,
      c.requires.room,
      labels-count c.self.inside.count c.self.inside.quads c.self.inside.highs c.args.self.now c.self.view_is,
    ) in
    let even : c.self.inside.count % 2 ≡ 0 = omega (
      arith,
      c.requires.even,
      labels-count c.self.inside.count c.self.inside.quads c.self.inside.highs c.args.self.now c.self.view_is,
    ) in
    rw c.with_bits.ensures
    (pushed-two c.self.inside.quads c.self.inside.highs c.self.inside.count c.args.first c.args.second even
    (omega (arith, all, c.self.told.0)) (omega (arith, all, c.self.told.1)) c.requires.first c.requires.second)
    ∙ ap (λ (l : List ℕ). l ++ c.args.first ∷ c.args.second ∷ []) c.self.view_is
