use Rattle.std.proofs.Common.{◌≡◌, ◌∙◌, ◌<◌, ℕ, List, [], ◌∷◌, drop, length, refl, arith}
use Rattle.sample_line.proofs.hearer.Hearer.read_labels.Goals as goal

fewer-than-two : (labels : List ℕ) → length labels < 2 → drop 1 labels ≡ []
fewer-than-two [] few = refl
fewer-than-two (label ∷ []) few = refl
fewer-than-two (label ∷ other ∷ labels) few = absurd (omega (arith, few))

pub returns-clause-pending : goal.returns-clause-pending
returns-clause-pending c =
    c.read_label.ensures.pending ∙ fewer-than-two c.loop.self.reader.decoder.pending
    (omega (arith, c.loop.invariant.left, c.loop-test.false, c.pending-end.ensures))
