use Rattle.exact_decoder.proofs.Names.{◌≤◌, ◌+◌, length, ap, sym, subst, ◌∙◌, length-reverse}
use Rattle.exact_decoder.proofs.decoder.Decoder.pending.Goals as goal

pub returns-clause-value : goal.returns-clause-value
returns-clause-value g c =
    ap length c.as_slice.ensures.value ∙ sym (length-reverse c.self.inside.pending) ∙ ap (λ v. length v.pending) c.self.view_is

pub returns-clause-few : goal.returns-clause-few
returns-clause-few g c =
    subst (λ n. n ≤ g.row.DEPTH + 1)
    (sym (ap length c.as_slice.ensures.value ∙ sym (length-reverse c.self.inside.pending))) c.self.invariant.few_pending
