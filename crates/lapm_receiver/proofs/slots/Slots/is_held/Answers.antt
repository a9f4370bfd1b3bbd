use Rattle.lapm_receiver.proofs.Names.{◌∙◌, sym, ap, is_some, slice_get, info_at}
use Rattle.lapm_receiver.proofs.Rows.{seen-held, copied-some}
use Rattle.lapm_receiver.proofs.slots.Slots.is_held.Goals as goal

pub returns : goal.returns
returns c =
    c.is_some.ensures
    ∙ sym (copied-some c.info_in.result)
    ∙ ap (λ o. is_some o) c.info_in.ensures
    ∙ ap (λ k. is_some (info_at (slice_get c.self.inside.ring.items k))) c.from.ensures
    ∙ sym (seen-held _ _ _ _ _ c.self.view_is c.requires.delivered c.requires.low)
