use Rattle.std.proofs.Common.{refl}
use Rattle.xid_params.specs.Terms.{agree, default_offer}
use Rattle.lapm_link.proofs.Kept.{moved, as_kept}
use Rattle.lapm_link.proofs.detecting.Detecting.answer.Goals as goal

pub returns-in-Sabme-clause-hears : goal.returns-in-Sabme-clause-hears
returns-in-Sabme-clause-hears c = λ a h r.
    rw c.in-Sabme.is
    (c.accept.ensures.links (record a { terms = agree default_offer a.setup.offer })
    (as_kept _ c.agree-agreed.ensures.setup c.agree-agreed.ensures.answer
    (moved a.phase (agree default_offer a.setup.offer) a.wait.try a.wait.try_set a.wait.try_count h.unlinked))
    (rw (c.agree-agreed.ensures.terms, h.unlinked.setup_is, r, c.default_offer.ensures) refl))
