use Rattle.lapm_link.proofs.Names.{◌≡◌, refl, Some, Option, StandsFor, AnyEnd, Account, agree, Offer}
use Rattle.lapm_link.specs.declared.any_end.AnyEnd.TheVariants as ends
use Rattle.link_account.specs.Hear.{on_xid_response}
use Rattle.lapm_link.proofs.Kept.{moved, as_kept}
use Rattle.lapm_link.proofs.asking.Asking.on_offer.Goals as goal

by_offer : (end : AnyEnd) (turn : _) (a : Account) (o : Option Offer) (offer : Offer) → Some offer ≡ o
    → StandsFor end (on_xid_response (Some offer) turn a) → StandsFor end (on_xid_response o turn a)
by_offer end turn a o offer e h = rw (← e) h

pub returns-in-Some-clause-becomes : goal.returns-in-Some-clause-becomes
returns-in-Some-clause-becomes c = λ a h.
    by_offer (ends.Establishing c.new.result) c.args.turn a _ _ c.in-Some.ensures.offer
    (c.new.ensures (record a { terms = agree a.setup.offer c.in-Some.offer })
    (as_kept _ c.agree.ensures.setup c.agree.ensures.answer
    (moved a.phase (agree a.setup.offer c.in-Some.offer) a.wait.try a.wait.try_set a.wait.try_count h.unlinked))
    (rw (c.agree.ensures.terms, h.unlinked.setup_is, h.originates) refl))
