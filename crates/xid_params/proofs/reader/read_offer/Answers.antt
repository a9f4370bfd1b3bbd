use Rattle.xid_params.proofs.Names.{◌≡◌, ◌∷◌, arith, sym, ◌∙◌, ap, subst, IfOk, IfErr, FirstFault, OfferSpelling}
use Rattle.xid_params.proofs.Exact.{all-offers, all-faults, same-found, all-allowed}
use Rattle.xid_params.proofs.reader.read_offer.Goals as goal
use Rattle.xid_params.proofs.reader.read_offer.Goals.{After-read_groups}

whole : (c : After-read_groups) → 130 ∷ c.in-Some.groups.now ≡ c.args.info.now
whole c = ap (λ first. first ∷ c.in-Some.groups.now) (sym c.if-first.true) ∙ sym c.in-Some.ensures.cases.0

offer_is_right : (c : After-read_groups) → IfOk c.read_groups.result (OfferSpelling c.args.info.now)
offer_is_right c = subst (λ octets. IfOk c.read_groups.result (OfferSpelling octets)) (whole c) c.read_groups.ensures.ok

fault_is_right : (c : After-read_groups) → IfErr c.read_groups.result (FirstFault c.args.info.now)
fault_is_right c = subst (λ octets. IfErr c.read_groups.result (FirstFault octets)) (whole c) c.read_groups.ensures.err

pub returns-in-Some-clause-all : goal.returns-in-Some-clause-all
returns-in-Some-clause-all c = all-offers c.args.info.now c.read_groups.result (offer_is_right c) (fault_is_right c)

pub returns-in-Some-clause-fault : goal.returns-in-Some-clause-fault
returns-in-Some-clause-fault c = all-faults c.args.info.now c.read_groups.result (offer_is_right c) (fault_is_right c)

pub returns-in-Some-clause-offer : goal.returns-in-Some-clause-offer
returns-in-Some-clause-offer c =
    same-found c.args.info.now c.read_groups.result (λ i. omega (arith, c.type_inv.info i)) (offer_is_right c) (fault_is_right c)

pub returns-in-Some-clause-allowed : goal.returns-in-Some-clause-allowed
returns-in-Some-clause-allowed c = all-allowed c.args.info.now c.read_groups.result (offer_is_right c)
