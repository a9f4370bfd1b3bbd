use Rattle.xid_params.proofs.Names.{[], ◌∷◌, ◌++◌, sym, subst, Stands}
use Rattle.xid_params.proofs.Tables.{stands-other, well-other, well-more, not-repeated}
use Rattle.xid_params.proofs.given.Given.take.Goals as goal

pub returns-in_default-clause-stands : goal.returns-in_default-clause-stands
returns-in_default-clause-stands c parts s new =
    stands-other c.args.self.now parts (record { identifier = c.args.identifier; value = c.args.value.now }) c.in_default.ensures.none s

pub returns-in_default-clause-well : goal.returns-in_default-clause-well
returns-in_default-clause-well c parts w new =
    well-other parts (record { identifier = c.args.identifier; value = c.args.value.now }) c.in_default.ensures.none w

pub returns-clause-stands : goal.returns-clause-stands
returns-clause-stands c parts s new =
    subst (λ i. Stands c.put.new.self (parts ++ record { identifier = i; value = c.args.value.now } ∷ [])) (sym c.in-Some.ensures.some)
    (c.put.ensures parts s (not-repeated parts c.args.identifier c.in-Some.parameter c.in-Some.ensures.some new))

pub returns-clause-well : goal.returns-clause-well
returns-clause-well c parts w new =
    well-more parts (record { identifier = c.args.identifier; value = c.args.value.now }) c.in-Some.parameter c.in-Some.ensures.some
    (not-repeated parts c.args.identifier c.in-Some.parameter c.in-Some.ensures.some new) c.in_ok-check.ensures.ok.0
    c.in_ok-check.ensures.ok.1 w
