use Rattle.xid_params.proofs.Names.{◌≡◌, true, false, nat_eq, arith, nat_tests}
use Rattle.xid_params.proofs.Groups.{offers-other, offers-first}
use Rattle.xid_params.proofs.reader.behind_group.Goals as goal

pub returns-in_ok-offer-clause-ok : goal.returns-in_ok-offer-clause-ok
returns-in_ok-offer-clause-ok c groups o new =
    let same : nat_eq c.args.identifier 128 ≡ true = let h = c.if-identifier-eq-PARAMETERS.true in grind (arith, nat_tests) in
    offers-first groups (record { identifier = c.args.identifier; value = c.args.content.now }) c.in_ok-offer.offer
    (new c.if-identifier-eq-PARAMETERS.true) same c.in_ok-offer.ensures.ok

pub returns-else-identifier-eq-PARAMETERS-clause-ok : goal.returns-else-identifier-eq-PARAMETERS-clause-ok
returns-else-identifier-eq-PARAMETERS-clause-ok c groups o new =
    let other : nat_eq c.args.identifier 128 ≡ false = let h = c.if-identifier-eq-PARAMETERS.false in grind (arith, nat_tests) in
    offers-other c.args.offered groups (record { identifier = c.args.identifier; value = c.args.content.now }) other o
