use Rattle.xid_params.proofs.Names.{◌≢◌, [], sym, subst, named}
use Rattle.xid_params.proofs.given.Given.repeats.Goals as goal

pub returns-in-Some : goal.returns-in-Some
returns-in-Some c parts s = (
  λ is. record {
    parameter = c.in-Some.parameter;
    identifier_is = c.in-Some.ensures.some;
    again = subst (λ i. named i parts ≢ []) (sym c.in-Some.ensures.some) ((c.has.ensures parts s).0 is);
  },
  λ r. (c.has.ensures parts s).1 (subst (λ i. named i parts ≢ []) c.in-Some.ensures.some r.again),
)
