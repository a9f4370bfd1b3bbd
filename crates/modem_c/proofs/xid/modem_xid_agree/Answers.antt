use Rattle.std.proofs.Common.{ap, refl, ◌∙◌}
use Rattle.modem_c.specs.Offers.{terms_of}
use Rattle.modem_c.specs.Offers.Agreed.{AsTerms}
use Rattle.modem_c.proofs.xid.modem_xid_agree.Goals as goal

pub returns : goal.returns
returns c = AsTerms c.in-Some-Some.originator c.in-Some-Some.answerer c.in-Some-Some.ensures c.in-Some-Some.ensures'
    (c.terms_of.ensures ∙ ap terms_of c.agree.ensures) refl
