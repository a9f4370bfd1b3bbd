use Rattle.lapm_link.proofs.Names.{sym, ap, subst, Negotiates, Terms}
use Rattle.lapm_link.proofs.negotiating.Negotiating.has_long_check.Goals as goal

pub returns-in-Asking : goal.returns-in-Asking
returns-in-Asking c = λ a h. sym (ap (λ (terms : Terms). terms.check32) (subst (λ talk. Negotiates talk a) c.in-Asking.is h).terms_are)
