use Rattle.noise_bound.proofs.Names.{sym, subst, IsOnlyLeast, v32_from}
use Rattle.noise_bound.proofs.Followed.{only-least}
use Rattle.noise_bound.proofs.noiseless.only_the_sent_labels_are_least.Goals as goal

pub returns : goal.returns
returns c = λ start labels samples h. subst (λ k. IsOnlyLeast (v32_from start) k labels) (sym h.exact)
    (only-least start h.end labels h.leads)
