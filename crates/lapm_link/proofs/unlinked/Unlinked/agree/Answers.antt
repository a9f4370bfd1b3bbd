use Rattle.lapm_link.proofs.Fitting.{fits}
use Rattle.lapm_link.proofs.unlinked.Unlinked.agree.Goals as goal

pub invariant_of-result : goal.invariant_of-result
invariant_of-result c =
    record { fits = rw c.terms_of-terms.ensures (fits c.args.self.setup c.args.theirs.now c.args.self.set_up.offer c.requires) }
