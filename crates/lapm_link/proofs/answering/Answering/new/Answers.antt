use Rattle.lapm_link.proofs.Names.{refl, agree}
use Rattle.link_account.specs.declared.phase.Phase.TheVariants as phases
use Rattle.lapm_link.proofs.Kept.{moved, as_kept}
use Rattle.lapm_link.proofs.answering.Answering.new.Goals as goal

pub returns : goal.returns
returns c = λ a r h. record {
  phase_is = refl;
  answers = r;
  unlinked = as_kept _ c.agree.ensures.setup c.agree.ensures.answer
      (c.owe.ensures.account _
      (moved phases.Negotiating (agree c.args.theirs.now a.setup.offer) a.wait.try a.wait.try_set a.wait.try_count h));
  terms_are = rw (c.agree.ensures.terms, c.owe.ensures.setup, h.setup_is, r) refl;
}
