use Rattle.link_pair.proofs.Completing.{DoneLaws, completes-of}
use Rattle.link_pair.proofs.laws.right_pairs_are_done.Goals as goal

pub returns : goal.returns
returns c =
    let laws : DoneLaws = record {
      result = c.one_pair_result.ensures;
      one = c.one_answer.ensures.scripts;
      apart = c.one_answer.ensures.apart;
      limits = c.spelled_scripts_are_in_limits.ensures.limits;
      breaks = c.spelled_scripts_are_in_limits.ensures.breaks;
      unstarved = c.pairs_complete.ensures.unstarved;
      quiet = c.pairs_complete.ensures.quiet;
      isolated = c.pairs_are_isolated.ensures.faint;
      few = c.few_losses_keep_links.ensures;
      few_named = c.undisturbed_runs_complete.ensures.few_named;
      faint = c.undisplaced_runs_have_faint_noise.ensures;
    } in
    completes-of laws
