use Rattle.command_laws.proofs.Isolating.{AloneLaws, links-are-alone, undisplaced-links-are-alone}
use Rattle.command_laws.proofs.laws.links_are_alone.Goals as goal

pub returns-clause-faint : goal.returns-clause-faint
returns-clause-faint c =
    let laws : AloneLaws = record {
      isolated = c.pairs_are_isolated.ensures.faint;
      result = c.one_result.ensures;
      one = c.one_answer.ensures.scripts;
      breaks = c.spelled_scripts_are_in_limits.ensures.breaks;
    } in
    links-are-alone laws

pub returns-clause-undisplaced : goal.returns-clause-undisplaced
returns-clause-undisplaced c =
    let laws : AloneLaws = record {
      isolated = c.pairs_are_isolated.ensures.faint;
      result = c.one_result.ensures;
      one = c.one_answer.ensures.scripts;
      breaks = c.spelled_scripts_are_in_limits.ensures.breaks;
    } in
    undisplaced-links-are-alone c.undisplaced_runs_have_faint_noise.ensures (links-are-alone laws)
