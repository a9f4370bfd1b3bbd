use Rattle.link_run.proofs.Overhearing.{KnowingLaws, sends_agreed_check, hears_agreed_check, judges_by_its_check, judges_once_heard}
use Rattle.link_run.proofs.laws.numbers_have_the_agreed_check.Goals as goal

pub returns : goal.returns
returns c =
    let laws : KnowingLaws =
    record { reads = c.reads_allowed.ensures; keeps = c.keeps_taken.ensures; written = c.reads_written.ensures.read } in
    assumption (sends_agreed_check laws, hears_agreed_check laws, judges_by_its_check laws, judges_once_heard laws)
