use Rattle.link_run.proofs.Reading.{runs_by_what_was_read, runs_by_what_is_read_on}
use Rattle.link_run.proofs.laws.files_count_as_far_as_they_were_read.Goals as goal

pub returns : goal.returns
returns c = assumption (
  runs_by_what_was_read c.reads_allowed.ensures c.keeps_taken.ensures,
  runs_by_what_is_read_on c.reads_allowed.ensures c.keeps_taken.ensures,
)
