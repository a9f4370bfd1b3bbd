use Rattle.link_run.proofs.LoneReading.{lone_runs_by_what_is_read_on, lone_runs_keep_their_setup}
use Rattle.link_run.proofs.laws.the_file_of_one_counts_as_far_as_it_was_read.Goals as goal

pub returns : goal.returns
returns c = assumption (
  lone_runs_by_what_is_read_on c.reads_allowed.ensures c.keeps_taken.ensures,
  lone_runs_keep_their_setup c.reads_allowed.ensures c.keeps_taken.ensures,
)
