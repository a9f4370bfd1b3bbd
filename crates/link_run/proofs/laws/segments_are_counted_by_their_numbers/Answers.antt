use Rattle.link_run.proofs.Amounts.{counts_by_number, sent_below_high}
use Rattle.link_run.proofs.laws.segments_are_counted_by_their_numbers.Goals as goal

pub returns : goal.returns
returns c = assumption (
  counts_by_number c.reads_allowed.ensures c.keeps_taken.ensures c.next_numbers.ensures,
  sent_below_high c.reads_allowed.ensures c.keeps_taken.ensures c.next_numbers.ensures,
)
