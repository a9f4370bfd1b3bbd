use Rattle.trellis_tables.proofs.Turning.Inverses.{forgets}
use Rattle.trellis_tables.proofs.differential.laws.turned_line_reads_the_same.Goals as goal

pub returns : goal.returns
returns c = forgets
