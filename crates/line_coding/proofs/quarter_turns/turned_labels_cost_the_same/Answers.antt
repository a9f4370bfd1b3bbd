use Rattle.line_coding.proofs.TurnedSequences.{cost_stays}
use Rattle.line_coding.proofs.quarter_turns.turned_labels_cost_the_same.Goals as goal

pub returns : goal.returns
returns c = cost_stays
