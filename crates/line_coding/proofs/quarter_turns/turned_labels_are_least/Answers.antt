use Rattle.line_coding.proofs.TurnedSequences.{least_turns}
use Rattle.line_coding.proofs.quarter_turns.turned_labels_are_least.Goals as goal

pub returns : goal.returns
returns c = least_turns
