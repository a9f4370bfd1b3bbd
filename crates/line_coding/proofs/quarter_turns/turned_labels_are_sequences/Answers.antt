use Rattle.line_coding.proofs.TurnedSequences.{sequences_turn}
use Rattle.line_coding.proofs.quarter_turns.turned_labels_are_sequences.Goals as goal

pub returns : goal.returns
returns c = sequences_turn
