use Rattle.line_coding.proofs.TurnedSamples.{turned_samples_fit}
use Rattle.line_coding.proofs.quarter_turns.turned_samples_are_samples.Goals as goal

pub returns : goal.returns
returns c = turned_samples_fit
