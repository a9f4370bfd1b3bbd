use Rattle.line_coding.proofs.TurnedSamples.{samples_come_back}
use Rattle.line_coding.proofs.TurnedLabels.{labels_come_back}
use Rattle.line_coding.proofs.Names.{four_turns_are_none}
use Rattle.line_coding.proofs.quarter_turns.four_turns_give_back.Goals as goal

pub returns : goal.returns
returns c = record { samples = samples_come_back; labels = labels_come_back; states = four_turns_are_none }
