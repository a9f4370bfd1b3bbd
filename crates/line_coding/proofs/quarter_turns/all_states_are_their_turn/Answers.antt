use Rattle.line_coding.proofs.TurnedSequences.{all_states_turn, least_turns_of_all}
use Rattle.line_coding.proofs.quarter_turns.all_states_are_their_turn.Goals as goal

pub returns : goal.returns
returns c = record { turn = all_states_turn; least = least_turns_of_all }
