use Rattle.noise_bound.proofs.Distances.{meeting-is-far, meeting-again_is-far}
use Rattle.noise_bound.proofs.noisy.meeting_sequences_are_far.Goals as goal

pub returns : goal.returns
returns c = record { from_two = meeting-is-far; from_one = meeting-again_is-far }
