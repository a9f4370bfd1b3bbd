use Rattle.noise_bound.proofs.Margins.{sure-is-near, sure-is-decoded}
use Rattle.noise_bound.proofs.laws.sure_recordings_are_decoded.Goals as goal

pub returns : goal.returns
returns c = record { near = sure-is-near; decoded = sure-is-decoded }
