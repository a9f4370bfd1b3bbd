use Rattle.line_run.proofs.Sampling.{samples_are_carried, one_is_carried}
use Rattle.line_run.proofs.laws.samples_are_carried.Goals as goal

pub returns : goal.returns
returns c = record { runs = samples_are_carried; turn = one_is_carried }
