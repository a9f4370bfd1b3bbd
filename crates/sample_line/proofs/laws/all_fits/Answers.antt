use Rattle.sample_line.proofs.Fitting.{fits}
use Rattle.sample_line.proofs.laws.all_fits.Goals as goal

pub returns : goal.returns
returns c = fits
