use Rattle.line_texts.proofs.Fits.{line-fits}
use Rattle.line_texts.proofs.laws.lines_fit.Goals as goal

pub returns : goal.returns
returns c = line-fits
