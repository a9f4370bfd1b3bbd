use Rattle.line_texts.proofs.Fits.{text-fits}
use Rattle.line_texts.proofs.laws.texts_fit.Goals as goal

pub returns : goal.returns
returns c = text-fits
