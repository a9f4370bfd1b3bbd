use Rattle.line_tap.proofs.Headline.{headline-of}
use Rattle.line_tap.proofs.promises.answers_keep_the_headline.Goals as goal

pub returns : goal.returns
returns c = headline-of
