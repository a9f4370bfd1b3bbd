use Rattle.detection.proofs.Names.{eqb-true}
use Rattle.std.proofs.lemmas.Bool.{not-false}
use Rattle.detection.proofs.Quiet.{eight-ones}
use Rattle.detection.proofs.reader.has_eight_ones.Goals as goal

pub returns : goal.returns
returns c = λ none i ones. eight-ones c.args.bits (eqb-true _ 0 (not-false _ none)) i ones
