use Rattle.exact_decoder.proofs.entering.better.Goals as goal

pub returns : goal.returns
returns c = c.min.ensures
