use Rattle.std.proofs.Common.{sym, ◌∙◌}
use Rattle.bit_stuffing.proofs.Quiet.{six-ones, zero-of}
use Rattle.bit_stuffing.proofs.finder.has_six_ones.Goals as goal

pub returns : goal.returns
returns c = λ none i ones. six-ones c.args.bits (sym c.six_ones.ensures ∙ zero-of c.six_ones.result none) i ones
