use Rattle.exact_decoder.proofs.Names.{nat_lt, ap, ◌∙◌, w32, tops_compared, sel_l}
use Rattle.exact_decoder.proofs.Lessers.{lessers}
use Rattle.exact_decoder.proofs.lines.lesser.Goals as goal

pub returns : goal.returns
returns c = ap (λ ms. sel_l ms c.args.a c.args.b) (tops_compared w32 nat_lt c.args.a c.args.b) ∙ lessers c.args.a c.args.b
