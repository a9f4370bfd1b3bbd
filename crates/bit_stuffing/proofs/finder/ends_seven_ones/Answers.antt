use Rattle.std.proofs.lemmas.Bool.{eqb-true, eq-eqb}
use Rattle.bit_stuffing.proofs.Latest.{latest-seven, seven-latest}
use Rattle.bit_stuffing.proofs.finder.ends_seven_ones.Goals as goal

pub returns : goal.returns
returns c = λ bits h room. (
  λ e. latest-seven c.args.latest bits h room (eqb-true _ 127 e),
  λ s. eq-eqb _ 127 (seven-latest c.args.latest bits h s),
)
