use Rattle.bit_stuffing.proofs.Names.{subst, eqb-true, eq-eqb, HoldsLatest}
use Rattle.bit_stuffing.proofs.Latest.{latest-flag, flag-latest}
use Rattle.bit_stuffing.proofs.finder.ends_flag.Goals as goal

pub returns : goal.returns
returns c = λ bits h. (
  λ e. latest-flag bits (subst (λ n. HoldsLatest n bits) (eqb-true c.args.latest 126 e) h),
  λ f. eq-eqb c.args.latest 126 (flag-latest c.args.latest bits h f),
)
