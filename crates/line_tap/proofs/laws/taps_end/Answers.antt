use Rattle.line_tap.proofs.TapsEnd.{EndLaws, each-tap-ends}
use Rattle.line_tap.proofs.laws.taps_end.Goals as goal

pub returns : goal.returns
returns c =
    let laws : EndLaws = assumption in
    each-tap-ends laws
