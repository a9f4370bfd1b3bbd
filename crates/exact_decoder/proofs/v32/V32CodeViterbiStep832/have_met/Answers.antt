use Rattle.exact_decoder.proofs.Names.{◌≡◌, length, slice_index, take, ◌∙◌, sym, arith, take_all}
use Rattle.exact_decoder.proofs.Vectors.{lanes, lanes-are}
use Rattle.exact_decoder.proofs.Alike.{all-one}
use Rattle.exact_decoder.proofs.v32.V32CodeViterbiStep832.have_met.Goals as goal

pub returns : goal.returns
returns c told =
    let live = c.args.live.now in
    let long : length live ≡ 8 = omega arith in
    let list : take 8 live ≡ lanes live = take_all 8 live (omega (arith, long)) ∙ lanes-are live long in
    all-one (slice_index live) (sym (c.is_one.ensures _ _ _ _ _ _ _ _ list) ∙ told)
