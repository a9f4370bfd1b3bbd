use Rattle.exact_decoder.proofs.Names.{◌≡◌, ◌∙◌, ℕ, ◌*◌, ◌≤◌, sym, subst, arith, length-replicate}
use Rattle.exact_decoder.proofs.step.advance_plainly.Goals as goal

-- subsets that fill the labels are no more than these
no-more : (subsets parallel labels : ℕ) → subsets * parallel ≡ labels → 1 ≤ parallel → subsets ≤ labels
no-more subsets parallel labels fill some = grind arith

pub returns : goal.returns
returns g c = record {
  nearest = c.find_nearest.new.nearest;
  entered = c.enter.new.entered;
  least = c.least_of-least.result;
  is_nearest = c.find_nearest.ensures.nearest;
  close = c.find_nearest.ensures.close;
  into = c.enter.ensures.least;
  entered_long = c.enter.ensures.long ∙ length-replicate g.row.STATES 0;
  is_least = c.least_of-least.ensures;
  settled = c.settle.ensures;
}

pub find_nearest-requires : goal.find_nearest-requires
find_nearest-requires g c =
    let t = g.met.C.TrellisCode in
    subst (λ (n : ℕ). g.C.TrellisCode.SUBSETS ≤ n) (sym (length-replicate g.row.LABELS 0)) (no-more _ _ _ t.subsets_fill t.parallel_some)

pub enter-requires : goal.enter-requires
enter-requires g c = record {
  states = c.requires.sums;
  entered = length-replicate g.row.STATES 0;
  subsets = subst (λ (n : ℕ). g.C.TrellisCode.SUBSETS ≤ n) (sym (c.find_nearest.ensures.long ∙ length-replicate g.row.LABELS 0))
      (no-more _ _ _ g.met.C.TrellisCode.subsets_fill g.met.C.TrellisCode.parallel_some);
  small = c.requires.small;
  near = c.find_nearest.ensures.bound;
}
