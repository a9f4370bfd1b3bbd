use Rattle.std.proofs.Common.{refl, ap, arith}
use Rattle.lapm_sender.proofs.sender.Sender.begin.Goals as goal

pub returns-clause-stands : goal.returns-clause-stands
returns-clause-stands c = record {
  window_is = refl;
  size_is = refl;
  tries_is = refl;
  front_within = omega arith;
  kept_is = ap (λ s. s.kept) c.restart.ensures;
  ended_is = refl;
  front_is = ap (λ s. s.front) c.restart.ensures;
  high_is = refl;
  from_is = refl;
  chosen_is = ap (λ s. s.chosen) c.restart.ensures;
  count_is = refl;
  awaited_is = refl;
  paused_is = refl;
}
