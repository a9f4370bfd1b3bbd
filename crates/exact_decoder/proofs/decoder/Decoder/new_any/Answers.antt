use Rattle.exact_decoder.proofs.Names.{◌≡◌, ◌<◌, nat_lt, Some, None, [], length, reverse, refl, ◌∙◌, ap, subst, arith, lt-ltb, All-same}
use Rattle.exact_decoder.proofs.Names.{All-nil, sums_at}
use Rattle.exact_decoder.specs.Memory.{opened}
use Rattle.exact_decoder.proofs.Spreading.{spread-start}
use Rattle.exact_decoder.proofs.Started.{get_or-replicate, any_start, any-small, start-stands}
use Rattle.exact_decoder.proofs.decoder.Decoder.new_any.Goals as goal

pub invariant_of-result : goal.invariant_of-result
unfolding opened
invariant_of-result g c =
    let t = g.C.TrellisCode in
    let some : 0 < g.row.STATES = omega (arith, g.met.C.TrellisCode.states_few.0) in
    let sums = ap (λ v. v.sums) c.in_ok-new_any.ensures in
    let none : reverse c.new.result ≡ [] = ap reverse c.new.ensures in
    record {
      low = c.requires.low;
      high = c.requires.high;
      few = omega arith;
      spread = spread-start _ _ _ 0 _ some (ap (λ l. sums_at l 0) sums ∙ get_or-replicate _ 0 (Some 0) None some)
          (λ s m e. any-small g.row.STATES s _ (subst (λ l. sums_at l s ≡ Some m) sums e));
      room = λ e. omega (arith, ap (λ v. v.unreleased) c.in_ok-new_any.ensures);
      few_unreleased = omega (arith, ap (λ v. v.unreleased) c.in_ok-new_any.ensures);
      few_pending = omega (arith, ap length none);
      pending_below = All-same (λ label. label < g.row.LABELS) (reverse c.new.result) [] none (All-nil (λ label. label < g.row.LABELS));
    }

pub returns-clause-stands : goal.returns-clause-stands
unfolding opened
returns-clause-stands g c =
    let t = g.C.TrellisCode in
    let some : 0 < g.row.STATES = omega (arith, g.met.C.TrellisCode.states_few.0) in
    start-stands _ _ (λ state. nat_lt state g.row.STATES) _ _ 0 _ _ (lt-ltb 0 g.row.STATES some) (any_start _) c.in_ok-new_any.ensures refl
    (ap reverse c.new.ensures) refl
