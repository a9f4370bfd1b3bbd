use Rattle.std.proofs.lemmas.Bool.{eq-eqb}
use Rattle.exact_decoder.proofs.Names.{◌≡◌, ◌<◌, nat_eq, Some, [], length, reverse, refl, ◌∙◌, ap, subst, arith, All-same, All-nil, sums_at}
use Rattle.exact_decoder.specs.Memory.{opened}
use Rattle.exact_decoder.proofs.Spreading.{spread-start}
use Rattle.exact_decoder.proofs.Started.{one_start, start-small, start-reached, start-stands}
use Rattle.exact_decoder.proofs.decoder.Decoder.new.Goals as goal

pub invariant_of-result : goal.invariant_of-result
unfolding opened
invariant_of-result g c =
    let t = g.C.TrellisCode in
    let sums = ap (λ v. v.sums) c.in_ok-new.ensures in
    let none : reverse c.new-2.result ≡ [] = ap reverse c.new-2.ensures in
    record {
      low = c.requires.low;
      high = c.requires.high;
      few = omega arith;
      spread = spread-start _ _ _ _ _ c.requires.start (ap (λ l. sums_at l c.args.start) sums ∙ start-reached _ _ c.requires.start)
          (λ s m e. start-small _ _ c.requires.start _ _ (subst (λ l. sums_at l s ≡ Some m) sums e));
      room = λ e. omega (arith, ap (λ v. v.unreleased) c.in_ok-new.ensures);
      few_unreleased = omega (arith, ap (λ v. v.unreleased) c.in_ok-new.ensures);
      few_pending = omega (arith, ap length none);
      pending_below = All-same (λ label. label < g.row.LABELS) (reverse c.new-2.result) [] none (All-nil (λ label. label < g.row.LABELS));
    }

pub returns-clause-stands : goal.returns-clause-stands
unfolding opened
returns-clause-stands g c =
    let t = g.C.TrellisCode in
    start-stands _ _ (λ state. nat_eq state c.args.start) _ _ _ _ _ (eq-eqb c.args.start c.args.start refl)
    (one_start _ _ c.requires.start) c.in_ok-new.ensures refl (ap reverse c.new-2.ensures) refl
