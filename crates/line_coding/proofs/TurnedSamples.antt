-- Samples that are turned.
use Rattle.line_coding.proofs.Names.{◌≡◌, arith, ◌∙◌, ap}
use Rattle.std.specs.Prelude.{ℤ, neg_ℤ}
use Rattle.std.proofs.lemmas.Int.{ints}
use Rattle.line_coding.specs.QuarterTurns.{IsInner}
use Rattle.line_coding.specs.TurnedLaws.{TurnedSamplesFit, SamplesComeBack}

inner-negated : (n : ℤ) → IsInner n → IsInner (neg_ℤ n)
inner-negated n h = record { low = omega (arith, ints, h.low, h.high); high = omega (arith, ints, h.low, h.high) }

pub turned_samples_fit : TurnedSamplesFit
turned_samples_fit sample h = record { re = h.im; im = inner-negated sample.re h.re }

negated-twice : (n : ℤ) → neg_ℤ (neg_ℤ n) ≡ n
negated-twice n = omega (arith, ints)

pub samples_come_back : SamplesComeBack
samples_come_back sample =
    ap (λ x. record { re = x; im = neg_ℤ (neg_ℤ sample.im) }) (negated-twice sample.re)
    ∙ ap (λ y. record { re = sample.re; im = y }) (negated-twice sample.im)
