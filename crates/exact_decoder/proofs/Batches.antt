-- Several samples more.
use Rattle.exact_decoder.proofs.Names.{◌≡◌, ℕ, ◌+◌, ◌<◌, ◌≤◌, ◌^◌, min, List, [], ◌∷◌, ◌++◌, length, Option, Some, arith, append_assoc}
use Rattle.exact_decoder.proofs.Names.{length-append, subst, min-le_left, min-le_right, min-eq_left, min-eq_right}
use Rattle.exact_decoder.proofs.Names.{append-nil, SteppedEach, sums_at, Kept, KeepsSurvivors, Stepped, trellis_of, Sample, IsBounded}
use Rattle.exact_decoder.proofs.Names.{StaysWithin, Reaches, EntersOnce}
use Rattle.exact_decoder.specs.Batches.{IsSmallAfter}
use Rattle.exact_decoder.proofs.Pushed.{keeps-stepped}
use Rattle.exact_decoder.proofs.Spreading.{spread-next}

module _ (table : ℕ → ℕ → Option ℕ) (points : ℕ → Sample) (states labels reach : ℕ) where
  pub stepped-none : (k : Kept) → SteppedEach table points states reach [] k k
  stepped-none k = grind (arith, append-nil)

  pub stepped-more : (samples : List Sample) (sample : Sample) (old mid new : Kept) → IsBounded table states labels
      → StaysWithin table states labels → Reaches table states labels reach → EntersOnce table states labels
      → SteppedEach table points states reach samples old mid → Stepped table points sample mid new
      → SteppedEach table points states reach (samples ++ sample ∷ []) old new
  stepped-more samples sample old mid new bounded within reaches once s p =
      let n : length (samples ++ sample ∷ []) ≡ length samples + 1 = length-append {A = Sample} samples (sample ∷ []) in
      record {
        keeps = λ starts past front h.
            subst (λ l. KeepsSurvivors (trellis_of table points starts) new l front) (append_assoc past samples (sample ∷ []))
            (keeps-stepped _ _ _ _ _ _ _ _ _ _ bounded once p (s.keeps starts past front h));
        small = λ count h.
            let more : (count + length samples) + 1 ≡ count + length (samples ++ sample ∷ []) = omega (arith, n) in
            subst (λ m. IsSmallAfter table states reach m new) more
            (spread-next _ _ _ _ _ _ _ _ _ bounded within reaches p (s.small count h));
        longer = omega (arith, n, s.longer, p.longer_by_one);
      }

-- how far the sums are apart before one sample more
pub small-before : (table : ℕ → ℕ → Option ℕ) (states reach count : ℕ) (k : Kept) → reach ≤ 64 → IsSmallAfter table states reach count k
    → (s m : ℕ) → sums_at k.sums s ≡ Some m → m < 2 ^ 44
small-before table states reach count k few h s m e = omega (arith, h.small s m e, min-le_right count reach, few)

-- how many samples are heard where there is room for at least one
pub heard-within : (given room heard : ℕ) → heard ≡ min given room → heard ≤ given
heard-within given room heard is = omega (arith, is, min-le_left given room)

pub heard-fit : (given room heard : ℕ) → heard ≡ min given room → heard ≤ room
heard-fit given room heard is = omega (arith, is, min-le_right given room)

pub some-heard : (given room heard : ℕ) → heard ≡ min given room → 1 ≤ room → 1 ≤ given → 1 ≤ heard
some-heard given room heard is r g = grind (arith, min-eq_left, min-eq_right)
