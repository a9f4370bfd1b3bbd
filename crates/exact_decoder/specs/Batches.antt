-- What is kept of the survivors after several samples more, before any release.
use Rattle.std.specs.Prelude.{◌≡◌, ℕ, ◌+◌, Bool, List, ◌++◌, length, min, take, Option, Result, Ok, Err}
use Rattle.symbol_map.specs.declared.sample.Sample.{Sample}
use Rattle.exact_decoder.specs.Surviving.Trellises.{trellis_of}
use Rattle.exact_decoder.specs.Columns.{sums_at}
use Rattle.exact_decoder.specs.Kept.{Kept, KeepsSurvivors}
use Rattle.exact_decoder.specs.Decoder.{IsSpread}

-- how far the sums are apart at the most after so many samples
abbrev pub IsSmallAfter : (ℕ → ℕ → Option ℕ) → ℕ → ℕ → ℕ → Kept → Type 0
IsSmallAfter table states reach count k = IsSpread table states (min count reach) (sums_at k.sums)

-- Whatever was heard before, and released of it: the survivors of that become those of that and of these samples, and nothing is released.
pub record SteppedEach (table : ℕ → ℕ → Option ℕ) (points : ℕ → Sample) (states reach : ℕ) (samples : List Sample) (old new : Kept)
    : Type 0 where
  pub keeps : (starts : ℕ → Bool) (past : List Sample) (front : List ℕ) → KeepsSurvivors (trellis_of table points starts) old past front
      → KeepsSurvivors (trellis_of table points starts) new (past ++ samples) front
  pub small : (count : ℕ) → IsSmallAfter table states reach count old → IsSmallAfter table states reach (count + length samples) new
  pub longer : new.unreleased ≡ old.unreleased + length samples

-- of the samples that a call was handed those that the decoder then stands for: the first so many, or all where the line is lost
abbrev pub heard_of : {E : Type 0} → Result ℕ E → List Sample → List Sample
heard_of (Ok heard) samples = take heard samples
heard_of (Err lost) samples = samples
