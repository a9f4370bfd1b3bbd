-- A step of the survivors: from the sums of all states, by a sample, to new sums and a column of choices. This is the body's own: no
-- public
-- clause names it but that of the step itself.
use Rattle.std.specs.Prelude.{◌≡◌, ℕ, ◌<◌, List, length, slice_index}
use Rattle.symbol_map.specs.declared.sample.Sample.{Sample}
use Rattle.exact_decoder.specs.declared.choice.Choice.{Choice}
use Rattle.exact_decoder.specs.Keys.{IsNearest, AreClose, IsLeastWay}
use Rattle.exact_decoder.specs.Settled.{IsLeastKeyOf, AreSettled}

-- the nearest label of each subset, the least way into each state, the least of these, and what they make
pub record Advances (points : ℕ → Sample) (states parallel subsets ways : ℕ) (before subset : ℕ → ℕ → ℕ) (sample : Sample)
    (sums new_sums : List ℕ) (column : List Choice) : Type 0 where
  pub nearest : List ℕ
  pub entered : List ℕ
  pub least : ℕ
  pub is_nearest : (q : ℕ) → q < subsets → IsNearest points parallel sample q (slice_index nearest q)
  pub close : (q : ℕ) → q < subsets → AreClose points parallel sample q
  pub into : (to : ℕ) → to < states → IsLeastWay ways before subset sums nearest to (slice_index entered to)
  pub entered_long : length entered ≡ states
  pub is_least : IsLeastKeyOf states entered least
  pub settled : AreSettled states entered least new_sums column
