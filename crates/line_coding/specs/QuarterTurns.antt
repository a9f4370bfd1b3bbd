-- Starts, labels and samples after a quarter turn.
use Rattle.std.specs.Prelude.{◌≡◌, ℕ, zero, suc, ◌<◌, ℤ, pos, neg_ℤ, ◌≤ℤ◌, Bool, true, List, map}
use Rattle.symbol_map.specs.declared.sample.Sample.{Sample}
use Rattle.symbol_map.specs.Distance.{quarter_turned}
use Rattle.trellis_tables.specs.Laws.{AreTurnedStarts}

-- starts among the eight states, and the states among them that these turn to
pub record StartsTurn (starts turned_starts : ℕ → Bool) : Type 0 where
  pub within : (state : ℕ) → starts state ≡ true → state < 8
  pub turned_within : (state : ℕ) → turned_starts state ≡ true → state < 8
  pub turned : AreTurnedStarts starts turned_starts

-- a coordinate of 16 bits that is not -32768
pub record IsInner (n : ℤ) : Type 0 where
  pub low : neg_ℤ (pos 32767) ≤ℤ n
  pub high : n ≤ℤ pos 32767

-- a sample without a coordinate of -32768
pub record AreInner (sample : Sample) : Type 0 where
  pub re : IsInner sample.re
  pub im : IsInner sample.im

-- samples after so many quarter turns
abbrev pub turned_by : ℕ → List Sample → List Sample
turned_by zero samples = samples
turned_by (suc turns) samples = map quarter_turned (turned_by turns samples)
