-- Samples that are near the points of a code sequence.
use Rattle.std.specs.Prelude.{◌≡◌, ℕ, ◌+◌, ◌<◌, ◌≤◌, Bool, nat_eq, List, ◌++◌, length, None}
use Rattle.shared_terms.specs.Prefix.{IsPrefixOf}
use Rattle.symbol_map.specs.declared.sample.Sample.{Sample}
use Rattle.trellis_tables.specs.Laws.{far_from}
use Rattle.trellis_tables.specs.Sequences.{cost}
use Rattle.exact_decoder.specs.Surviving.Trellises.{IsSequence}
use Rattle.exact_decoder.specs.Surviving.V32.{v32_code}
use Rattle.exact_decoder.specs.Decoder.{Decoding}

-- one state alone
abbrev pub only : ℕ → ℕ → Bool
only start state = nat_eq state start

-- Below this cost the sent labels are told from all that start in the same state: a quarter of 10 squares of a map unit, of 2048 squared each.
abbrev pub sure : ℕ
sure = 10485760

-- And below this one from those that start in another state: a quarter of 4.
abbrev pub sure_of_any : ℕ
sure_of_any = 4194304

-- The labels are a sequence from one of the starts, and the samples are so near that they cost less than the bound.
pub record IsNear (bound : ℕ) (starts : ℕ → Bool) (labels : List ℕ) (samples : List Sample) : Type 0 where
  pub end : ℕ
  pub sequence : IsSequence (v32_code starts) samples labels end
  pub near : cost far_from labels samples < bound

-- A decoder isn't lost, what it released is a prefix of the labels, and at most so many of them are to come.
pub record Follows (most : ℕ) (d : Decoding) (taken labels : List ℕ) : Type 0 where
  pub never_lost : d.lost ≡ None
  pub was_sent : IsPrefixOf (taken ++ d.pending) labels
  pub few_to_come : length labels ≤ length (taken ++ d.pending) + most
