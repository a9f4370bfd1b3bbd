-- A trellis: what a decoder searches. Its sequences are those of a code that start in one of some states.
use Rattle.std.specs.Prelude.{◌≡◌, ℕ, ◌<◌, ◌≤◌, Bool, true, List, length, Option}
use Rattle.symbol_map.specs.declared.sample.Sample.{Sample}
use Rattle.symbol_map.specs.Distance.{distance_of}
use Rattle.trellis_tables.specs.Sequences.{IsCodeSequence}
use Rattle.trellis_tables.specs.Codes.{IsBounded, StaysWithin, EntersOnce, Reaches}

-- the table of next states, how far a label is from a sample, and the states that a sequence may start in
pub record Trellis (X : Type 0) : Type 0 where
  pub next : ℕ → ℕ → Option ℕ
  pub distance : ℕ → X → ℕ
  pub starts : ℕ → Bool

-- that of a code's table and points: the distance is the squared one of the label's point
abbrev pub trellis_of : (ℕ → ℕ → Option ℕ) → (ℕ → Sample) → (ℕ → Bool) → Trellis Sample
trellis_of table points starts = record { next = table; distance = λ label sample. distance_of (points label) sample; starts = starts }

-- the labels are a code sequence to the end, and there is one for each sample
pub record IsSequence {X : Type 0} (t : Trellis X) (samples : List X) (labels : List ℕ) (end : ℕ) : Type 0 where
  pub code_sequence : IsCodeSequence t.next t.starts labels end
  pub same_length : length labels ≡ length samples

-- what a code's laws say of its table, with starts that are among its states
pub record HasLaws {X : Type 0} (t : Trellis X) (states labels steps : ℕ) : Type 0 where
  pub bounded : IsBounded t.next states labels
  pub within : StaysWithin t.next states labels
  pub enters_once : EntersOnce t.next states labels
  pub some_steps : 1 ≤ steps
  pub reaches : Reaches t.next states labels steps
  pub start : ℕ
  pub starts_there : t.starts start ≡ true
  pub starts_within : (state : ℕ) → t.starts state ≡ true → state < states
