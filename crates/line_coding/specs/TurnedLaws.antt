-- Laws of quarter turns.
use Rattle.std.specs.Prelude.{◌≡◌, ℕ, ◌<◌, ◌↔◌, Bool, List, map, All}
use Rattle.symbol_map.specs.declared.sample.Sample.{Sample}
use Rattle.symbol_map.specs.Distance.{quarter_turned}
use Rattle.symbol_map.specs.Laws.{turned_label}
use Rattle.trellis_tables.specs.Sequences.{cost}
use Rattle.trellis_tables.specs.Rotation.{rotated}
use Rattle.exact_decoder.specs.Surviving.Trellises.{IsSequence}
use Rattle.exact_decoder.specs.Surviving.Survivors.{IsLeast}
use Rattle.exact_decoder.specs.Surviving.V32.{at_any, v32_code}
use Rattle.line_coding.specs.QuarterTurns.{StartsTurn, AreInner}

-- a sample that is none of -32768 stays one
abbrev pub TurnedSamplesFit : Type 0
TurnedSamplesFit = (sample : Sample) → AreInner sample → AreInner (quarter_turned sample)

-- four turns are none
abbrev pub SamplesComeBack : Type 0
SamplesComeBack = (sample : Sample) → quarter_turned (quarter_turned (quarter_turned (quarter_turned sample))) ≡ sample

abbrev pub LabelsComeBack : Type 0
LabelsComeBack = (label : ℕ) → label < 32 → turned_label (turned_label (turned_label (turned_label label))) ≡ label

-- turned labels cost against turned samples what the labels cost against the samples
abbrev pub CostStays : Type 0
CostStays = (starts : ℕ → Bool) (samples : List Sample) (labels : List ℕ) → All (λ label. label < 32) labels
    → cost (v32_code starts).distance (map turned_label labels) (map quarter_turned samples)
    ≡ cost (v32_code starts).distance labels samples

-- turned labels are a sequence exactly where the labels are one
abbrev pub SequencesTurn : Type 0
SequencesTurn = (starts turned_starts : ℕ → Bool) (samples : List Sample) (labels : List ℕ) (end : ℕ)
    → StartsTurn starts turned_starts → end < 8 → All (λ label. label < 32) labels
    → IsSequence (v32_code starts) samples labels end
    ↔ IsSequence (v32_code turned_starts) (map quarter_turned samples) (map turned_label labels) (rotated end)

-- and they are least exactly where the labels are
abbrev pub LeastTurns : Type 0
LeastTurns = (starts turned_starts : ℕ → Bool) (samples : List Sample) (labels : List ℕ)
    → StartsTurn starts turned_starts → All (λ label. label < 32) labels
    → IsLeast (v32_code starts) samples labels ↔ IsLeast (v32_code turned_starts) (map quarter_turned samples) (map turned_label labels)

-- all states turn to all states
abbrev pub AllStatesTurn : Type 0
AllStatesTurn = StartsTurn at_any at_any

-- so with any state as a start
abbrev pub LeastTurnsOfAll : Type 0
LeastTurnsOfAll = (samples : List Sample) (labels : List ℕ) → All (λ label. label < 32) labels
    → IsLeast (v32_code at_any) samples labels ↔ IsLeast (v32_code at_any) (map quarter_turned samples) (map turned_label labels)
