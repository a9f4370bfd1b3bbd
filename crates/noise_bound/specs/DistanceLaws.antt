-- Laws of the distances of sequences of the eight-state code, and of those of samples.
use Rattle.std.specs.Prelude.{◌≡◌, ◌≢◌, ℕ, ◌+◌, ◌-◌, ◌*◌, ◌/◌, ◌<◌, ◌≤◌, List, length, map}
use Rattle.symbol_map.specs.declared.sample.Sample.{Sample}
use Rattle.symbol_map.specs.Points.{point_of}
use Rattle.trellis_tables.specs.Laws.{far_from}
use Rattle.trellis_tables.specs.Sequences.{Leads, cost}
use Rattle.trellis_tables.specs.Table.{next_state}
use Rattle.noise_bound.specs.Distances.{apart_in_all, AreApartFrom, IsReachedNear}

-- two sequences that meet differ by at least 4
abbrev pub MeetingIsFar : Type 0
MeetingIsFar = (s t end : ℕ) (a b : List ℕ) → s ≢ t → length a ≡ length b → Leads next_state s a end → Leads next_state t b end
    → 4 ≤ apart_in_all a b

-- and by at least 10 if they part from one state before
abbrev pub MeetingAgainIsFar : Type 0
MeetingAgainIsFar = (s end : ℕ) (a b : List ℕ) → a ≢ b → length a ≡ length b → Leads next_state s a end → Leads next_state s b end
    → 10 ≤ apart_in_all a b

-- two that never share a state differ by at least 2 in each three symbols
abbrev pub ApartIsFar : Type 0
ApartIsFar = (s t u v : ℕ) (a b : List ℕ) → length a ≡ length b → Leads next_state s a u → Leads next_state t b v → AreApartFrom 0 s t a b
    → 2 * (length a / 3) ≤ apart_in_all a b

-- and two that share their first state alone by at least 4 in the first symbol besides
abbrev pub PartingIsFar : Type 0
PartingIsFar = (s u v : ℕ) (a b : List ℕ) → 1 ≤ length a → length a ≡ length b → Leads next_state s a u → Leads next_state s b v
    → AreApartFrom 1 s s a b
    → 4 + 2 * ((length a - 1) / 3) ≤ apart_in_all a b

-- each state is reached by a sequence that is at most 18 from another one
abbrev pub EndsAreNear : Type 0
EndsAreNear = (from end to : ℕ) (labels : List ℕ) → 2 ≤ length labels → to < 8 → Leads next_state from labels end
    → IsReachedNear from to labels 18

-- labels cost against the points of others their distance, times the square of 2048
abbrev pub CostIsDistance : Type 0
CostIsDistance = (s t u v : ℕ) (a b : List ℕ) → length a ≡ length b → Leads next_state s a u → Leads next_state t b v
    → cost far_from a (map point_of b) ≡ 2048 * 2048 * apart_in_all a b

-- labels near others are near the samples that these are near
abbrev pub CostOverOthers : Type 0
CostOverOthers = (a b : List ℕ) (samples : List Sample) → length a ≡ length samples → length b ≡ length samples
    → cost far_from a samples ≤ 2 * cost far_from a (map point_of b) + 2 * cost far_from b samples

-- two lists of labels near the same samples are near each other
abbrev pub DistanceOverSamples : Type 0
DistanceOverSamples = (a b : List ℕ) (samples : List Sample) → length a ≡ length samples → length b ≡ length samples
    → cost far_from a (map point_of b) ≤ 2 * cost far_from a samples + 2 * cost far_from b samples
