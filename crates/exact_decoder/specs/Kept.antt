-- What is kept of the survivors, and how it changes with a sample and with a release.
use Rattle.std.specs.Prelude.{◌≡◌, ◌⊎◌, ◌≢◌, ℕ, ◌+◌, ◌-◌, ◌%◌, ◌^◌, ◌<◌, ◌≤◌, Bool, List, [], ◌∷◌, ◌++◌, length, map, take, slice_index, Option, Some, option_map}
use Rattle.std.specs.List.{range_with_len}
use Rattle.symbol_map.specs.declared.sample.Sample.{Sample}
use Rattle.symbol_map.specs.Distance.{distance_of}
use Rattle.exact_decoder.specs.Surviving.Trellises.{Trellis, trellis_of}
use Rattle.exact_decoder.specs.Surviving.Steps.{Keeps, Chooses}
use Rattle.exact_decoder.specs.declared.choice.Choice.{Choice}
use Rattle.exact_decoder.specs.Settled.{far_key}
use Rattle.exact_decoder.specs.Columns.{Entry, sum_in, sums_at, tail_at, entry_at, branches_at, new_sums_at}
use Rattle.exact_decoder.specs.Traced.{traced, AreColumns}

-- of each state's survivor the sum and the labels that are not released, and how many these are
pub record Kept : Type 0 where
  pub sums : List (Option ℕ)
  pub tails : List (List ℕ)
  pub unreleased : ℕ

-- what sums and the newest columns stand for
abbrev pub kept_of : ℕ → List ℕ → List (List Choice) → ℕ → Kept
kept_of states sums columns unreleased = record {
  sums = map sum_in sums;
  tails = map (traced (take unreleased columns)) (range_with_len 0 states);
  unreleased = unreleased;
}

-- what holds of sums and columns whatever was pushed
pub record HoldsColumns (states labels depth : ℕ) (sums : List ℕ) (columns : List (List Choice)) (unreleased : ℕ) : Type 0 where
  pub sums_long : length sums ≡ states
  pub states_in : (s : ℕ) → s < states → slice_index sums s % 65536 ≡ s
  pub bound : (s : ℕ) → s < states → slice_index sums s < far_key + 65536
  pub reached : (s : ℕ) × (s < states) × (slice_index sums s < far_key)
  pub columns_long : length columns ≡ depth + 1
  pub columns_fit : AreColumns states labels columns
  pub within : unreleased ≤ depth + 1

-- what holds of sums before the first sample
pub record AreSums (states : ℕ) (sums : List ℕ) : Type 0 where
  pub sums_long : length sums ≡ states
  pub states_in : (s : ℕ) → s < states → slice_index sums s % 65536 ≡ s
  pub bound : (s : ℕ) → s < states → slice_index sums s < far_key + 65536
  pub reached : (s : ℕ) × (s < states) × (slice_index sums s < far_key)

-- released labels, and each state's labels behind them, are the survivors
pub record KeepsSurvivors {X : Type 0} (t : Trellis X) (k : Kept) (samples : List X) (front : List ℕ) : Type 0 where
  pub base : ℕ
  pub keeps : Keeps t samples base (sums_at k.sums) (λ s. front ++ tail_at k.tails s)
  pub long : length front + k.unreleased ≡ length samples

-- the branch and sum of each state are those that the definition chooses, whatever the starts
abbrev pub AllChosen : (ℕ → ℕ → Option ℕ) → (ℕ → Sample) → Sample → List (Option ℕ) → List (Option Entry) → Type 0
AllChosen table points sample sums entries = (starts : ℕ → Bool) (to : ℕ)
    → Chooses (trellis_of table points starts) sample (sums_at sums) to (branches_at entries to) (new_sums_at entries to)

-- each state goes on by the branch that the definition chooses, and all sums are lowered by the least one
pub record Stepped (table : ℕ → ℕ → Option ℕ) (points : ℕ → Sample) (sample : Sample) (old new : Kept) : Type 0 where
  pub entries : List (Option Entry)
  pub chosen : AllChosen table points sample old.sums entries
  pub lowered : ℕ
  pub lowest : (s : ℕ) × (new_sums_at entries s ≡ Some lowered)
  pub least : (s m : ℕ) → new_sums_at entries s ≡ Some m → lowered ≤ m
  pub sums : (s : ℕ) → sums_at new.sums s ≡ option_map (λ n. n - lowered) (new_sums_at entries s)
  pub follow : (s : ℕ) (e : Entry) → entry_at entries s ≡ Some e → tail_at new.tails s ≡ tail_at old.tails e.before ++ e.label ∷ []
  pub longer_by_one : new.unreleased ≡ old.unreleased + 1
  pub close : (s label to : ℕ) → table s label ≡ Some to → distance_of (points label) sample < 2 ^ 33

-- the labels of each state are those of one that was reached
abbrev pub Covered : ℕ → Kept → Type 0
Covered states k = (s : ℕ) → s < states → (r : ℕ) × (m : ℕ) × (r < states) × (sums_at k.sums r ≡ Some m)
    × (tail_at k.tails s ≡ tail_at k.tails r)

-- each state had these labels and then those that it has now
abbrev pub IsMoved : List (Option ℕ) → List (List ℕ) → List ℕ → List (List ℕ) → Type 0
IsMoved sums old labels new = (s sum : ℕ) → sums_at sums s ≡ Some sum → tail_at old s ≡ labels ++ tail_at new s

-- those of two states begin differently
pub record IsApart (sums : List (Option ℕ)) (tails : List (List ℕ)) : Type 0 where
  pub s : ℕ
  pub t : ℕ
  pub s_sum : ℕ
  pub t_sum : ℕ
  pub s_reached : sums_at sums s ≡ Some s_sum
  pub t_reached : sums_at sums t ≡ Some t_sum
  pub x : ℕ
  pub y : ℕ
  pub a : List ℕ
  pub b : List ℕ
  pub s_begins : tail_at tails s ≡ x ∷ a
  pub t_begins : tail_at tails t ≡ y ∷ b
  pub apart : x ≢ y

-- no first label is common to all: a state has none, or two have different ones
abbrev pub IsParted : List (Option ℕ) → List (List ℕ) → Type 0
IsParted sums tails = ((s : ℕ) × (sum : ℕ) × (sums_at sums s ≡ Some sum) × (tail_at tails s ≡ [])) ⊎ IsApart sums tails

-- labels were moved from the heads of all survivors' labels, and no other is common to all
pub record Released (old new : Kept) (labels : List ℕ) : Type 0 where
  pub count : length labels + new.unreleased ≡ old.unreleased
  pub sums_stay : new.sums ≡ old.sums
  pub moved : IsMoved new.sums old.tails labels new.tails
  pub parted : IsParted new.sums new.tails

-- no state that was reached has a smaller sum, and none before it has the same
pub record IsLeastSum (sums : List (Option ℕ)) (state : ℕ) : Type 0 where
  pub sum : ℕ
  pub reached : sums_at sums state ≡ Some sum
  pub least : (s m : ℕ) → sums_at sums s ≡ Some m → sum ≤ m
  pub first : (s : ℕ) → sums_at sums s ≡ Some sum → state ≤ s
