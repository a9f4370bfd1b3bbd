-- For which past a decoder stands: the samples that were pushed and the labels that were taken.
use Rattle.std.specs.Prelude.{◌≡◌, ℕ, ◌+◌, ◌*◌, ◌^◌, ◌<◌, ◌≤◌, Bool, List, [], ◌∷◌, ◌++◌, length, take, reverse, min, All, Option, Some, None}
use Rattle.symbol_map.specs.declared.sample.Sample.{Sample}
use Rattle.exact_decoder.specs.Surviving.Trellises.{trellis_of}
use Rattle.exact_decoder.specs.Surviving.Survivors.{IsReleased, LostIs}
use Rattle.exact_decoder.specs.Columns.{sums_at}
use Rattle.trellis_tables.specs.Sequences.{Leads}
use Rattle.exact_decoder.specs.Kept.{Kept, KeepsSurvivors}
use Rattle.exact_decoder.specs.Memory.{Memory, Sealed, opened}

-- What is seen of a decoder: its sealed memory of the survivors, how many samples were pushed before the line was lost, the labels
-- that are released and not taken, and with which symbol the line was lost.
pub record Decoding : Type 0 where
  pub memory : Memory
  pub count : ℕ
  pub pending : List ℕ
  pub lost : Option ℕ

-- the same of survivors, with the pending labels from the last
abbrev pub decoding_of : Kept → ℕ → List ℕ → Option ℕ → Decoding
decoding_of survivors count labels lost = record { memory = Sealed survivors; count = count; pending = reverse labels; lost = lost }

-- each state that this one leads to in so many steps has a sum of at most as many greatest distances
abbrev pub IsNearAfter : (ℕ → ℕ → Option ℕ) → (ℕ → Option ℕ) → ℕ → ℕ → Type 0
IsNearAfter table sums steps from =
    (path : List ℕ) (to : ℕ) → length path ≡ steps → Leads table from path to → (m : ℕ) × (sums to ≡ Some m) × (m ≤ steps * 2 ^ 33)

-- How far sums are apart after so many samples, at most so many that each state leads to each: each is below as many greatest
-- distances, and for each number of steps up to that there is a state from which all states that it leads to have small sums.
pub record IsSpread (table : ℕ → ℕ → Option ℕ) (states samples : ℕ) (sums : ℕ → Option ℕ) : Type 0 where
  pub small : (s m : ℕ) → sums s ≡ Some m → m ≤ samples * 2 ^ 33
  pub near : (steps : ℕ) → steps ≤ samples → (from : ℕ) × (from < states) × IsNearAfter table sums steps from

-- what holds of it whatever was pushed
pub record IsSound (table : ℕ → ℕ → Option ℕ) (states labels reach depth : ℕ) (d : Decoding) : Type 0 where
  pub low : 1 ≤ depth
  pub high : depth ≤ 128
  pub few : d.count ≤ 2 ^ 56
  pub spread : IsSpread table states (min d.count reach) (sums_at (opened d.memory).sums)
  pub room : d.lost ≡ None → (opened d.memory).unreleased ≤ depth
  pub few_unreleased : (opened d.memory).unreleased ≤ depth + 1
  pub few_pending : length d.pending ≤ depth + 1
  pub pending_below : All (λ label. label < labels) d.pending

-- the samples up to the one that lost the line
abbrev pub heard : Option ℕ → List Sample → List Sample
heard None samples = samples
heard (Some symbol) samples = take (symbol + 1) samples

-- The decoder stands for these samples, with these labels taken: what is taken and what is pending is what these samples
-- release, and the line is lost where the definition says. A lost line releases no more.
pub record DecoderStands (table : ℕ → ℕ → Option ℕ) (points : ℕ → Sample) (starts : ℕ → Bool) (depth : ℕ) (d : Decoding)
    (samples : List Sample) (taken : List ℕ) : Type 0 where
  pub counted : d.count ≡ length (heard d.lost samples)
  pub lost : LostIs (trellis_of table points starts) depth samples d.lost
  pub released : IsReleased (trellis_of table points starts) (heard d.lost samples) (taken ++ d.pending)
  pub keeps : d.lost ≡ None → KeepsSurvivors (trellis_of table points starts) (opened d.memory) samples (taken ++ d.pending)

-- the two labels of a pair, if there is one
abbrev pub two_in : Option (ℕ × ℕ) → List ℕ
two_in None = []
two_in (Some two) = two.0 ∷ two.1 ∷ []
