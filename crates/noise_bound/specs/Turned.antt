-- What is released of a recording and of the same after a quarter turn, and how the two may differ.
use Rattle.std.specs.Prelude.{◌≡◌, ℕ, ◌+◌, ◌⊎◌, Bool, List, map, take}
use Rattle.shared_terms.specs.Prefix.{IsPrefixOf}
use Rattle.symbol_map.specs.declared.sample.Sample.{Sample}
use Rattle.symbol_map.specs.Distance.{quarter_turned}
use Rattle.exact_decoder.specs.Surviving.Survivors.{IsReleased}
use Rattle.exact_decoder.specs.Surviving.V32.{v32_code}

-- what the first samples of each release, from its own starts
pub record BothRelease (starts turned_starts : ℕ → Bool) (samples : List Sample) (front turned_front : List ℕ) : Type 0 where
  pub count : ℕ
  pub released : IsReleased (v32_code starts) (take count samples) front
  pub turned_count : ℕ
  pub turned_released : IsReleased (v32_code turned_starts) (take turned_count (map quarter_turned samples)) turned_front

-- the places of the bits that the first two bits of a line go into
abbrev pub IsOfFirstTwo : ℕ → ℕ → Type 0
IsOfFirstTwo tap i = (i ≡ 0) ⊎ (i ≡ 1) ⊎ (i ≡ tap) ⊎ (i ≡ tap + 1) ⊎ (i ≡ 23) ⊎ (i ≡ 24)

-- one of the lists begins the other
abbrev pub OneBegins : {X : Type 0} → List X → List X → Type 0
OneBegins a b = IsPrefixOf a b ⊎ IsPrefixOf b a
