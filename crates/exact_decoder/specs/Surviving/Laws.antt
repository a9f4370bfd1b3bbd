-- Laws of survivors, of what they release and of where a line is lost, each as a fact about a trellis.
use Rattle.std.specs.Prelude.{◌≡◌, ℕ, List, ◌++◌, length, take, Option, Some}
use Rattle.shared_terms.specs.Prefix.{IsPrefixOf}
use Rattle.symbol_map.specs.declared.sample.Sample.{Sample}
use Rattle.exact_decoder.specs.Surviving.Trellises.{Trellis, IsSequence, HasLaws}
use Rattle.exact_decoder.specs.Surviving.Survivors.{IsSurvivor, IsReleased, IsLeast, IsFirstLeast, LostIs}

-- a state has one survivor
abbrev pub SurvivesOnce : Trellis Sample → Type 0
SurvivesOnce t = (samples : List Sample) (a b : List ℕ) (state : ℕ)
    → IsSurvivor t samples a state → IsSurvivor t samples b state → a ≡ b

-- what a survivor begins with is a survivor of the samples at the same places
abbrev pub FrontsSurvive : Trellis Sample → Type 0
FrontsSurvive t = (samples more : List Sample) (labels : List ℕ) (end : ℕ)
    → IsSurvivor t (samples ++ more) labels end → (mid : ℕ) × IsSurvivor t samples (take (length samples) labels) mid

-- each state that a sequence leads to has a survivor, and there is such a state
abbrev pub EachReachedSurvives : Trellis Sample → Type 0
EachReachedSurvives t = (samples : List Sample) (sequence : List ℕ) (end : ℕ)
    → IsSequence t samples sequence end → (survivor : List ℕ) × IsSurvivor t samples survivor end

abbrev pub SomeSurvives : Trellis Sample → Type 0
SomeSurvives t = (samples : List Sample) → (survivor : List ℕ) × (end : ℕ) × IsSurvivor t samples survivor end

-- a list is released
abbrev pub SomeIsReleased : Trellis Sample → Type 0
SomeIsReleased t = (samples : List Sample) → (front : List ℕ) × IsReleased t samples front

-- and one alone
abbrev pub ReleasedOnce : Trellis Sample → Type 0
ReleasedOnce t = (samples : List Sample) (a b : List ℕ) → IsReleased t samples a → IsReleased t samples b → a ≡ b

-- what is released is a prefix of what is released later
abbrev pub ReleasedStays : Trellis Sample → Type 0
ReleasedStays t = (samples more : List Sample) (front later : List ℕ)
    → IsReleased t samples front → IsReleased t (samples ++ more) later → IsPrefixOf front later

-- what is released begins a least sequence
abbrev pub ReleasedIsLeast : Trellis Sample → Type 0
ReleasedIsLeast t = (samples : List Sample) (front : List ℕ)
    → IsReleased t samples front → (rest : List ℕ) × IsLeast t samples (front ++ rest)

-- of the least sequences that survive one has the smallest end state
abbrev pub FirstLeastOnce : Trellis Sample → Type 0
FirstLeastOnce t = (samples : List Sample) (a b : List ℕ) → IsFirstLeast t samples a → IsFirstLeast t samples b → a ≡ b

-- a line is lost with one symbol or not at all, and stays lost with it
abbrev pub LostOnce : Trellis Sample → Type 0
LostOnce t = (depth : ℕ) (samples : List Sample) (a b : Option ℕ)
    → LostIs t depth samples a → LostIs t depth samples b → a ≡ b

abbrev pub LostStays : Trellis Sample → Type 0
LostStays t = (depth : ℕ) (samples more : List Sample) (symbol : ℕ)
    → LostIs t depth samples (Some symbol) → LostIs t depth (samples ++ more) (Some symbol)

-- of a trellis with a code's laws
abbrev pub OfEachCode : (Trellis Sample → Type 0) → Type 0
OfEachCode law = (t : Trellis Sample) (states labels steps : ℕ) → HasLaws t states labels steps → law t
