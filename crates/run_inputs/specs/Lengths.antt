-- Which files are short enough, and which one is not. What is said of a file holds where the folder tells its name.
use Rattle.std.specs.Prelude.{◌≡◌, ◌⊎◌, ℕ, ◌+◌, List, [], ◌∷◌}
use Rattle.outside_calls.specs.Folder.{FolderState, TellsOctets}
use Rattle.outside_calls.specs.declared.folder.FolderFault.{FolderFault}
use Rattle.command_base.specs.Inputs.{IsWithin, IsLonger}
use Rattle.command_base.specs.declared.status.Status.{Status}
use Rattle.command_base.specs.declared.status.Status.TheVariants.{TooLong}
use Rattle.command_base.specs.declared.stop.Stop.{Stop}
use Rattle.command_base.specs.declared.stop.Stop.TheVariants.{Own, Read}
use Rattle.command_base.specs.Stops.{ReadFails}

-- each of these files is within the limit
abbrev pub AreWithin : ℕ → FolderState → List (List ℕ) → Type 0
AreWithin limit f [] = Unit {0}
AreWithin limit f (name ∷ names) = IsWithin f name limit × AreWithin limit f names

-- what is told of each of these files are octets
abbrev pub TellOctets : FolderState → List (List ℕ) → Type 0
TellOctets f [] = Unit {0}
TellOctets f (name ∷ names) = TellsOctets f name × TellOctets f names

-- the first of these files that is longer is that of the second word, where the name of the first of them is the first word
abbrev pub IsFirstLong : ℕ → FolderState → ℕ → List (List ℕ) → ℕ → Type 0
IsFirstLong limit f place [] word = ⊥
IsFirstLong limit f place (name ∷ names) word =
    ((word ≡ place) × IsLonger f name limit) ⊎ (IsWithin f name limit × IsFirstLong limit f (place + 1) names word)

-- The answer names the first that is longer.
pub record NamesFirstLong (limit : ℕ) (f : FolderState) (place : ℕ) (names : List (List ℕ)) (answer : Status) : Type 0 where
  pub word : ℕ
  pub answer_is : answer ≡ TooLong word
  pub first : IsFirstLong limit f place names word

-- one of these files was not read, and those before it are within the limit
abbrev pub FailsInOrder : ℕ → FolderState → FolderState → List (List ℕ) → FolderFault → Type 0
FailsInOrder limit old new [] fault = ⊥
FailsInOrder limit old new (name ∷ names) fault =
    ReadFails old new (name ∷ []) fault ⊎ (IsWithin old name limit × FailsInOrder limit old new names fault)

-- why they are not taken: no memory is wanted
abbrev pub RefusesLengths : ℕ → FolderState → FolderState → ℕ → List (List ℕ) → Stop → Type 0
RefusesLengths limit old new place names (Own answer) = NamesFirstLong limit old place names answer
RefusesLengths limit old new place names (Read fault) = FailsInOrder limit old new names fault
RefusesLengths limit old new place names stop = ⊥
