-- What a command leaves of its outputs. What is said of a name holds where the folder tells it; a name that holds no octets
-- is held.
use Rattle.std.specs.Prelude.{◌≡◌, ◌≢◌, ◌⊎◌, ℕ, ◌++◌, IsTrue, List, [], ◌∷◌, Some, Result, IsErrOf}
use Rattle.shared_terms.specs.Prefix.{IsPrefixOf}
use Rattle.outside_calls.specs.Folder.{FolderState, held_at, GoesOn, KeepsName, Adds, PartlyAppended, Rose}
use Rattle.outside_calls.specs.declared.folder.FolderFault.{FolderFault}
use Rattle.outside_calls.specs.declared.folder.FolderFault.TheVariants.{Failed, NoMemory}

-- a name holds these octets
abbrev pub Holds : FolderState → List ℕ → List ℕ → Type 0
Holds f name octets = IsTrue (f.tells name) → held_at f name ≡ Some octets

-- a name holds these octets, and behind them a part of the next piece
abbrev pub HoldsPart : FolderState → List ℕ → List ℕ → List ℕ → Type 0
HoldsPart f name octets piece = IsTrue (f.tells name) → (part : List ℕ) × IsPrefixOf part piece × (held_at f name ≡ Some (octets ++ part))

-- a name holds the beginning of these octets
abbrev pub HoldsFront : FolderState → List ℕ → List ℕ → Type 0
HoldsFront f name octets = IsTrue (f.tells name) → (front : List ℕ) × IsPrefixOf front octets × (held_at f name ≡ Some front)

-- an output that was to be created is as it was, or holds no octets
abbrev pub KeptOrEmpty : FolderState → FolderState → List ℕ → Type 0
KeptOrEmpty old new name = KeepsName old new name ⊎ Holds new name []

-- no name has changed
abbrev pub KeepsAll : FolderState → FolderState → Type 0
KeepsAll old new = (name : List ℕ) → KeepsName old new name

-- no line was said
abbrev pub SaysNothing : FolderState → FolderState → Type 0
SaysNothing old new = new.said ≡ old.said

-- Of all names this one alone was touched, and nothing was said.
pub record OnlyOutput (old new : FolderState) (output : List ℕ) : Type 0 where
  pub goes_on : GoesOn old new
  pub names : (other : List ℕ) → other ≢ output → KeepsName old new other
  pub said : new.said ≡ old.said

-- ---- several outputs, in the order of the words

-- the name is none of these
abbrev pub IsNoneOf : List ℕ → List (List ℕ) → Type 0
IsNoneOf other [] = Unit {0}
IsNoneOf other (name ∷ names) = (other ≢ name) × IsNoneOf other names

-- no two of these are one name
abbrev pub AreApart : List (List ℕ) → Type 0
AreApart [] = Unit {0}
AreApart (name ∷ names) = IsNoneOf name names × AreApart names

-- Of all names these alone were touched. Lines may have been said.
pub record OnlyOutputs (old new : FolderState) (outputs : List (List ℕ)) : Type 0 where
  pub goes_on : GoesOn old new
  pub names : (other : List ℕ) → IsNoneOf other outputs → KeepsName old new other

-- each of these is as it was
abbrev pub KeepsEach : FolderState → FolderState → List (List ℕ) → Type 0
KeepsEach old new [] = Unit {0}
KeepsEach old new (name ∷ names) = KeepsName old new name × KeepsEach old new names

-- the outputs are created
abbrev pub Creates : FolderState → List (List ℕ) → Type 0
Creates new [] = Unit {0}
Creates new (name ∷ names) = Holds new name [] × Creates new names

-- an output is not created: those before it are, and those behind it are as they were
abbrev pub CreatesPart : FolderState → FolderState → List (List ℕ) → Type 0
CreatesPart old new [] = ⊥
CreatesPart old new (name ∷ names) = (KeptOrEmpty old new name × KeepsEach old new names) ⊎ (Holds new name [] × CreatesPart old new names)

-- none of these is one of those
abbrev pub AreNoneOf : List (List ℕ) → List (List ℕ) → Type 0
AreNoneOf [] others = Unit {0}
AreNoneOf (name ∷ names) others = IsNoneOf name others × AreNoneOf names others

-- no two outputs are one name, and none is an input
abbrev pub AreApartFrom : List (List ℕ) → List (List ℕ) → Type 0
AreApartFrom inputs outputs = AreApart outputs × AreNoneOf outputs inputs

-- Of all names these alone were touched, and nothing was said.
pub record OnlyPuts (old new : FolderState) (outputs : List (List ℕ)) : Type 0 where
  pub goes_on : GoesOn old new
  pub names : (other : List ℕ) → IsNoneOf other outputs → KeepsName old new other
  pub said : new.said ≡ old.said

-- of one of these names the count rose, or stands at its last value
abbrev pub SomeRose : (List ℕ → ℕ) → (List ℕ → ℕ) → List (List ℕ) → Type 0
SomeRose before now [] = ⊥
SomeRose before now (name ∷ names) = Rose (before name) (now name) ⊎ SomeRose before now names

-- a fault has its cause: of one of these names the count rose, or that of the memory refusals did
pub record SomeCause {T : Type 0} (before now : List ℕ → ℕ) (names : List (List ℕ)) (refusals_before refusals_now : ℕ)
    (result : Result T FolderFault) : Type 0 where
  pub failed : IsErrOf result Failed → SomeRose before now names
  pub memory : IsErrOf result NoMemory → Rose refusals_before refusals_now

-- each piece stands behind what its output held, and the outputs behind these are as they were
abbrev pub AddEach : FolderState → FolderState → List (List ℕ) → List (List ℕ) → Type 0
AddEach old new names [] = KeepsEach old new names
AddEach old new [] (piece ∷ pieces) = ⊥
AddEach old new (name ∷ names) (piece ∷ pieces) = Adds old new name piece × AddEach old new names pieces

-- the folder took no more: the pieces before one were put whole, a part of that one, and the outputs behind it are as they were
abbrev pub AddPart : FolderState → FolderState → List (List ℕ) → List (List ℕ) → Type 0
AddPart old new names [] = ⊥
AddPart old new [] (piece ∷ pieces) = ⊥
AddPart old new (name ∷ names) (piece ∷ pieces) =
    (PartlyAppended old new name piece × KeepsEach old new names) ⊎ (Adds old new name piece × AddPart old new names pieces)

-- each output holds these octets
abbrev pub HoldEach : FolderState → List (List ℕ) → List (List ℕ) → Type 0
HoldEach f [] [] = Unit {0}
HoldEach f (name ∷ names) (octets ∷ held) = Holds f name octets × HoldEach f names held
HoldEach f names held = ⊥

-- each holds these, and behind them the pieces before one, a part of that one, and nothing more
abbrev pub HoldPart : FolderState → List (List ℕ) → List (List ℕ) → List (List ℕ) → Type 0
HoldPart f (name ∷ names) (octets ∷ held) (piece ∷ pieces) =
    (HoldsPart f name octets piece × HoldEach f names held) ⊎ (Holds f name (octets ++ piece) × HoldPart f names held pieces)
HoldPart f names held pieces = ⊥

-- what outputs hold, and behind that these pieces
abbrev pub joined : List (List ℕ) → List (List ℕ) → List (List ℕ)
joined held [] = held
joined [] (piece ∷ pieces) = []
joined (octets ∷ held) (piece ∷ pieces) = (octets ++ piece) ∷ joined held pieces
