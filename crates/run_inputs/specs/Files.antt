-- What is promised of a received file. What is said of a name's octets holds where the folder tells that name.
use Rattle.std.specs.Prelude.{◌≡◌, ◌⊎◌, ℕ, IsTrue, List, Some}
use Rattle.shared_terms.specs.Prefix.{IsPrefixOf}
use Rattle.outside_calls.specs.Folder.{FolderState, held_at, octets_at, KeepsName}

-- a received file is as it was, or holds the beginning of the other end's file
abbrev pub KeptOrPrefix : FolderState → FolderState → List ℕ → List ℕ → Type 0
KeptOrPrefix old new got sent =
    KeepsName old new got
    ⊎ (IsTrue (old.tells sent) → IsTrue (old.tells got)
    → (front : List ℕ) × (held_at new got ≡ Some front) × IsPrefixOf front (octets_at old sent))

-- a received file holds the whole of the other end's file
abbrev pub HoldsWhole : FolderState → FolderState → List ℕ → List ℕ → Type 0
HoldsWhole old new got sent = IsTrue (old.tells sent) → IsTrue (old.tells got) → held_at new got ≡ Some (octets_at old sent)
