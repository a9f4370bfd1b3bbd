-- Inputs and their limits. What is said of an input's octets holds where the folder tells its name.
use Rattle.std.specs.Prelude.{◌≡◌, ℕ, ◌<◌, ◌≤◌, IsTrue, List, [], ◌∷◌, length, take}
use Rattle.outside_calls.specs.Folder.{FolderState, octets_at, GoesOn, KeepsName, FaultsStand, CountsStand}
use Rattle.command_base.specs.declared.status.Status.TheVariants.{TooLong}
use Rattle.command_base.specs.declared.stop.Stop.{Stop}
use Rattle.command_base.specs.declared.stop.Stop.TheVariants.{Own, Read, NoMemory}
use Rattle.command_base.specs.Stops.{ReadFails}

-- a file has at most so many octets
abbrev pub IsWithin : FolderState → List ℕ → ℕ → Type 0
IsWithin f name limit = IsTrue (f.tells name) → length (octets_at f name) ≤ limit

-- a file has more octets
abbrev pub IsLonger : FolderState → List ℕ → ℕ → Type 0
IsLonger f name limit = IsTrue (f.tells name) → limit < length (octets_at f name)

-- why an input is not taken for its length: it is longer, or no octet was read at its limit
abbrev pub IsNotWithin : FolderState → FolderState → List ℕ → ℕ → ℕ → Stop → Type 0
IsNotWithin old new name limit word (Own answer) = (answer ≡ TooLong word) × IsLonger old name limit × CountsStand old new
IsNotWithin old new name limit word (Read fault) = ReadFails old new (name ∷ []) fault
IsNotWithin old new name limit word stop = ⊥

-- why the octets of a file are not held in memory: it was not read, or memory was short and no fault was counted
abbrev pub FailsToHold : FolderState → FolderState → List ℕ → Stop → Type 0
FailsToHold old new name (Read fault) = ReadFails old new (name ∷ []) fault
FailsToHold old new name NoMemory = FaultsStand old new
FailsToHold old new name stop = ⊥

-- A file within its limit was read from its start up to this place, and these are its octets. It is as it was.
pub record ReadTo (start now : FolderState) (name : List ℕ) (limit at : ℕ) (octets : List ℕ) : Type 0 where
  pub within : IsWithin start name limit
  pub count : at ≡ length octets
  pub front : IsTrue (start.tells name) → octets ≡ take at (octets_at start name)
  pub goes_on : GoesOn start now
  pub kept : KeepsName start now name
