-- A recording among the inputs of a command: its header and what stands behind it, as far as it was read. What is said of its octets
-- holds where the folder tells its name.
use Rattle.std.specs.Prelude.{◌≡◌, ◌⊎◌, ℕ, ◌+◌, ◌≤◌, IsTrue, List, [], ◌∷◌, ◌++◌, length, take}
use Rattle.scramblers.specs.declared.mode.Mode.{Mode}
use Rattle.scramblers.specs.declared.mode.Mode.TheVariants.{Call, Answer}
use Rattle.shared_terms.specs.declared.role.Role.{Role}
use Rattle.shared_terms.specs.declared.role.Role.TheVariants.{Originator, Answerer}
use Rattle.outside_calls.specs.Folder.{FolderState, octets_at, OnlyReads, CountsStand}
use Rattle.recordings.specs.declared.header.TheConstants.{HEADER}
use Rattle.recordings.specs.declared.rate.Rate.{Rate}
use Rattle.recordings.specs.Recording.{header_at}
use Rattle.recordings.specs.Headers.{IsBadHeader}
use Rattle.command_base.specs.declared.limits.TheConstants.{RECORDING_LIMIT}
use Rattle.command_base.specs.declared.status.Status.{Status}
use Rattle.command_base.specs.declared.status.Status.TheVariants.{TooLong, BadRecording}
use Rattle.command_base.specs.declared.stop.Stop.{Stop}
use Rattle.command_base.specs.declared.stop.Stop.TheVariants.{Own, Read}
use Rattle.command_base.specs.Inputs.{IsWithin, IsLonger, ReadTo}
use Rattle.command_base.specs.Stops.{ReadFails}

-- the end that sends in this mode
abbrev pub sender_of : Mode → Role
sender_of Call = Originator
sender_of Answer = Answerer

-- the end that hears what is sent in this mode
abbrev pub hearer_of : Mode → Role
hearer_of Call = Answerer
hearer_of Answer = Originator

-- The recording is within its limit, and is a header of this rate and mode with these octets behind it.
pub record ReadsRecording (old : FolderState) (name : List ℕ) (rate : Rate) (mode : Mode) (content : List ℕ) : Type 0 where
  pub within : IsWithin old name RECORDING_LIMIT
  pub read : IsTrue (old.tells name) → octets_at old name ≡ header_at rate mode ++ content

-- The recording is within its limit, and its first octets are no header at this rate: this place is the first that differs.
pub record HasNoHeader (old : FolderState) (name : List ℕ) (rate : Rate) (at : ℕ) : Type 0 where
  pub within : IsWithin old name RECORDING_LIMIT
  pub bad : IsTrue (old.tells name) → IsBadHeader rate (take HEADER (octets_at old name)) at

-- The recording is within its limit, and begins with the header of this rate and mode. Nothing was written or said, and no fault was
-- counted.
pub record Opened (start now : FolderState) (name : List ℕ) (rate : Rate) (mode : Mode) : Type 0 where
  pub reads : OnlyReads start now
  pub stand : CountsStand start now
  pub within : IsWithin start name RECORDING_LIMIT
  pub header : IsTrue (start.tells name) → header_at rate mode ≡ take HEADER (octets_at start name)

-- why a recording is refused when it is opened: it is too long, or is none at this rate; this word names it
abbrev pub IsRefused : FolderState → List ℕ → Rate → ℕ → Status → Type 0
IsRefused old name rate word answer =
    ((answer ≡ TooLong word) × IsLonger old name RECORDING_LIMIT) ⊎ ((at : ℕ) × (answer ≡ BadRecording at) × HasNoHeader old name rate at)

-- why it is not opened: it is refused, or was not read
abbrev pub IsNotOpened : FolderState → FolderState → List ℕ → Rate → ℕ → Stop → Type 0
IsNotOpened old new name rate word (Own answer) = IsRefused old name rate word answer × CountsStand old new
IsNotOpened old new name rate word (Read fault) = ReadFails old new (name ∷ []) fault
IsNotOpened old new name rate word stop = ⊥

-- The recording is read up to this place: a header of this rate and mode, and these octets behind it.
pub record ReadBehind (start now : FolderState) (name : List ℕ) (rate : Rate) (mode : Mode) (content : List ℕ) (at : ℕ) : Type 0 where
  pub at_is : at ≡ HEADER + length content
  pub read : ReadTo start now name RECORDING_LIMIT at (header_at rate mode ++ content)

-- nothing stands in the recording from this place on
abbrev pub IsAtEnd : FolderState → List ℕ → ℕ → Type 0
IsAtEnd start name at = IsTrue (start.tells name) → length (octets_at start name) ≤ at
