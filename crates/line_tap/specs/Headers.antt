-- Where the first octets of a recording are not the header of its mode.
use Rattle.std.specs.Prelude.{◌≡◌, ◌⊎◌, ℕ, ◌<◌, ◌≤◌, nat_eq, Bool, true, false, IsTrue, List, length, take, slice_index}
use Rattle.scramblers.specs.declared.mode.Mode.{Mode}
use Rattle.outside_calls.specs.Folder.{FolderState, octets_at}
use Rattle.recordings.specs.declared.header.TheConstants.{HEADER}
use Rattle.recordings.specs.Recording.{header_of}
use Rattle.command_base.specs.declared.status.Status.{Status}
use Rattle.command_base.specs.declared.status.Status.TheVariants.{BadRecording}
use Rattle.command_base.specs.declared.stop.Stop.{Stop}
use Rattle.command_base.specs.declared.stop.Stop.TheVariants.{Own, Read}

-- whether the header of this mode has this octet at this place
abbrev pub fits : Mode → ℕ → ℕ → Bool
fits mode place octet = nat_eq octet (slice_index (header_of mode) place)

-- The first octets of a file, up to eight, are not the header of this mode: those before this place are its, and at it there is none, or another.
pub record IsNotHeader (mode : Mode) (octets : List ℕ) (at : ℕ) : Type 0 where
  pub within : at < HEADER
  pub front : at ≤ length octets
  pub before : (place : ℕ) → place < at → fits mode place (slice_index octets place) ≡ true
  pub here : (at ≡ length octets) ⊎ ((at < length octets) × (fits mode at (slice_index octets at) ≡ false))

-- a recording begins with the header of this mode
abbrev pub HasHeader : FolderState → List ℕ → Mode → Type 0
HasHeader f name mode = IsTrue (f.tells name) → take HEADER (octets_at f name) ≡ header_of mode

-- what is answered of a recording whose header isn't that of this mode
abbrev pub HasNoHeader : FolderState → List ℕ → Mode → Status → Type 0
HasNoHeader f name mode (BadRecording at) = IsTrue (f.tells name) → IsNotHeader mode (take HEADER (octets_at f name)) at
HasNoHeader f name mode answer = ⊥

-- why no header is read
abbrev pub NoHeader : FolderState → List ℕ → Mode → Stop → Type 0
NoHeader f name mode (Own answer) = HasNoHeader f name mode answer
NoHeader f name mode (Read fault) = Unit {0}
NoHeader f name mode stop = ⊥
