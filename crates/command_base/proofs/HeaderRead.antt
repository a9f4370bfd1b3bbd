-- What is read of a recording to open it.
use Rattle.command_base.proofs.Names.{◌≡◌, ℕ, ◌+◌, ◌≤◌, ◌<◌, List, [], ◌∷◌, IsTrue, take, arith, ReadTo, StopCounts, Stop, FolderState}
use Rattle.command_base.proofs.Names.{octets_at, Rate}
use Rattle.command_base.specs.declared.limits.TheConstants.{RECORDING_LIMIT}
use Rattle.command_base.specs.Inputs.{IsNotWithin}
use Rattle.command_base.specs.Recordings.{IsNotOpened}

-- the octets that a header is read from
pub header-octets : (start new : FolderState) (name : List ℕ) (count : ℕ) (piece : List ℕ) → count ≤ 8
    → ReadTo start new name RECORDING_LIMIT (0 + count) piece →
    (count < 8 → IsTrue (start.tells name) → piece ≡ octets_at start name) → IsTrue (start.tells name)
    → piece ≡ take 8 (octets_at start name)
header-octets start new name count piece few r all told = grind (arith)

-- the recording is too long, or no octet was read at its limit
pub not-within : (old new : FolderState) (name : List ℕ) (rate : Rate) (word : ℕ) (stop : Stop)
    → IsNotWithin old new name RECORDING_LIMIT word stop → IsNotOpened old new name rate word stop
not-within old new name rate word stop long = grind (arith)

-- what was counted then
pub within-counts : (old new : FolderState) (name : List ℕ) (limit word : ℕ) (stop : Stop) (outputs : List (List ℕ))
    → IsNotWithin old new name limit word stop → StopCounts old new (name ∷ []) outputs stop
within-counts old new name limit word stop outputs long = grind (arith)
