-- The bits that a reader of frames has heard, and where it stops.
use Rattle.std.specs.Prelude.{◌≡◌, ℕ, ◌+◌, ◌<◌, ◌≤◌, ◌^◌, Bool, List, ◌++◌, Some, None, length}
use Rattle.shared_terms.specs.declared.role.Role.{Role}
use Rattle.frame_check.specs.declared.check.Check.{Check}
use Rattle.bit_stuffing.specs.Deframer.{DeframerStands}
use Rattle.bit_stuffing.specs.Found.{answer_of}
use Rattle.gateway.specs.declared.deframer.FrameReader.{FrameReader}
use Rattle.gateway.specs.declared.deframer.FrameStop.{FrameStop}
use Rattle.gateway.specs.declared.deframer.FrameStop.TheVariants as stops
use Rattle.gateway.specs.Given.{heard}

-- A reader of what this end sends, where I frames and S frames have this check, has heard these bits.
pub record HasHeard (sender : Role) (check : Check) (reader : FrameReader) (past : List Bool) : Type 0 where
  pub stands : DeframerStands reader.deframer past
  pub sender_is : reader.sender ≡ sender
  pub check_is : reader.check ≡ check
  pub count_is : reader.heard ≡ length past

-- behind the past no piece ends with any of the first so many bits
abbrev pub NoneEnds : List Bool → List ℕ → ℕ → Type 0
NoneEnds past bits count = (n : ℕ) → 0 < n → n ≤ count → answer_of (past ++ heard n bits) ≡ None

-- Where a push of these bits stops that has read so many: at the first with which a piece ends, at their end, or at once, where with them
-- 2^64 bits would have come.
abbrev pub StopsAt : List Bool → List ℕ → ℕ → FrameStop → Type 0
StopsAt past bits read stops.Nothing = (read ≡ length bits) × (length past + length bits < 2 ^ 64) × NoneEnds past bits read
StopsAt past bits read (stops.Piece piece) = (length past + length bits < 2 ^ 64)
    × ((before : ℕ) × (read ≡ before + 1) × NoneEnds past bits before × (answer_of (past ++ heard read bits) ≡ Some piece))
StopsAt past bits read stops.Late = (read ≡ 0) × (2 ^ 64 ≤ length past + length bits)
