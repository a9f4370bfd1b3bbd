-- How far a stream of bits was heard, and what was said of it.
use Rattle.std.specs.Prelude.{◌≡◌, ℕ, Bool, List, ◌++◌, length, Result, OnOk, OnErr, IfErr}
use Rattle.outside_calls.specs.Folder.{FolderState, OnlySays, CountsStand, Said, PartlySaid}
use Rattle.outside_calls.specs.declared.folder.FolderFault.{FolderFault}
use Rattle.bit_stuffing.specs.Deframer.{Kept, DeframerStands}
use Rattle.bit_stuffing.specs.Found.{Found, pieces_of}
use Rattle.shared_terms.specs.declared.role.Role.{Role}
use Rattle.command_base.specs.Readings.{IsLine, AreLines}
use Rattle.command_base.specs.Stops.{SayFails}

-- what a listener keeps
pub record Listening : Type 0 where
  pub deframer : Kept
  pub sender : Role
  pub pieces : ℕ

-- the line of a piece was said
pub record SaysPiece (old new : FolderState) (sender : Role) (found : Found) : Type 0 where
  pub line : List ℕ
  pub is_line : IsLine sender found line
  pub said : Said old new line

-- a beginning of it was said
pub record PartlySaysPiece (old new : FolderState) (sender : Role) (found : Found) : Type 0 where
  pub line : List ℕ
  pub is_line : IsLine sender found line
  pub said : PartlySaid old new line

-- The listener heard these bits, and the lines of their pieces were said.
pub record Heard (start now : FolderState) (listener : Listening) (bits : List Bool) : Type 0 where
  pub stands : DeframerStands listener.deframer bits
  pub lines : List ℕ
  pub are_lines : AreLines listener.sender (pieces_of bits) lines
  pub said : Said start now lines
  pub count : listener.pieces ≡ length (pieces_of bits)

-- Of these bits some were heard, and of the lines of their pieces a beginning was said.
pub record PartlyHeard (start now : FolderState) (sender : Role) (bits : List Bool) : Type 0 where
  pub heard : List Bool
  pub rest : List Bool
  pub bits_are : bits ≡ heard ++ rest
  pub lines : List ℕ
  pub are_lines : AreLines sender (pieces_of heard) lines
  pub said : PartlySaid start now lines

-- So it is left by a fault: it stands for the bits that were heard, and has counted their pieces.
pub record LeftAt (start now : FolderState) (listener : Listening) (bits : List Bool) : Type 0 where
  pub part : PartlyHeard start now listener.sender bits
  pub stands : DeframerStands listener.deframer part.heard
  pub count : listener.pieces ≡ length (pieces_of part.heard)

-- What becomes of a listener and of its folder where it hears these bits: they are heard behind all that was heard before, or a fault
-- leaves it at some of them.
pub record Hears (before after : FolderState) (old new : Listening) (bits : List Bool)
    (result : Result (Unit {0}) FolderFault) : Type 0 where
  pub ok : (start : FolderState) (past : List Bool) → Heard start before old past → OnOk result (Heard start after new (past ++ bits))
  pub left : (start : FolderState) (past : List Bool) → Heard start before old past → OnErr result (LeftAt start after new (past ++ bits))
  pub only : OnlySays before after
  pub fails : IfErr result (SayFails before after)
  pub stand : OnOk result (CountsStand before after)
  pub sender : new.sender ≡ old.sender
