-- What the command promises, over the folder before and after it. What is said of a name's octets holds where the folder
-- tells that name.
use Rattle.std.specs.Prelude.{◌≡◌, ℕ, IsTrue, List, [], ◌∷◌, ◌++◌, length}
use Rattle.outside_calls.specs.Folder.{FolderState, octets_at, Said}
use Rattle.frame_check.specs.Bits.{bits_of}
use Rattle.bit_stuffing.specs.Found.{pieces_of}
use Rattle.command_base.specs.declared.status.Status.{Status}
use Rattle.command_base.specs.declared.status.Status.TheVariants.{Done}
use Rattle.command_base.specs.Job.{Shared}
use Rattle.command_base.specs.Lines.{pieces_line}
use Rattle.frame_commands.specs.Listing.Words.{FramesNames}
use Rattle.command_base.specs.Readings.{AreLines}

-- A line was said for each piece of the file's bits, in order, and then their number.
pub record ListsAll (old new : FolderState) (n : FramesNames) : Type 0 where
  pub octets : List ℕ
  pub read : IsTrue (old.tells n.bits) → octets ≡ octets_at old n.bits
  pub lines : List ℕ
  pub are_lines : AreLines n.sender (pieces_of (bits_of octets)) lines
  pub said : Said old new (lines ++ pieces_line (length (pieces_of (bits_of octets))))

-- The pieces are listed, and no file changes.
pub record Headline (old new : FolderState) (n : FramesNames) (s : Status) : Type 0 where
  pub shared : Shared (n.bits ∷ []) [] old new s
  pub lists : s ≡ Done → ListsAll old new n
