-- What the command promises, over the folder before and after it. What is said of a name's octets holds where the folder
-- tells that name.
use Rattle.std.specs.Prelude.{◌≡◌, ℕ, ◌%◌, IsTrue, List, [], ◌∷◌, ◌++◌, length, None}
use Rattle.scramblers.specs.declared.mode.Mode.{Mode}
use Rattle.bit_stuffing.specs.Found.{Found}
use Rattle.outside_calls.specs.Folder.{FolderState, octets_at, Said}
use Rattle.recordings.specs.Recording.{header_of}
use Rattle.recordings.specs.Samples.{samples_in}
use Rattle.exact_decoder.specs.Surviving.Survivors.{IsLeast, LostIs}
use Rattle.exact_decoder.specs.Surviving.V32.{any_trellis, line_depth}
use Rattle.command_base.specs.declared.status.Status.{Status}
use Rattle.command_base.specs.declared.status.Status.TheVariants.{Done}
use Rattle.command_base.specs.Job.{Shared}
use Rattle.command_base.specs.Lines.{pieces_line}
use Rattle.command_base.specs.Readings.{AreLines}
use Rattle.command_base.specs.Recordings.{sender_of}
use Rattle.signal_commands.specs.PickingUp.Gives.{GivesPieces}

-- The recording is whole samples behind a header, and is not lost. A line was said for each piece that it gives, in order, and then
-- their number. The labels whose bits have the pieces begin a code sequence, from any state, that is no farther from the samples than
-- any other.
pub record ListsAll (old new : FolderState) (rec : List ℕ) : Type 0 where
  pub mode : Mode
  pub content : List ℕ
  pub recording_is : IsTrue (old.tells rec) → octets_at old rec ≡ header_of mode ++ content
  pub whole : length content % 4 ≡ 0
  pub not_lost : LostIs any_trellis line_depth (samples_in content) None
  pub pieces : List Found
  pub gives : GivesPieces mode (samples_in content) pieces
  pub nearest : (rest : List ℕ) × IsLeast any_trellis (samples_in content) (gives.labels ++ rest)
  pub lines : List ℕ
  pub are_lines : AreLines (sender_of mode) pieces lines
  pub said : Said old new (lines ++ pieces_line (length pieces))

-- The pieces are listed, and no file changes.
pub record Headline (old new : FolderState) (rec : List ℕ) (s : Status) : Type 0 where
  pub shared : Shared (rec ∷ []) [] old new s
  pub lists : s ≡ Done → ListsAll old new rec
