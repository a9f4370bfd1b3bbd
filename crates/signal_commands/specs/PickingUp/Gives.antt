-- What samples give that are picked up in the middle of a line, and what is said of it.
use Rattle.std.specs.Prelude.{◌≡◌, ℕ, ◌<◌, Bool, List, ◌++◌, length}
use Rattle.scramblers.specs.declared.mode.Mode.{Mode}
use Rattle.scramblers.specs.Mode.{tap_of}
use Rattle.symbol_map.specs.declared.sample.Sample.{Sample}
use Rattle.shared_terms.specs.Prefix.{IsPrefixOf}
use Rattle.exact_decoder.specs.Surviving.Survivors.{IsReleased, IsOver}
use Rattle.exact_decoder.specs.Surviving.V32.{any_trellis, line_depth}
use Rattle.bit_stuffing.specs.Found.{Found, pieces_of}
use Rattle.outside_calls.specs.Folder.{FolderState, Said, PartlySaid}
use Rattle.line_coding.specs.PickedUp.{IsPickedUp}
use Rattle.command_base.specs.Readings.{AreLines}
use Rattle.command_base.specs.Recordings.{sender_of}

-- These samples release labels, and the bits that are picked up of these have these pieces.
pub record GivesPieces (mode : Mode) (samples : List Sample) (pieces : List Found) : Type 0 where
  pub labels : List ℕ
  pub released : IsReleased any_trellis samples labels
  pub bits : List Bool
  pub picked_up : IsPickedUp (tap_of mode) labels bits
  pub pieces_are : pieces ≡ pieces_of bits

-- The first of these samples, so many: the line isn't lost before the last of them.
pub record AreFollowed (samples first : List Sample) : Type 0 where
  pub front : IsPrefixOf first samples
  pub not_lost : (n : ℕ) → n < length first → IsOver any_trellis line_depth samples n → ⊥

-- The lines were said of the pieces that these samples give, in order.
pub record SaysPieces (old new : FolderState) (mode : Mode) (samples : List Sample) : Type 0 where
  pub pieces : List Found
  pub gives : GivesPieces mode samples pieces
  pub lines : List ℕ
  pub are_lines : AreLines (sender_of mode) pieces lines
  pub said : Said old new lines

-- A beginning was said of the lines of the first pieces that these samples give.
pub record SaysPart (old new : FolderState) (mode : Mode) (samples : List Sample) : Type 0 where
  pub told : List Found
  pub rest : List Found
  pub gives : GivesPieces mode samples (told ++ rest)
  pub lines : List ℕ
  pub are_lines : AreLines (sender_of mode) told lines
  pub said : PartlySaid old new lines
