-- The slot of bits in which what an end sends goes over the line.
use Rattle.std.specs.Prelude.{ℕ, ◌-◌, ◌*◌, ◌≤◌, length, Some, None}
use Rattle.frame_check.specs.declared.check.Check.{Check}
use Rattle.shared_terms.specs.declared.role.Role.{Role}
use Rattle.lapm_frames.specs.declared.frame.Frame.{Frame}
use Rattle.lapm_frames.specs.Checked.{checked}
use Rattle.bit_stuffing.specs.declared.slot_writer.TheConstants.{TAIL}
use Rattle.bit_stuffing.specs.Slots.{opening}
use Rattle.lapm_frames.specs.declared.seen.Seen.TheVariants as seen
use Rattle.detection.specs.Slots.{Signal}
use Rattle.detection.specs.Slots.Signal.{PatternSlot, MarkSlot, FlagSlot}
use Rattle.lapm_frames.specs.Sendable.{IsSendable}
use Rattle.lapm_frames.specs.declared.sent.Sent.{Sent}
use Rattle.lapm_frames.specs.declared.sent.Sent.TheVariants as sent

-- what an end's slot carries
abbrev pub signal_of : Check → Role → ℕ → Sent → Signal
signal_of check sender dlci sent.Mark = MarkSlot
signal_of check sender dlci sent.Odp = PatternSlot seen.Odp
signal_of check sender dlci sent.Adp = PatternSlot seen.Adp
signal_of check sender dlci sent.Flags = FlagSlot None
signal_of check sender dlci (sent.Frame frame) = FlagSlot (Some (checked check sender dlci frame))

-- A frame that can be sent, and whose octets fit a slot of so many symbols, behind so many bits of an unfinished flag.
pub record FrameFits (check : Check) (sender : Role) (dlci symbols phase : ℕ) (frame : Frame) : Type 0 where
  pub sendable : IsSendable (sent.Frame frame)
  pub room : length (opening phase (Some (checked check sender dlci frame))) ≤ 4 * (symbols - TAIL)

-- What fits a slot of so many symbols, behind so many bits of an unfinished flag.
abbrev pub IsCodable : Check → Role → ℕ → ℕ → ℕ → Sent → Type 0
IsCodable check sender dlci symbols phase sent.Mark = Unit {0}
IsCodable check sender dlci symbols phase sent.Odp = Unit {0}
IsCodable check sender dlci symbols phase sent.Adp = Unit {0}
IsCodable check sender dlci symbols phase sent.Flags = Unit {0}
IsCodable check sender dlci symbols phase (sent.Frame frame) = FrameFits check sender dlci symbols phase frame
