-- Slots that leave those who hear them the time to decode their frames.
use Rattle.std.specs.Prelude.{ℕ, ◌+◌, ◌*◌, ◌≤◌, length, List, [], ◌∷◌, Some, None}
use Rattle.bit_stuffing.specs.declared.slot_writer.TheConstants.{TAIL}
use Rattle.bit_stuffing.specs.Slots as slots
use Rattle.bit_stuffing.specs.Slots.{opening, next_phase}
use Rattle.detection.specs.Slots.{Signal, slot_of}
use Rattle.detection.specs.Slots.Signal.{PatternSlot, MarkSlot, FlagSlot}
use Rattle.frame_check.specs.Octets.{AreOctets}

-- What fits a slot of this size, behind so many bits of an unfinished flag: a frame that a deframer takes, behind whose closing flag
-- the bits of TAIL symbols are left.
abbrev pub Fits : ℕ → ℕ → Signal → Type 0
Fits size phase (PatternSlot seen) = Unit {0}
Fits size phase MarkSlot = Unit {0}
Fits size phase (FlagSlot None) = Unit {0}
Fits size phase (FlagSlot (Some octets)) = slots.IsFrame octets × (length (opening phase (Some octets)) + 4 * TAIL ≤ size)

-- slots that do, one after another
abbrev pub AreFit : ℕ → ℕ → List Signal → Type 0
AreFit size phase [] = Unit {0}
AreFit size phase (signal ∷ signals) = Fits size phase signal × AreFit size (next_phase size phase (slot_of size signal)) signals

-- what a slot carries are octets, as the types of the code say
abbrev pub OfOctets : Signal → Type 0
OfOctets (PatternSlot seen) = Unit {0}
OfOctets MarkSlot = Unit {0}
OfOctets (FlagSlot None) = Unit {0}
OfOctets (FlagSlot (Some octets)) = AreOctets octets
