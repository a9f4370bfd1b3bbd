-- Slots that carry patterns, ones or flags.
use Rattle.std.specs.Prelude.{ℕ, zero, suc, ◌+◌, ◌-◌, ◌*◌, ◌/◌, ◌≤◌, Bool, List, [], ◌++◌, length, map, Option, Some, None}
use Rattle.lapm_frames.specs.declared.seen.Seen.{Seen}
use Rattle.detection.specs.Patterns.{first, second, ones}
use Rattle.bit_stuffing.specs.Slots.{Slot, IsFrame, sent_bits}
use Rattle.bit_stuffing.specs.Slots.Slot.{Plain, Flags}

-- a pattern as it is sent: a stop bit and eight more ones stand behind each character
abbrev pub pattern : Seen → List Bool
pattern seen = first seen ++ ones 9 ++ second seen ++ ones 9

-- so many patterns
abbrev pub patterns : ℕ → Seen → List Bool
patterns zero seen = []
patterns (suc count) seen = pattern seen ++ patterns count seen

-- a pattern slot of this size: ten patterns, and ones to its end
abbrev pub pattern_bits : ℕ → Seen → List Bool
pattern_bits size seen = patterns 10 seen ++ ones (size - 360)

-- What a slot carries: a pattern, ones, or flags with or without a frame (its octets, with the check).
pub data Signal : Type 0 where
  PatternSlot : Seen → Signal
  MarkSlot : Signal
  FlagSlot : Option (List ℕ) → Signal

-- the slot of this size
abbrev pub slot_of : ℕ → Signal → Slot
slot_of size (PatternSlot seen) = Plain (pattern_bits size seen)
slot_of size MarkSlot = Plain (ones size)
slot_of size (FlagSlot frame) = Flags frame

abbrev pub slots_of : ℕ → List Signal → List Slot
slots_of size signals = map (slot_of size) signals

-- What a slot can carry, whatever flags came before: a frame that a deframer takes, and for which there is room. Stuffing makes a content
-- longer by no more than a fifth; 47 bits are the rest of an unfinished flag, seven at most, four flags and the closing one.
abbrev pub CanCarry : ℕ → Signal → Type 0
CanCarry size (PatternSlot seen) = Unit {0}
CanCarry size MarkSlot = Unit {0}
CanCarry size (FlagSlot None) = Unit {0}
CanCarry size (FlagSlot (Some octets)) = IsFrame octets × (47 + 8 * length octets + 8 * length octets / 5 ≤ size)

-- the bits of all slots in order, the flag phase running on
abbrev pub signal_bits : ℕ → List Signal → List Bool
signal_bits size signals = sent_bits size (slots_of size signals)
