-- The bits of slots. Each slot has a fixed number of bits, and the flags between frames run on from one to the next.
use Rattle.std.specs.Prelude.{◌≡◌, ℕ, zero, suc, ◌-◌, ◌/◌, ◌%◌, ◌≤◌, Bool, true, false, not, ◌&&◌, List, [], ◌∷◌, ◌++◌, length, take, drop, Option, Some, None}
use Rattle.std.specs.Bool.{beq}
use Rattle.std.specs.List.{starts_with}
use Rattle.frame_check.specs.declared.sizes.TheConstants.{WHOLE}
use Rattle.frame_check.specs.Bits.{bits_of}
use Rattle.bit_stuffing.specs.declared.piece.TheConstants.{SHORTEST}
use Rattle.bit_stuffing.specs.Flags.{flag, FlagEndsAt, SevenOnesEndAt}
use Rattle.bit_stuffing.specs.Stuffing.{stuffed}
use Rattle.frame_check.specs.Octets.{AreOctets}

-- What a slot carries: bits that are given, which begin at once, or flags with or without a frame (its octets, with the check).
pub data Slot : Type 0 where
  Plain : List Bool → Slot
  Flags : Option (List ℕ) → Slot

-- so many flags
abbrev pub flags : ℕ → List Bool
flags zero = []
flags (suc n) = flag ++ flags n

-- so many bits of flags, the last of which may be cut
abbrev pub fill : ℕ → List Bool
fill bits = flags (bits / 8) ++ take (bits % 8) flag

-- the rest of an unfinished flag, of which so many bits were sent
abbrev pub rest_of_flag : ℕ → List Bool
rest_of_flag zero = []
rest_of_flag (suc phase) = drop (suc phase) flag

-- a frame between its flags: its stuffing and the closing flag
abbrev pub framed : Option (List ℕ) → List Bool
framed None = []
framed (Some octets) = stuffed 5 (bits_of octets) ++ flag

-- a flag slot up to and with its frame's closing flag
abbrev pub opening : ℕ → Option (List ℕ) → List Bool
opening phase frame = rest_of_flag phase ++ flags 4 ++ framed frame

-- the bits of a slot of this size, where so many bits of an unfinished flag were sent before
abbrev pub slot_bits : ℕ → ℕ → Slot → List Bool
slot_bits size phase (Plain bits) = bits
slot_bits size phase (Flags frame) = opening phase frame ++ fill (size - length (opening phase frame))

-- How many bits of an unfinished flag were sent behind the slot. Behind given bits flags begin anew.
abbrev pub next_phase : ℕ → ℕ → Slot → ℕ
next_phase size phase (Plain bits) = 0
next_phase size phase (Flags frame) = (size - length (opening phase frame)) % 8

-- the bits of slots, from this flag phase on
abbrev pub bits_from : ℕ → ℕ → List Slot → List Bool
bits_from size phase [] = []
bits_from size phase (slot ∷ slots) = slot_bits size phase slot ++ bits_from size (next_phase size phase slot) slots

-- the flag phase behind slots, from this one on
abbrev pub phase_from : ℕ → ℕ → List Slot → ℕ
phase_from size phase [] = phase
phase_from size phase (slot ∷ slots) = phase_from size (next_phase size phase slot) slots

-- the bits of all slots in order, the flag phase running on
abbrev pub sent_bits : ℕ → List Slot → List Bool
sent_bits size slots = bits_from size 0 slots

-- the flag phase behind all these slots
abbrev pub phase_after : ℕ → List Slot → ℕ
phase_after size slots = phase_from size 0 slots

-- A frame that a deframer takes: its octets, with the check.
pub record IsFrame (octets : List ℕ) : Type 0 where
  pub small : AreOctets octets
  pub low : SHORTEST ≤ length octets
  pub high : length octets ≤ WHOLE

-- Given bits of a slot: no flag stands in them, and the last seven are ones.
pub record IsPlain (size : ℕ) (bits : List Bool) : Type 0 where
  pub full : length bits ≡ size
  pub no_flag : (n : ℕ) → FlagEndsAt bits n → ⊥
  pub ones : SevenOnesEndAt bits (length bits)

-- whether no flag stands in the bits
abbrev pub are_flagless : List Bool → Bool
are_flagless [] = true
are_flagless (bit ∷ bits) = not (starts_with beq (bit ∷ bits) flag) && are_flagless bits

-- a slot that fits this size, where so many bits of an unfinished flag were sent before
abbrev pub IsSlot : ℕ → ℕ → Slot → Type 0
IsSlot size phase (Plain bits) = IsPlain size bits
IsSlot size phase (Flags None) = length (opening phase None) ≤ size
IsSlot size phase (Flags (Some octets)) = IsFrame octets × (length (opening phase (Some octets)) ≤ size)

-- slots that do, one after another
abbrev pub AreSlots : ℕ → ℕ → List Slot → Type 0
AreSlots size phase [] = Unit {0}
AreSlots size phase (slot ∷ slots) = IsSlot size phase slot × AreSlots size (next_phase size phase slot) slots

-- whether the last of the slots, if there is one, is of flags
abbrev pub flags_behind : Bool → List Slot → Bool
flags_behind before [] = before
flags_behind before (Plain bits ∷ slots) = flags_behind false slots
flags_behind before (Flags frame ∷ slots) = flags_behind true slots

-- the frames that slots carry, in order
abbrev pub frames_of : List Slot → List (List ℕ)
frames_of [] = []
frames_of (Plain bits ∷ slots) = frames_of slots
frames_of (Flags None ∷ slots) = frames_of slots
frames_of (Flags (Some octets) ∷ slots) = octets ∷ frames_of slots
