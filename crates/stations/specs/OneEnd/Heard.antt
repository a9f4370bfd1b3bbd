-- What an end hears of the recorded bits of any peer, slot by slot.
use Rattle.std.specs.Prelude.{◌≡◌, ℕ, ◌+◌, ◌-◌, ◌<◌, Bool, List, [], ◌∷◌, ◌++◌, length, take, replicate}
use Rattle.frame_check.specs.Bits.{bits_of}
use Rattle.frame_check.specs.declared.check.Check.TheVariants.{Sixteen}
use Rattle.shared_terms.specs.declared.role.Role.{Role}
use Rattle.bit_stuffing.specs.Pieces.{EndsWhole}
use Rattle.detection.specs.Patterns.{EndsPattern}
use Rattle.lapm_frames.specs.Checked.{SpellsFrame}
use Rattle.lapm_frames.specs.declared.arrived.Arrived.{Arrived}
use Rattle.lapm_frames.specs.declared.arrived.Arrived.TheVariants.{Nothing, Pattern, Frame}

-- how many octets of bits a slot has: 464 symbols of four bits
abbrev pub slot_octets : ℕ
slot_octets = 232

-- the octets of a slot: a short one is filled with ones
abbrev pub filled : List ℕ → List ℕ
filled slot = slot ++ replicate (slot_octets - length slot) 0xff

-- the bits of a slot, of each octet the low one first
abbrev pub slot_bits : List ℕ → List Bool
slot_bits slot = bits_of (filled slot)

-- the bits of all slots, the newest of which stands first in the list and last among the bits
abbrev pub stream : List (List ℕ) → List Bool
stream [] = []
stream (slot ∷ slots) = stream slots ++ slot_bits slot

-- A pattern ends with the last of the bits, or a frame of the peer does that passes the check of 16 bits.
abbrev pub EndsWith : Role → List Bool → Arrived → Type 0
EndsWith peer bits Nothing = ⊥
EndsWith peer bits (Pattern seen) = EndsPattern seen bits
EndsWith peer bits (Frame frame) = (whole : List ℕ) × EndsWhole bits whole × SpellsFrame Sixteen peer 0 whole frame

-- neither does
abbrev pub IsQuiet : Role → List Bool → Type 0
IsQuiet peer bits = (a : Arrived) → EndsWith peer bits a → ⊥

-- neither does with any of these bits, which stand behind the earlier ones
abbrev pub AreQuiet : Role → List Bool → List Bool → Type 0
AreQuiet peer earlier bits = (n : ℕ) → n < length bits → IsQuiet peer (earlier ++ take (n + 1) bits)

-- This is the first thing that ends with one of the bits, which stand behind the earlier ones.
pub record IsFirst (peer : Role) (earlier bits : List Bool) (a : Arrived) : Type 0 where
  pub quiet : List Bool
  pub last : Bool
  pub rest : List Bool
  pub bits_are : bits ≡ quiet ++ last ∷ rest
  pub before : AreQuiet peer earlier quiet
  pub ends : EndsWith peer (earlier ++ quiet ++ last ∷ []) a

-- what is heard of the bits: the first thing that ends with one of them, and nothing where none does
abbrev pub IsHeard : Role → List Bool → List Bool → Arrived → Type 0
IsHeard peer earlier bits Nothing = AreQuiet peer earlier bits
IsHeard peer earlier bits a = IsFirst peer earlier bits a
