-- The bits of a frame alone.
use Rattle.std.specs.Prelude.{◌≡◌, ℕ, ◌*◌, ◌<◌, ◌≤◌, List, length, Some, Result, Ok, Err}
use Rattle.frame_check.specs.declared.sizes.TheConstants.{SLOT}
use Rattle.bit_stuffing.specs.Slots.{IsFrame, opening}
use Rattle.gateway.specs.declared.framer.SlotStop.{SlotStop}
use Rattle.gateway.specs.declared.framer.SlotStop.TheVariants as stops
use Rattle.gateway.specs.Given.{given}

-- four flags, the frame and its closing flag, as so many octets
pub record OpensFrame (octets : List ℕ) (bits : List ℕ) (count : ℕ) : Type 0 where
  pub is_frame : IsFrame octets
  pub room : 4 * SLOT ≤ length bits
  pub within : count ≤ length bits
  pub bits_are : given count bits ≡ opening 0 (Some octets)

-- What comes of it: no deframer takes such octets, or there is no room for 4·SLOT bits, or they are written.
abbrev pub FrameBits : List ℕ → List ℕ → List ℕ → Result ℕ SlotStop → Type 0
FrameBits octets room bits (Ok count) = OpensFrame octets bits count
FrameBits octets room bits (Err stops.BadFrame) = (IsFrame octets → ⊥) × (bits ≡ room)
FrameBits octets room bits (Err stops.Full) = IsFrame octets × (length room < 4 * SLOT) × (bits ≡ room)
