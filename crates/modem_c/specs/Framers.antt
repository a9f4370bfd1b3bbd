-- What a handle that leads to a framer stands for, and what its calls answer.
use Rattle.std.specs.Prelude.{◌≡◌, ℕ, zero, suc, ℤ, ◌+◌, ◌*◌, ◌<◌, ◌≤◌, List, [], ◌∷◌, ◌++◌, length, Option, Some, None, IsSomeAnd}
use Rattle.frame_check.specs.declared.sizes.TheConstants.{SLOT}
use Rattle.lapm_frames.specs.declared.seen.Seen.TheVariants.{Odp, Adp}
use Rattle.bit_stuffing.specs.Slots.{IsFrame, opening}
use Rattle.bit_stuffing.specs.declared.slot_writer.TheConstants.{HEAD, TAIL}
use Rattle.detection.specs.Slots.{Signal, signal_bits}
use Rattle.detection.specs.Slots.Signal.{PatternSlot, MarkSlot, FlagSlot}
use Rattle.gateway.specs.Given.{given}
use Rattle.gateway.specs.SlotsWritten.{Carries, HasWritten}
use Rattle.modem_c.specs.declared.codes.TheConstants.{DONE, FULL, NO_MEMORY, BAD_ARGUMENT}
use Rattle.modem_c.specs.declared.machine.Machine.{Machine}
use Rattle.modem_c.specs.Led.{framer_in}

-- a framer of slots of so many symbols that has written these
abbrev pub Frames : ℕ → Option Machine → List Signal → Type 0
Frames symbols led signals = IsSomeAnd (framer_in led) (λ it. HasWritten symbols it signals)

-- what making one answers: no slot has so many symbols, or it is made, or there is no memory
pub data MakesFramer (symbols : ℕ) (before after : Option Machine) (code : ℤ) : Type 0 where
  NoSlot : ((HEAD + TAIL < symbols) × (symbols ≤ SLOT) → ⊥) → code ≡ BAD_ARGUMENT → after ≡ before → MakesFramer symbols before after code
  Made : HEAD + TAIL < symbols → symbols ≤ SLOT → code ≡ DONE → Frames symbols after [] → MakesFramer symbols before after code
  NoMemory : HEAD + TAIL < symbols → symbols ≤ SLOT → code ≡ NO_MEMORY → after ≡ before → MakesFramer symbols before after code

-- what a slot of this kind carries, where a frame's octets with their check are these
abbrev pub signal_by : ℕ → List ℕ → Option Signal
signal_by zero octets = Some MarkSlot
signal_by (suc zero) octets = Some (PatternSlot Odp)
signal_by (suc (suc zero)) octets = Some (PatternSlot Adp)
signal_by (suc (suc (suc zero))) octets = Some (FlagSlot (Some octets))
signal_by (suc (suc (suc (suc zero)))) octets = Some (FlagSlot None)
signal_by (suc (suc (suc (suc (suc kind))))) octets = None

-- What a slot behind these answers that is to carry this: no such slot can, or there is no room for its bits, or they are written.
pub data Slotted (symbols : ℕ) (signals : List Signal) (signal : Signal) (before bits : List ℕ) (written : ℕ) (code : ℤ) : Type 0 where
  BadFrame : (Carries symbols signal → ⊥) → code ≡ BAD_ARGUMENT → bits ≡ before → written ≡ 0
      → Slotted symbols signals signal before bits written code
  NoRoom : Carries symbols signal → length before < 4 * symbols → code ≡ FULL → bits ≡ before → written ≡ 0
      → Slotted symbols signals signal before bits written code
  Done : Carries symbols signal → 4 * symbols ≤ length bits → code ≡ DONE → written ≡ 4 * symbols
      → signal_bits (4 * symbols) (signals ++ signal ∷ []) ≡ signal_bits (4 * symbols) signals ++ given written bits
      → Slotted symbols signals signal before bits written code

-- the same for a kind, which a number may not name
abbrev pub SlottedBy : ℕ → List Signal → Option Signal → List ℕ → List ℕ → ℕ → ℤ → Type 0
SlottedBy symbols signals None before bits written code = (code ≡ BAD_ARGUMENT) × (bits ≡ before) × (written ≡ 0)
SlottedBy symbols signals (Some signal) before bits written code = Slotted symbols signals signal before bits written code

-- What the bits of a frame alone answer: no deframer takes such octets, or there is no room for 4·SLOT bits, or four flags, the frame and
-- its closing flag are written.
pub data FrameAlone (octets before bits : List ℕ) (written : ℕ) (code : ℤ) : Type 0 where
  NoFrame : (IsFrame octets → ⊥) → code ≡ BAD_ARGUMENT → bits ≡ before → written ≡ 0 → FrameAlone octets before bits written code
  TooLittle : IsFrame octets → length before < 4 * SLOT → code ≡ FULL → bits ≡ before → written ≡ 0 → FrameAlone octets before bits written code
  Alone : IsFrame octets → 4 * SLOT ≤ length bits → code ≡ DONE → written ≤ length bits → given written bits ≡ opening 0 (Some octets)
      → FrameAlone octets before bits written code
