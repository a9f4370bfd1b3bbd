-- The slots that a writer of slots has written.
use Rattle.std.specs.Prelude.{◌≡◌, ℕ, ◌-◌, ◌*◌, ◌<◌, ◌≤◌, List, [], ◌∷◌, ◌++◌, length, Result, Ok, Err}
use Rattle.bit_stuffing.specs.SlotWriter.{WriterStands}
use Rattle.bit_stuffing.specs.declared.slot_writer.TheConstants.{TAIL}
use Rattle.detection.specs.Slots.{Signal, CanCarry, signal_bits, slots_of}
use Rattle.gateway.specs.declared.framer.FrameWriter.{FrameWriter}
use Rattle.gateway.specs.declared.framer.SlotStop.{SlotStop}
use Rattle.gateway.specs.declared.framer.SlotStop.TheVariants as stops
use Rattle.gateway.specs.Given.{given}

-- A writer of slots of so many symbols, each of four bits, has written these.
pub record HasWritten (symbols : ℕ) (writer : FrameWriter) (signals : List Signal) : Type 0 where
  pub symbols_are : writer.symbols ≡ symbols
  pub stands : WriterStands writer.writer (slots_of (4 * symbols) signals)

-- a slot of so many symbols can carry it, whatever flags came before, with TAIL symbols left behind a frame
abbrev pub Carries : ℕ → Signal → Type 0
Carries symbols signal = CanCarry (4 * (symbols - TAIL)) signal

-- one more slot is written, and the bits of all are those before and these
pub record AddsSlot (symbols : ℕ) (signals : List Signal) (signal : Signal) (after : FrameWriter) (bits : List ℕ) (count : ℕ) : Type 0 where
  pub count_is : count ≡ 4 * symbols
  pub carries : Carries symbols signal
  pub room : 4 * symbols ≤ length bits
  pub writes : HasWritten symbols after (signals ++ signal ∷ [])
  pub bits_are : signal_bits (4 * symbols) (signals ++ signal ∷ []) ≡ signal_bits (4 * symbols) signals ++ given (4 * symbols) bits

-- What comes of a slot: no slot of the writer's can carry it, or there is no room for the slot's bits, or it is written.
abbrev pub SlotWritten : ℕ → List Signal → Signal → FrameWriter → List ℕ → FrameWriter → List ℕ → Result ℕ SlotStop → Type 0
SlotWritten symbols signals signal before room after bits (Ok count) = AddsSlot symbols signals signal after bits count
SlotWritten symbols signals signal before room after bits (Err stops.BadFrame) = (Carries symbols signal → ⊥) × (after ≡ before) × (bits ≡ room)
SlotWritten symbols signals signal before room after bits (Err stops.Full) =
    Carries symbols signal × (length room < 4 * symbols) × (after ≡ before) × (bits ≡ room)
