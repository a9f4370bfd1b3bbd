-- What a writer of slots keeps, and the slots for which it stands.
use Rattle.std.specs.Prelude.{◌≡◌, ℕ, ◌*◌, ◌<◌, List}
use Rattle.bit_stuffing.specs.Slots.{Slot, phase_after}

-- the symbols of each slot, and the bits of an unfinished flag that were sent
pub record Writer : Type 0 where
  pub symbols : ℕ
  pub phase : ℕ

-- A writer stands for the slots that were sent: its phase is the flag phase behind them.
pub record WriterStands (writer : Writer) (slots : List Slot) : Type 0 where
  pub phase_is : writer.phase ≡ phase_after (4 * writer.symbols) slots
  pub low : writer.phase < 8
