-- What a register of the latest 23 bits of a line holds.
use Rattle.std.specs.Prelude.{◌≡◌, ℕ, ◌-◌, ◌≤◌, Bool, List, length}
use Rattle.std.specs.Int.{bit_at}
use Rattle.scramblers.specs.Stream.{earlier}
use Rattle.frame_check.specs.Bits.{number}

-- the register's high 23 bits are the line's latest ones, the last one highest
pub record Holds (register : ℕ) (line : List Bool) : Type 0 where
  pub recent : (places : ℕ) → 1 ≤ places → places ≤ 23 →
      bit_at register (32 - places) ≡ number (earlier line (length line) places)
