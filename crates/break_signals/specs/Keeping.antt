-- What the two halves keep of breaks, and the parts of an account for which they stand.
use Rattle.std.specs.Prelude.{◌≡◌, ℕ, ◌+◌, ◌^◌, ◌<◌, ◌%◌, min, false, if◌then◌else◌, length, Option, Some, None, slice_index_or}
use Rattle.break_signals.specs.declared.word.BreakWord.{BreakWord}
use Rattle.break_signals.specs.declared.word.BreakWord.TheVariants.{Brk}
use Rattle.break_signals.specs.declared.break_sender.Waiting.{Waiting}
use Rattle.break_signals.specs.Breaks.{OwnBreaks, TheirBreaks}

-- what a sender of breaks keeps
pub record Asking : Type 0 where
  pub number : ℕ  -- of the break that waits or, where none does, of the next one
  pub waiting : Option Waiting
  pub rest : ℕ

-- its timer was set in a turn that may be
abbrev pub IsEarly : Option Waiting → Type 0
IsEarly None = Unit {0}
IsEarly (Some w) = w.set < 2 ^ 40

-- The break that waits is the one length that isn't answered. Its count needs to be known up to the greatest u16 alone, since a number of
-- tries is below 256.
abbrev pub StandsWaiting : Option Waiting → OwnBreaks → Type 0
StandsWaiting None b = (length b.lengths ≡ b.answered) × (b.brk ≡ false)
StandsWaiting (Some w) b =
    (length b.lengths ≡ b.answered + 1) × (slice_index_or b.lengths b.answered 0 ≡ w.units)
    × (b.brk ≡ w.due) × (b.set ≡ w.set) × (min b.count 65535 ≡ w.count)

-- a sender of breaks stands for a part with these lengths taken
pub record StandsOwn (sender : Asking) (b : OwnBreaks) : Type 0 where
  pub number_is : sender.number ≡ b.answered % 2
  pub waits : StandsWaiting sender.waiting b
  pub rest_is : sender.rest ≡ b.rest

-- the BRK that is due, of what a sender keeps
abbrev pub brk_of : ℕ → Option Waiting → Option BreakWord
brk_of number None = None
brk_of number (Some w) = if w.due then Some (Brk number w.units) else None

abbrev pub due_by : Asking → Option BreakWord
due_by sender = brk_of sender.number sender.waiting

-- what a receiver of breaks keeps
pub record Answering : Type 0 where
  pub expected : ℕ
  pub ack : Option BreakWord  -- the BRKACK that is due

-- a receiver of breaks stands for a part with these lengths given
pub record StandsTheirs (receiver : Answering) (b : TheirBreaks) : Type 0 where
  pub expected_is : receiver.expected ≡ length b.lengths % 2
  pub ack_is : receiver.ack ≡ b.ack

-- a turn passes: there is a part after it, for which the sender then stands
pub record Ticks (sender : Asking) (after : Option OwnBreaks) : Type 0 where
  pub part : OwnBreaks
  pub is_after : after ≡ Some part
  pub stands : StandsOwn sender part
