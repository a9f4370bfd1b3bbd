-- A break that waits.
use Rattle.std.proofs.Common.{◌≡◌, ◌+◌, true, false, length, Option, Some, None, arith}
use Rattle.std.specs.Option.{is_some}
use Rattle.std.proofs.lemmas.Bool.{lt-ltb}
use Rattle.std.proofs.lemmas.Bool.Decides.{nat_tests}
use Rattle.break_signals.specs.declared.break_sender.Waiting.{Waiting}
use Rattle.break_signals.specs.Breaks.{OwnBreaks, waits}
use Rattle.break_signals.specs.Keeping.{StandsWaiting}

-- where a break waits it is the one that isn't answered
pub one-more : (waiting : Option Waiting) (b : OwnBreaks) → is_some waiting ≡ true → StandsWaiting waiting b
    → length b.lengths ≡ b.answered + 1
one-more None b e stands = cc
one-more (Some w) b e stands = stands.0

pub it-waits : (b : OwnBreaks) → length b.lengths ≡ b.answered + 1 → waits b ≡ true
it-waits b more = lt-ltb b.answered (length b.lengths) (omega (arith, more))

-- where none waits all are answered
pub none-waits : (waiting : Option Waiting) (b : OwnBreaks) → is_some waiting ≡ false → StandsWaiting waiting b → waits b ≡ false
none-waits None b e stands = grind (arith, nat_tests, stands.0)
none-waits (Some w) b e stands = cc
