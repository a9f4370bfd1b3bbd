-- The breaks of one end and of the other, as accounts.
use Rattle.std.specs.Prelude.{◌≡◌, ℕ, ◌+◌, ◌%◌, Bool, true, false, not, if◌then◌else◌, ◌&&◌, nat_eq, nat_lt, nat_le, List, [], ◌∷◌, ◌++◌, length, Option, Some, None, slice_index_or}
use Rattle.shared_terms.specs.Timer.{expires}
use Rattle.break_signals.specs.declared.word.BreakWord.{BreakWord}
use Rattle.break_signals.specs.declared.word.BreakWord.TheVariants.{Brk, Ack}

-- an end's own breaks: the sender's half of the break part of an account, with all lengths taken so far
pub record OwnBreaks : Type 0 where
  pub lengths : List ℕ
  pub answered : ℕ  -- how many of them are answered
  pub brk : Bool  -- a BRK is due
  pub set : ℕ  -- the turn in which the timer of the break that waits was set
  pub count : ℕ
  pub rest : ℕ  -- no break is taken before this turn

-- new
abbrev pub no_breaks : OwnBreaks
no_breaks = record { lengths = []; answered = 0; brk = false; set = 0; count = 0; rest = 0 }

-- waiting
abbrev pub waits : OwnBreaks → Bool
waits b = nat_lt b.answered (length b.lengths)

-- ask: whether it is taken, and what it makes
abbrev pub takes_break : ℕ → OwnBreaks → Bool
takes_break turn b = not (waits b) && nat_le b.rest turn

abbrev pub after_ask : ℕ → ℕ → OwnBreaks → OwnBreaks
after_ask turn length_octet b =
    if takes_break turn b then record b { lengths = b.lengths ++ length_octet ∷ []; brk = true; set = turn; count = 0 } else b

-- tick; none is Spent0
abbrev pub ticked : ℕ → ℕ → ℕ → OwnBreaks → Option OwnBreaks
ticked turn period tries b =
    if waits b && expires b.set period turn
    then (if nat_eq b.count tries then None else Some (record b { brk = true; set = turn; count = b.count + 1 }))
    else Some b

-- due: the first break is number 0, then 1, 0 and so on
abbrev pub own_due : OwnBreaks → Option BreakWord
own_due b = if b.brk then Some (Brk (b.answered % 2) (slice_index_or b.lengths b.answered 0)) else None

-- sent
abbrev pub after_brk : OwnBreaks → OwnBreaks
after_brk b = record b { brk = false }

-- after a break was answered no other one is taken for so many turns
abbrev pub break_rest : ℕ
break_rest = 8

-- answered: a BRKACK of the number of the break that waits
abbrev pub after_answer : ℕ → ℕ → OwnBreaks → OwnBreaks
after_answer turn number b =
    if waits b && nat_eq number (b.answered % 2) then record b { answered = b.answered + 1; brk = false; count = 0; rest = turn + break_rest } else b

-- the other end's breaks: the receiver's half, with all lengths given so far
pub record TheirBreaks : Type 0 where
  pub lengths : List ℕ
  pub ack : Option BreakWord  -- the BRKACK that is due

-- new
abbrev pub none_heard : TheirBreaks
none_heard = record { lengths = []; ack = None }

-- take: the length is given where the number is the one expected, 0 at first and then the other one
abbrev pub gives : ℕ → ℕ → TheirBreaks → Option ℕ
gives number length_octet b = if nat_eq number (length b.lengths % 2) then Some length_octet else None

abbrev pub with_given : Option ℕ → List ℕ → List ℕ
with_given None lengths = lengths
with_given (Some length_octet) lengths = lengths ++ length_octet ∷ []

abbrev pub after_break : ℕ → ℕ → TheirBreaks → TheirBreaks
after_break number length_octet b =
    record { lengths = with_given (gives number length_octet b) b.lengths; ack = Some (Ack number length_octet) }

-- sent (due is ack)
abbrev pub after_ack : TheirBreaks → TheirBreaks
after_ack b = record b { ack = None }

-- A break that is heard again is not given again.
abbrev pub GivesOnce : Type 0
GivesOnce = (number first again : ℕ) (b : TheirBreaks) → gives number again (after_break number first b) ≡ None
