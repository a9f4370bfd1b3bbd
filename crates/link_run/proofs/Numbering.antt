-- What an end sends is the next segment, or one that it has sent.
use Rattle.link_run.proofs.Names.{◌≡◌, ℕ, ◌+◌, ◌%◌, ◌≤◌, Bool, max, arith, Option, Some, None, Ok, Outgoing, Account, Said, ready_frame}
use Rattle.link_run.proofs.Names.{frame_for, speak, AllSaid, Steps, Ways, by-ways, IsInRange, Answer, sequence_in}
use Rattle.link_account.proofs.Names.{may_send}
use Rattle.link_account.specs.Speak.{says_segment}
use Rattle.lapm_frames.specs.declared.sent.Sent.TheVariants as slots

-- how far an end has sent, by the N(S) of what it sends and its meant number
abbrev pub SentAs : Option ℕ → ℕ → ℕ → ℕ → Type 0
SentAs None number old new = new ≡ old
SentAs (Some ns) number old new = (ns ≡ number % 128) × (number ≤ old) × (old ≤ number + 127) × (new ≡ max old (number + 1))

abbrev pub Sends : ℕ → Said → Type 0
Sends high said = SentAs (sequence_in said.sent) said.number high said.account.outgoing.high

segment : (turn : ℕ) (a : Account) → IsInRange a.outgoing → AllSaid (Sends a.outgoing.high) (says_segment turn (may_send a) a)
segment turn a r = grind (arith)

-- what changes nothing of them
pub record Alike (a b : Account) : Type 0 where
  pub range : IsInRange a.outgoing → IsInRange b.outgoing
  pub high : b.outgoing.high ≡ a.outgoing.high

ranged : (o : Outgoing) (count : ℕ) (awaited : Bool) → IsInRange o → IsInRange (record o { count = count; awaited = awaited })
ranged o count awaited r = record { front_from = r.front_from; from_high = r.from_high; few = r.few; chosen = r.chosen }

answer : (d : Answer) (b : Account) (high : ℕ) → SentAs (sequence_in (frame_for d b)) 0 high high
answer d b high = grind (arith)

ready : (busy command pf : Bool) (nr high : ℕ) → SentAs (sequence_in (slots.Frame (ready_frame busy command nr pf))) 0 high high
ready busy command pf nr high = grind (arith)

steps : (turn : ℕ) (special : Bool) (a : Account) → IsInRange a.outgoing → Steps (Sends a.outgoing.high) turn special a
steps turn special a r = grind (arith)

ways : (turn : ℕ) (release : Bool) (a : Account) → IsInRange a.outgoing → Ways (Sends a.outgoing.high) turn release a
ways turn release a r = grind (arith)

pub sends-as : (turn : ℕ) (release : Bool) (a : Account) (said : Said) → IsInRange a.outgoing → speak turn release a ≡ Ok said
    → Sends a.outgoing.high said
sends-as turn release a said r e = by-ways _ turn release a (ways turn release a r) said e
