-- Polls and their answers, at one end.
use Rattle.link_account.proofs.Names.{Role, Answerer, Sent, Account, is_connected, I, Arrived, Said, nr_of, of, arrives}
use Rattle.std.specs.Prelude.{◌≡◌, ◌⊎◌, ℕ, ◌+◌, Bool, true, false, ◌&&◌, ◌||◌, cond, Option, Some, ◌%◌, ◌<◌, [], slice_index_or}
use Rattle.std.specs.Prelude.{if◌then◌else◌, nat_lt, List, ◌∷◌, length, None, ◌-◌, ◌*◌, ◌≤◌}
pub use Rattle.link_account.specs.Laws.{has_begun as is_linked}
use Rattle.turn_bound.proofs.MeetHear.{of_frame, of_arrived}
use Rattle.turn_losses.specs.Polls.{is_poll, is_final}
use Rattle.lapm_frames.specs.declared.sent.Sent.TheVariants as slots
use Rattle.link_run.proofs.Names.{is_closed, Link, Accounts, Spoken, Turn, RunOf, Hears, served_at, start, arrival, Carries, IsCarried}
use Rattle.link_run.specs.Run.{Speaks}
use Rattle.turn_bound.specs.Time.{KeepsTime}
use Rattle.turn_bound.proofs.Tied.{is_lost}
use Rattle.lapm_frames.specs.declared.arrived.Arrived.TheVariants as arrivals

-- a poll of a Connected end is due
abbrev pub poll_due : Account → Bool
poll_due a = is_connected a.phase && a.wait.poll

-- before an end is Connected nothing is polled for, nor by an answerer before it heard an I frame or a supervisory frame
pub record Early (role : Role) (a : Account) : Type 0 where
  pub poll : is_linked a.phase ≡ false → a.wait.poll ≡ false
  pub numbered : is_linked a.phase ≡ false → a.numbered ≡ false
  pub silent : role ≡ Answerer → is_connected a.phase ≡ true → a.numbered ≡ false → a.wait.poll ≡ false

-- where a timer was set
abbrev pub SetFrom : ℕ → Option ℕ → Option ℕ → Type 0
SetFrom turn old new = (s : ℕ) → new ≡ Some s → (s ≡ turn) ⊎ (old ≡ Some s)

-- A turn of one end, by what it does about polls: whether one becomes due in it, and what is due before and after it.
pub record PollTurn (period turn : ℕ) (role : Role) (polled final made : Bool) (count : ℕ) (sent : Sent) (a c : Account) : Type 0 where
  pub early : Early role c
  pub linked : is_linked a.phase ≡ true → is_linked c.phase ≡ true
  pub due_from : poll_due c ≡ true → made ≡ false → poll_due a ≡ true
  pub held_up : poll_due c ≡ true → polled ≡ true
  pub sent_from : of_frame is_poll sent ≡ true → made ≡ false → poll_due a ≡ true
  pub sent_done : of_frame is_poll sent ≡ true → poll_due c ≡ false
  pub timer : is_connected c.phase ≡ true → is_linked a.phase ≡ true
      → (is_connected a.phase ≡ true) × SetFrom turn a.wait.timer c.wait.timer
  pub made_timer : made ≡ true → is_connected c.phase ≡ true → (s : ℕ) → c.wait.timer ≡ Some s → s ≡ turn
  pub made_awaited : made ≡ true → is_connected c.phase ≡ true → c.outgoing.awaited ≡ true
  pub made_linked : made ≡ true → is_linked c.phase ≡ true
  pub made_from : made ≡ true → is_linked a.phase ≡ true
      → (is_connected a.phase ≡ true) × (s : ℕ) × (a.wait.timer ≡ Some s) × (turn ≡ s + period)
  pub replied : of_frame is_final sent ≡ true → polled ≡ true
  pub goes : is_connected a.phase ≡ true → is_connected c.phase ≡ true → (made ≡ true) ⊎ (poll_due a ≡ true)
      → (of_frame is_poll sent ≡ true) ⊎ (poll_due c ≡ true)
  pub awaited : is_connected a.phase ≡ true → is_connected c.phase ≡ true → c.outgoing.awaited ≡ made || cond final false a.outgoing.awaited
  pub counted : is_connected a.phase ≡ true → is_connected c.phase ≡ true → (n : ℕ) → c.outgoing.count ≡ n + 1
      → ((made ≡ true) × (count ≡ n) × (c.wait.timer ≡ Some turn))
      ⊎ ((made ≡ false) × (count ≡ n + 1) × ((r : ℕ) → a.wait.timer ≡ Some r → c.wait.timer ≡ Some r))
  pub kept : is_connected a.phase ≡ true → (count ≡ 0) ⊎ (count ≡ a.outgoing.count)
  pub replies : polled ≡ true → is_connected a.phase ≡ true → is_connected c.phase ≡ true → of_frame is_final sent ≡ true

-- The turn in which a poll's answer is heard.

-- the segment of that number is sent
pub record SendsSegment (n : ℕ) (b : Account) (said : Said) : Type 0 where
  pub sent : said.sent ≡ slots.Frame (I (n % 128) (nr_of b) false (slice_index_or b.outgoing.pieces n []))
  pub number : said.number ≡ n

-- Where a poll is awaited and none is due, a response with F = 1 leaves the retry count at 0, or the first segment that isn't acknowledged
-- goes in that very turn.
abbrev pub AnswerTurn : (period turn : ℕ) → Arrived → (a mid b : Account) → Said → Type 0
AnswerTurn period turn arrived a mid b said =
    is_connected a.phase ≡ true → a.outgoing.awaited ≡ true → a.wait.poll ≡ false → of_arrived is_final arrived ≡ true
    → is_connected said.account.phase ≡ true
    → ((r : ℕ) → a.wait.timer ≡ Some r → turn < r + period) → (mid.outgoing.count ≡ 0) ⊎ SendsSegment mid.outgoing.front b said

-- A run looked up by the turn.

-- the turns before the turn of that number, the newest first
abbrev pub past : List Turn → ℕ → List Turn
past [] turn = []
past (t ∷ ts) turn = if nat_lt (length ts) turn then t ∷ ts else past ts turn

-- what was sent; a silent end sends flags, as it were
abbrev pub sent_or : Option Spoken → Sent
sent_or None = slots.Flags
sent_or (Some slot) = slot.sent

-- what happens in a turn: the ends once they have heard, and at which of them a poll becomes due
pub record Deed : Type 0 where
  pub turn : Turn
  pub mid : Accounts
  pub made : Role → Bool

pub record Happens (period : ℕ) (delay : Role → ℕ) (link : Link) (us : List Turn) (turn : ℕ) (before : Accounts) (d : Deed)
    (after : Accounts) : Type 0 where
  pub number : length us ≡ turn
  pub run : RunOf link us before
  pub carried : IsCarried delay us
  pub carries : Carries delay us d.turn
  pub hearing : Hears turn before d.turn d.mid
  pub going : is_closed d.mid.orig.phase ≡ false
  pub speaking : Speaks link turn d.mid d.turn after
  pub polls : (role : Role)
      → PollTurn period turn role (of_arrived is_poll (arrival (of role d.turn).heard))
      (of_arrived is_final (arrival (of role d.turn).heard)) (d.made role) (of role d.mid).outgoing.count
      (sent_or (of role d.turn).sent) (of role before) (of role after)
  pub answers : (role : Role)
      → AnswerTurn period turn (arrival (of role d.turn).heard) (of role before) (of role d.mid) (served_at link turn d.mid role).account
      (speaking role).said

-- The ends before each turn, and what happens in it.
pub record Trace (period : ℕ) (delay : Role → ℕ) (link : Link) (ts : List Turn) (state : ℕ → Accounts) (deed : ℕ → Deed) : Type 0 where
  pub starts : state 0 ≡ start link
  pub happens : (t : ℕ) → t < length ts → Happens period delay link (past ts t) t (state t) (deed t) (state (t + 1))
  pub grows : (t : ℕ) → t < length ts → past ts (t + 1) ≡ (deed t).turn ∷ past ts t

-- A run over a line that carries what is sent, looked up by the turn.
pub record TimedRun : Type 0 where
  pub tries : ℕ
  pub period : ℕ
  pub delay : Role → ℕ
  pub link : Link
  pub ts : List Turn
  pub ends : Accounts
  pub keeps : KeepsTime tries period delay link
  pub run : RunOf link ts ends
  pub carried : IsCarried delay ts
  pub state : ℕ → Accounts
  pub deed : ℕ → Deed
  pub trace : Trace period delay link ts state deed
  pub last : state (length ts) ≡ ends

-- Two ends over the turns of a run, each seen from the one and from the other.

-- one end by the turn: its account before it and once it has heard, what arrives and is lost, what it sends, and whether a poll becomes due
pub record EndRun : Type 0 where
  pub role : Role
  pub delay : ℕ  -- of what it sends
  pub account : ℕ → Account
  pub heard : ℕ → Arrived
  pub loses : ℕ → Bool
  pub slot : ℕ → Sent
  pub made : ℕ → Bool
  pub count : ℕ → ℕ  -- the retry count once it has heard
  pub mid : ℕ → Account  -- once it has heard
  pub served : ℕ → Account  -- and is to speak

abbrev pub end_of : TimedRun → Role → EndRun
end_of w role = record {
  role = role;
  delay = w.delay role;
  account = λ t. of role (w.state t);
  heard = λ t. arrival (of role (w.deed t).turn).heard;
  loses = λ t. is_lost (of role (w.deed t).turn).heard;
  slot = λ t. sent_or (of role (w.deed t).turn).sent;
  made = λ t. (w.deed t).made role;
  count = λ t. (of role (w.deed t).mid).outgoing.count;
  mid = λ t. of role (w.deed t).mid;
  served = λ t. (served_at w.link t (w.deed t).mid role).account;
}

-- what arrives is what was sent so many turns before, or is lost
pub record ArrivesLate (delay turn : ℕ) (loses : Bool) (f : ℕ → Sent) (arrived : Arrived) : Type 0 where
  pub early : turn < delay → arrived ≡ arrivals.Nothing
  pub late : delay ≤ turn → arrived ≡ cond loses arrivals.Nothing (arrives (f (turn - delay)))

pub record TwoEnds (period turns : ℕ) (e o : EndRun) : Type 0 where
  pub own : (t : ℕ) → t < turns
      → PollTurn period t e.role (of_arrived is_poll (e.heard t)) (of_arrived is_final (e.heard t)) (e.made t) (e.count t) (e.slot t)
      (e.account t) (e.account (t + 1))
  pub other : (t : ℕ) → t < turns
      → PollTurn period t o.role (of_arrived is_poll (o.heard t)) (of_arrived is_final (o.heard t)) (o.made t) (o.count t) (o.slot t)
      (o.account t) (o.account (t + 1))
  pub hears : (t : ℕ) → t < turns → ArrivesLate o.delay t (e.loses t) o.slot (e.heard t)
  pub is_heard : (t : ℕ) → t < turns → ArrivesLate e.delay t (o.loses t) e.slot (o.heard t)
  pub own_first : poll_due (e.account 0) ≡ false
  pub other_first : poll_due (o.account 0) ≡ false
  pub own_delay : 1 ≤ e.delay
  pub other_delay : 1 ≤ o.delay
  pub period_is : period ≡ 2 * (e.delay + o.delay) + 16

-- in a turn a poll is sent, a poll is heard, a response with F = 1 is sent or is heard
abbrev pub sends_poll : EndRun → ℕ → Bool
sends_poll e t = of_frame is_poll (e.slot t)

abbrev pub hears_poll : EndRun → ℕ → Bool
hears_poll e t = of_arrived is_poll (e.heard t)

abbrev pub sends_final : EndRun → ℕ → Bool
sends_final e t = of_frame is_final (e.slot t)

abbrev pub hears_final : EndRun → ℕ → Bool
hears_final e t = of_arrived is_final (e.heard t)
