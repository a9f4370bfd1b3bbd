use Rattle.turn_bound.proofs.Names.{arith, mul-le-mul_left, mul-le-mul_right, no_breaks, is_some, AllByRecursion, Outgoing, is_outstanding}
use Rattle.turn_bound.proofs.Names.{Role, Originator, Answerer, Frame, I, Rr, Rnr, Rej, Sabme, Ui, BreakWord, Brk, Sent, Arrived}
use Rattle.turn_bound.proofs.Names.{is_connected, Setup, Phase, Detecting, Negotiating, Establishing, Connected, Releasing, Closed, Terms}
use Rattle.link_account.proofs.Names.{OwnBreaks, waits}
use Rattle.link_account.proofs.Names.{Ack, BreakFault, word_in, Account}
use Rattle.std.specs.Prelude.{◌≡◌, ℕ, ◌+◌, ◌-◌, ◌*◌, ◌<◌, ◌≤◌, Bool, true, false, not, cond, ◌&&◌, ◌||◌, nat_lt, length, Option, Some, None}
use Rattle.std.specs.Prelude.{Result, Ok, Err}
use Rattle.link_account.specs.Laws.{has_begun}
use Rattle.lapm_sender.specs.Outgoing as outgoing
use Rattle.lapm_frames.specs.declared.sent.Sent.TheVariants as slots
use Rattle.lapm_frames.specs.declared.arrived.Arrived.TheVariants as arrivals

-- What the turns of a run are counted in.
pub record Rates : Type 0 where
  pub tries : ℕ
  pub period : ℕ
  pub whole : ℕ  -- the turns of a whole set of tries
  pub room : ℕ  -- the room for a standstill
  pub first : ℕ  -- what a first segment that is still to be sent counts
  pub quota : ℕ  -- the turns of one segment

abbrev pub rates : ℕ → ℕ → Rates
rates tries period = record {
  tries = tries;
  period = period;
  whole = (tries + 1) * period;
  room = 2 * period - 2;
  first = (tries + 1) * period + (2 * period - 2) + 1;
  quota = 2 * (tries + 2) * period;
}

-- all that is used of them
pub record AreRates (z : Rates) : Type 0 where
  pub whole : z.whole ≡ (z.tries + 1) * z.period
  pub room : z.room + 2 ≡ 2 * z.period
  pub first : z.first ≡ z.whole + z.room + 1
  pub quota : z.quota ≡ z.first + z.whole + 1
  pub tries : 1 ≤ z.tries
  pub period : 20 ≤ z.period

-- A clock that runs. `before` is the first turn in which it can't have been set yet: the turn itself between turns, and the next one
-- within it.
pub record Runs (z : Rates) (before turn count set : ℕ) : Type 0 where
  pub tied : count * z.period ≤ set
  pub started : set < before
  pub within : turn ≤ set + z.period
  pub tried : count ≤ z.tries

-- a clock that doesn't run has tried nothing
abbrev pub Ticks : Rates → ℕ → ℕ → ℕ → Option ℕ → Type 0
Ticks z before turn count None = count ≡ 0
Ticks z before turn count (Some set) = Runs z before turn count set

-- one more than the turns until the tries of a clock are spent, and 0 where it doesn't run
abbrev pub left : Rates → ℕ → ℕ → Option ℕ → ℕ
left z turn count None = 0
left z turn count (Some set) = set + z.whole + 1 - (count * z.period + turn)

-- what the sender's clock runs for
abbrev pub is_waiting : Outgoing → Bool
is_waiting o = is_outstanding o || (o.awaited || o.paused)

abbrev pub IsChosen : ℕ → ℕ → ℕ → Type 0
IsChosen front high n = (front ≤ n) × (n < high)

-- the sender's part of a Connected account, and its clock
pub record Sends (z : Rates) (before turn : ℕ) (o : Outgoing) (timer : Option ℕ) : Type 0 where
  pub front_from : o.front ≤ o.from
  pub from_high : o.from ≤ o.high
  pub high_pieces : o.high ≤ length o.pieces
  pub high_window : o.high ≤ o.front + o.window
  pub window : 1 ≤ o.window
  pub chosen : AllByRecursion (IsChosen o.front o.high) o.chosen
  pub tries_are : o.tries ≡ z.tries
  pub cause : is_some timer ≡ is_waiting o
  pub ticks : Ticks z before turn o.count timer

-- nothing is outstanding and there is more to send
abbrev pub is_free : ℕ → Outgoing → Bool
is_free total o = not (is_outstanding o) && nat_lt o.front total

abbrev pub one_if : Bool → ℕ
one_if b = cond b 1 0

-- what a thing falls by in a part of a turn that ends a life, in one that begins one, and in any other
abbrev pub ends : ℕ → Bool → Bool → ℕ
ends k true true = 0
ends k true false = 1
ends k false true = k + 1
ends k false false = 0

-- what the segments that aren't acknowledged are worth, of so many in all
abbrev pub worth : Rates → ℕ → Outgoing → ℕ
worth z total o = z.quota * (total - o.front) + cond (is_free total o) z.first 0

-- what the sender's part is worth
abbrev pub sender_value : Rates → ℕ → ℕ → Outgoing → Option ℕ → ℕ
sender_value z total turn o timer = worth z total o + left z turn o.count timer

-- an end's own breaks
pub record Breaks (z : Rates) (before turn : ℕ) (b : OwnBreaks) : Type 0 where
  pub low : b.answered ≤ length b.lengths
  pub high : length b.lengths ≤ b.answered + 1
  pub due : b.brk ≡ true → waits b ≡ true
  pub clock : waits b ≡ true → Runs z before turn b.count b.set
  pub rests : b.rest ≤ before + 7

-- a break waits, or an end rests from one
abbrev pub is_breaking : ℕ → OwnBreaks → Bool
is_breaking turn b = waits b || nat_lt turn b.rest

abbrev pub break_left : Rates → ℕ → OwnBreaks → ℕ
break_left z turn b = cond (waits b) (b.set + z.whole + 9 - (b.count * z.period + turn)) (b.rest - turn)

-- what the breaks are worth, of so many in all
abbrev pub break_value : Rates → ℕ → ℕ → OwnBreaks → ℕ
break_value z breaks turn b = z.quota * (breaks - length b.lengths) + break_left z turn b

-- what a thing falls by in a whole turn: of a thing that lives, of one that comes to life, and of any other
abbrev pub lasts : ℕ → Bool → Bool → ℕ
lasts k lives lives' = cond lives 1 (cond lives' (k + 1) 0)

-- a try more fits
pub tries_fit : (z : Rates) (count : ℕ) → AreRates z → count ≤ z.tries → count * z.period + z.period ≤ z.whole
tries_fit z count y h = grind (arith, mul-le-mul_right {m = count + 1})

pub paid : (q m n : ℕ) → m < n → q * m + q ≤ q * n
paid q m n h = let more : q * (m + 1) ≤ q * n = mul-le-mul_left {m = m + 1} {n = n} q (omega (arith, h)) in omega (arith, more)

pub kept : (q m n : ℕ) → m ≤ n → q * m ≤ q * n
kept q m n h = mul-le-mul_left {m = m} {n = n} q h

pub cond-le : (b : Bool) (n : ℕ) → cond b n 0 ≤ n
cond-le b n = grind (arith)

pub stopped : (z : Rates) (before turn count : ℕ) (timer : Option ℕ) → Ticks z before turn count timer → timer ≡ None → count ≡ 0
stopped z before turn count b h e = grind (arith)

-- a clock that runs counts one at least
pub left-some : (z : Rates) (before turn count : ℕ) (timer : Option ℕ) → AreRates z → Ticks z before turn count timer → is_some timer ≡ true
    → 1 ≤ left z turn count timer
left-some z before turn count b y h e = grind (arith)

-- later within a turn
pub ticks-later : (z : Rates) (before turn count : ℕ) (timer : Option ℕ) → Ticks z before turn count timer
    → Ticks z (before + 1) turn count timer
ticks-later z before turn count timer h = grind (arith)

pub ticks-now : (z : Rates) (turn : ℕ) → Ticks z (turn + 1) turn 0 (Some turn)
ticks-now z turn = record { tied = omega arith; started = omega arith; within = omega arith; tried = omega arith }

-- the phases that an originator has before it, until it releases
abbrev pub phases_left : Role → Phase → ℕ
phases_left Answerer phase = 0
phases_left Originator Detecting = 4
phases_left Originator Negotiating = 3
phases_left Originator Establishing = 2
phases_left Originator Connected = 1
phases_left Originator Releasing = 0
phases_left Originator Closed = 0

-- what the clock of a U try counts
abbrev pub try_left : Rates → ℕ → Account → ℕ
try_left z turn a = left z turn a.wait.try_count (Some a.wait.try_set)

abbrev pub linked_left : Rates → ℕ → Account → ℕ
linked_left z turn a = left z turn a.outgoing.count a.wait.timer + break_left z turn a.own_breaks

abbrev pub time_in : Phase → Role → Rates → ℕ → Account → ℕ
time_in Connected role z turn a = linked_left z turn a
time_in Closed role z turn a = 0
time_in Detecting Originator z turn a = z.whole - turn
time_in p Originator z turn a = try_left z turn a
time_in p Answerer z turn a = 0

abbrev pub time_left : Rates → ℕ → Role → Phase → Account → ℕ
time_left z turn role p a = time_in p role z turn a

-- what an end is worth, of so many segments and breaks in all
abbrev pub value : Rates → ℕ → ℕ → ℕ → Role → Phase → Account → ℕ
value z total breaks turn role phase a =
    worth z total a.outgoing + z.quota *
    (breaks - length a.own_breaks.lengths) + z.quota * phases_left role phase + time_left z turn role phase a

-- an end lives while a clock runs or it rests from a break
abbrev pub linked_lives : ℕ → Account → Bool
linked_lives turn a = is_waiting a.outgoing || is_breaking turn a.own_breaks

abbrev pub lives_in : Phase → Role → ℕ → Account → Bool
lives_in Connected role turn a = linked_lives turn a
lives_in Closed role turn a = false
lives_in p Originator turn a = true
lives_in p Answerer turn a = false

abbrev pub lives : ℕ → Role → Phase → Account → Bool
lives turn role p a = lives_in p role turn a

-- the rates are those of a setup, whose windows aren't 0
pub record IsOf (z : Rates) (setup : Setup) : Type 0 where
  pub tries : setup.tries ≡ z.tries
  pub period : setup.period ≡ z.period
  pub tx_window : 1 ≤ setup.offer.tx_window
  pub rx_window : 1 ≤ setup.offer.rx_window

-- what holds of one end, whatever the other does
pub record UnlinkedIn (o : Outgoing) (m : Option ℕ) (own : OwnBreaks) (due : Option BreakWord) (terms : Terms) : Type 0 where
  pub outgoing : o ≡ outgoing.not_begun
  pub timer : m ≡ None
  pub breaks : own ≡ no_breaks
  pub ack : due ≡ None
  pub window_o : 1 ≤ terms.window_o
  pub window_a : 1 ≤ terms.window_a

abbrev pub Unlinked : Account → Type 0
Unlinked a = UnlinkedIn a.outgoing a.wait.timer a.own_breaks a.their_breaks.ack a.terms

-- a BRKACK alone is due as an answer
abbrev pub IsAck : Option BreakWord → Type 0
IsAck None = Unit {0}
IsAck (Some (Ack number length_octet)) = Unit {0}
IsAck (Some (Brk number length_octet)) = ⊥

-- an answerer that heard no I frame and no supervisory frame has sent none
abbrev pub IsSilent : Role → Bool → ℕ → Option ℕ → Type 0
IsSilent Originator numbered high timer = Unit {0}
IsSilent Answerer numbered high timer = numbered ≡ false → (high ≡ 0) × (timer ≡ None)

pub record LinkedIn (z : Rates) (before turn : ℕ) (role : Role) (numbered : Bool) (o : Outgoing) (timer : Option ℕ) (own : OwnBreaks)
    (due : Option BreakWord) : Type 0 where
  pub sends : Sends z before turn o timer
  pub breaks : Breaks z before turn own
  pub ack : IsAck due
  pub silent : IsSilent role numbered o.high timer

abbrev pub Linked : Rates → ℕ → ℕ → Role → Account → Type 0
Linked z before turn role a = LinkedIn z before turn role a.numbered a.outgoing a.wait.timer a.own_breaks a.their_breaks.ack

abbrev pub Tries : Rates → ℕ → ℕ → Account → Type 0
Tries z before turn a = Runs z before turn a.wait.try_count a.wait.try_set

abbrev pub StandsIn : Phase → Role → Rates → ℕ → ℕ → Account → Type 0
StandsIn Connected role z before turn a = Linked z before turn role a
StandsIn Closed role z before turn a = Unit {0}
StandsIn Detecting role z before turn a = Unlinked a
StandsIn Negotiating Originator z before turn a = Unlinked a × Tries z before turn a
StandsIn Negotiating Answerer z before turn a = Unlinked a
StandsIn Establishing Originator z before turn a = Unlinked a × Tries z before turn a
StandsIn Establishing Answerer z before turn a = ⊥
StandsIn Releasing Originator z before turn a = Tries z before turn a
StandsIn Releasing Answerer z before turn a = ⊥

abbrev pub Stands : Rates → ℕ → ℕ → Role → Phase → Account → Type 0
Stands z before turn role p a = StandsIn p role z before turn a

-- by what phases are
pub linked-of : (z : Rates) (before turn : ℕ) (role : Role) (p : Phase) (a : Account) → Stands z before turn role p a
    → is_connected p ≡ true
    → Linked z before turn role a
linked-of z before turn role p a s e = grind (arith)

pub unlinked-of : (z : Rates) (before turn : ℕ) (role : Role) (p : Phase) (a : Account) → Stands z before turn role p a
    → has_begun p ≡ false → Unlinked a
unlinked-of z before turn role p a s e = grind (arith)

-- what is due, where nothing lives: the least is 2 for what makes nothing due at the other end
abbrev pub two_if : Bool → ℕ
two_if b = cond b 2 0

abbrev pub four_if : Bool → ℕ
four_if b = cond b 4 0

abbrev pub dues : ℕ → Account → ℕ
dues total a =
    two_if (is_some a.owes.answer) + two_if a.owes.reply + two_if
    (is_some a.their_breaks.ack) + two_if a.incoming.rej + four_if a.wait.poll + two_if a.owes.busy_told
    + one_if (is_free total a.outgoing && not a.special)

-- what a slot on the line makes due
abbrev pub word_weight : Result BreakWord BreakFault → ℕ
word_weight (Ok (Brk number length_octet)) = 2
word_weight (Ok (Ack number length_octet)) = 0
word_weight (Err fault) = 0

abbrev pub frame_weight : Frame → ℕ
frame_weight (I ns nr pf info) = 2 + two_if pf
frame_weight (Rr command nr pf) = two_if (command && pf)
frame_weight (Rnr command nr pf) = two_if (command && pf)
frame_weight (Rej command nr pf) = two_if (command && pf)
frame_weight (Sabme pf) = 2
frame_weight (Ui command pf info) = word_weight (word_in info)
frame_weight frame = 0

abbrev pub weight : Sent → ℕ
weight (slots.Frame frame) = frame_weight frame
weight sent = 0

abbrev pub arrived_weight : Arrived → ℕ
arrived_weight (arrivals.Frame frame) = frame_weight frame
arrived_weight arrived = 0

-- the RNR frames
abbrev pub frame_rnrs : Frame → ℕ
frame_rnrs (Rnr command nr pf) = 1
frame_rnrs frame = 0

abbrev pub rnrs : Sent → ℕ
rnrs (slots.Frame frame) = frame_rnrs frame
rnrs sent = 0

abbrev pub arrived_rnrs : Arrived → ℕ
arrived_rnrs (arrivals.Frame frame) = frame_rnrs frame
arrived_rnrs arrived = 0
