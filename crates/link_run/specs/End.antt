-- One end of the link with its user, in one turn: it hears what arrived, hands over what it took, is offered pieces of its user's file
-- while it wants them, is told whether its user is busy, is asked for a break, and speaks.
use Rattle.std.specs.Prelude.{ℕ, zero, suc, ◌+◌, ◌-◌, ◌*◌, Bool, true, false, not, if◌then◌else◌, ◌&&◌, ◌||◌, nat_le, nat_lt, max, List, [], ◌∷◌, length, take, drop, Option, Some, None, slice_get, Result}
use Rattle.link_account.specs.declared.phase.Phase.{Phase}
use Rattle.link_account.specs.declared.phase.Phase.TheVariants.{Detecting, Negotiating, Establishing, Connected, Releasing, Closed}
use Rattle.shared_terms.specs.declared.fault.LinkFault.{LinkFault}
use Rattle.link_account.specs.Account.{Account, is_connected, wants, piece_size, after_offer, is_done, after_break_asked, break_waits, given_break, after_given, after_busy}
use Rattle.link_account.specs.Speak.{Said, speak}

-- a break that is to be asked for
pub record BreakLine : Type 0 where
  pub turn : ℕ  -- from this one on
  pub length_octet : ℕ  -- in units of 10 ms

-- turns in which the user is busy
pub record BusyLine : Type 0 where
  pub turn : ℕ  -- the first
  pub count : ℕ

-- what an end's user brings
pub record User : Type 0 where
  pub file : List ℕ
  pub breaks : List BreakLine  -- in the order in which they are asked for
  pub busy : List BusyLine

-- the segments that were taken and aren't delivered, in order
abbrev pub deliveries : Account → List (List ℕ)
deliveries a = if is_connected a.phase then drop a.incoming.given a.incoming.taken else []

-- once they are delivered
abbrev pub delivered : Account → Account
delivered a = if is_connected a.phase then record a { incoming = record a.incoming { given = length a.incoming.taken } } else a

-- a file's segment of that number, where segments have this size
abbrev pub piece_at : ℕ → List ℕ → ℕ → List ℕ
piece_at size file n = take size (drop (size * n) file)

-- the piece of a number is offered, where one is wanted
abbrev pub offered_at : List ℕ → Account → Option ℕ → Account
offered_at file a None = a
offered_at file a (Some n) = after_offer (piece_at (piece_size a) file n) a

-- the next piece is offered where one is wanted, so many times
abbrev pub offered_times : ℕ → List ℕ → Account → Account
offered_times zero file a = a
offered_times (suc more) file a = offered_times more file (offered_at file a (wants a))

-- how many segments the window has room for
abbrev pub room_for : Account → ℕ
room_for a = a.outgoing.front + a.outgoing.window - length a.outgoing.pieces

-- pieces are offered until none is wanted
abbrev pub offered : List ℕ → Account → Account
offered file a = offered_times (room_for a) file a

-- whether a line has the user busy in a turn
abbrev pub is_busy : ℕ → List BusyLine → Bool
is_busy turn [] = false
is_busy turn (l ∷ ls) = (nat_le l.turn turn && nat_lt turn (l.turn + l.count)) || is_busy turn ls

-- the first break that isn't taken
abbrev pub next_break : List BreakLine → Account → Option BreakLine
next_break breaks a = slice_get breaks (length a.own_breaks.lengths)

-- whether it is to be asked for by now
abbrev pub is_ready : ℕ → Option BreakLine → Bool
is_ready turn None = false
is_ready turn (Some b) = nat_le b.turn turn

-- a break is asked for, where there is one and its turn has come
abbrev pub asked_at : ℕ → Option BreakLine → Account → Account
asked_at turn None a = a
asked_at turn (Some b) a = if nat_le b.turn turn then after_break_asked turn b.length_octet a else a

-- the first break that is ready is asked for, unless the originator was told to release before
abbrev pub asked : ℕ → Bool → List BreakLine → Account → Account
asked turn released breaks a = if released then a else asked_at turn (next_break breaks a) a

-- What an end hands to its user once it has heard, and what it is when it is to speak.
pub record Served : Type 0 where
  pub segments : List (List ℕ)  -- delivered in this turn
  pub given : Option ℕ  -- a break of this length, in units of 10 ms
  pub account : Account

-- all that happens to an end between hearing and speaking
abbrev pub served : User → ℕ → Bool → Account → Served
served user turn released a = record {
  segments = deliveries a;
  given = given_break a;
  account = asked turn released user.breaks (after_busy (is_busy turn user.busy) (offered user.file (after_given (delivered a))));
}

-- the originator was told to release
abbrev pub is_released : Phase → Bool
is_released Detecting = false
is_released Negotiating = false
is_released Establishing = false
is_released Connected = false
is_released Releasing = true
is_released Closed = true

-- the end is closed
abbrev pub is_closed : Phase → Bool
is_closed Detecting = false
is_closed Negotiating = false
is_closed Establishing = false
is_closed Connected = false
is_closed Releasing = false
is_closed Closed = true

-- The end needs the link no more: its file is read to its end and wholly acknowledged, and no break waits or is ready.
abbrev pub has_finished : User → ℕ → Account → Bool
has_finished user turn a = is_done a && not (break_waits a || is_ready turn (next_break user.breaks a))

-- what an end alone does in a turn, which is told to release once it has finished: the peer has no say in it
abbrev pub speaks_alone : User → ℕ → Served → Result Said LinkFault
speaks_alone user turn s = speak turn (has_finished user turn s.account) s.account

-- the busy turns that are still to come
abbrev pub busy_left : ℕ → List BusyLine → ℕ
busy_left turn [] = 0
busy_left turn (l ∷ ls) = (l.turn + l.count - max l.turn turn) + busy_left turn ls

-- all that are stated
abbrev pub busy_turns : List BusyLine → ℕ
busy_turns [] = 0
busy_turns (l ∷ ls) = l.count + busy_turns ls
