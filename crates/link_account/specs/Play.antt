-- Plays: two ends and what is on the line both ways, over any list of events. Turn numbers are free, so that a timer may expire
-- at any speaking or at none; whatever is sent may be lost, and nothing overtakes.
use Rattle.std.specs.Prelude.{ℕ, Bool, if◌then◌else◌, ◌&&◌, nat_le, List, [], ◌∷◌, ◌++◌, length, Option, Some, None, Result, Ok, Err}
use Rattle.std.specs.Prelude.{is_some}
use Rattle.shared_terms.specs.declared.role.Role.{Role}
use Rattle.shared_terms.specs.declared.role.Role.TheVariants.{Originator, Answerer}
use Rattle.lapm_receiver.specs.Incoming.{next_expected}
use Rattle.lapm_frames.specs.declared.arrived.Arrived.TheVariants as arrivals
use Rattle.lapm_frames.specs.declared.sent.Sent.{Sent}
pub use Rattle.lapm_frames.specs.Arrivals.{arrives}
use Rattle.shared_terms.specs.declared.fault.LinkFault.{LinkFault}
use Rattle.link_account.specs.Account.{Account, wants, piece_size, after_offer, after_delivery, after_break_asked, after_given, after_busy}
use Rattle.link_account.specs.Hear.{hear}
use Rattle.link_account.specs.Speak.{Said, speak}

-- What is on the line, with what its hearer can't see: its meant number, and the number that its sender expected as it spoke.
pub record Slot : Type 0 where
  pub sent : Sent
  pub number : ℕ
  pub told : ℕ

-- one end, what it has sent that hasn't arrived, the oldest first, and its fault where it has one
pub record Side : Type 0 where
  pub account : Account
  pub line : List Slot
  pub fault : Option LinkFault

pub record Play : Type 0 where
  pub originator : Side
  pub answerer : Side

-- the side of a role is first, the other end's second
pub record Pair : Type 0 where
  pub own : Side
  pub peer : Side

abbrev pub seen_from : Role → Play → Pair
seen_from Originator p = record { own = p.originator; peer = p.answerer }
seen_from Answerer p = record { own = p.answerer; peer = p.originator }

abbrev pub play_of : Role → Pair → Play
play_of Originator q = record { originator = q.own; answerer = q.peer }
play_of Answerer q = record { originator = q.peer; answerer = q.own }

pub data Event : Type 0 where
  Speaks : (role : Role) (turn : ℕ) (release : Bool) → Event
  Passes : (role : Role) (turn : ℕ) → Event  -- what this role sent reaches the other end
  Is_lost : (role : Role) → Event
  Hears_nothing : (role : Role) (turn : ℕ) → Event
  Is_offered : (role : Role) (piece : List ℕ) → Event
  Is_asked : (role : Role) (turn length : ℕ) → Event
  Delivers : (role : Role) → Event
  Gives_break : (role : Role) → Event
  Is_busy : (role : Role) (busy : Bool) → Event  -- the end's user asks for a pause, or no longer

-- a fault ends an end
abbrev pub spoken : Result Said LinkFault → Side → Side
spoken (Err fault) s = record s { fault = Some fault }
spoken (Ok said) s = record {
  account = said.account;
  line = s.line ++ (record { sent = said.sent; number = said.number; told = next_expected s.account.incoming }) ∷ [];
  fault = s.fault;
}

abbrev pub heard : Result Account LinkFault → Side → Side
heard (Err fault) s = record s { fault = Some fault }
heard (Ok a) s = record s { account = a }

abbrev pub passes : ℕ → List Slot → Pair → Pair
passes turn [] q = q
passes turn (slot ∷ rest) q =
    record { own = record q.own { line = rest }; peer = heard (hear turn (arrives slot.sent) q.peer.account) q.peer }

abbrev pub is_lost : List Slot → Pair → Pair
is_lost [] q = q
is_lost (slot ∷ rest) q = record q { own = record q.own { line = rest } }

-- a piece may be offered where one is wanted, up to the agreed length
abbrev pub is_offered : List ℕ → Side → Side
is_offered piece s = if is_some (wants s.account) && nat_le (length piece)
    (piece_size s.account) then record s { account = after_offer piece s.account } else s

abbrev pub at_own : (Side → Side) → Pair → Pair
at_own f q = record q { own = f q.own }

abbrev pub happens_at : Event → Pair → Pair
happens_at (Speaks role turn release) q = at_own (λ s. spoken (speak turn release s.account) s) q
happens_at (Passes role turn) q = passes turn q.own.line q
happens_at (Is_lost role) q = is_lost q.own.line q
happens_at (Hears_nothing role turn) q = at_own (λ s. heard (hear turn arrivals.Nothing s.account) s) q
happens_at (Is_offered role piece) q = at_own (is_offered piece) q
happens_at (Is_asked role turn length_octet) q = at_own (λ s. record s { account = after_break_asked turn length_octet s.account }) q
happens_at (Delivers role) q = at_own (λ s. record s { account = after_delivery s.account }) q
happens_at (Gives_break role) q = at_own (λ s. record s { account = after_given s.account }) q
happens_at (Is_busy role busy) q = at_own (λ s. record s { account = after_busy busy s.account }) q

abbrev pub role_of : Event → Role
role_of (Speaks role turn release) = role
role_of (Passes role turn) = role
role_of (Is_lost role) = role
role_of (Hears_nothing role turn) = role
role_of (Is_offered role piece) = role
role_of (Is_asked role turn length_octet) = role
role_of (Delivers role) = role
role_of (Gives_break role) = role
role_of (Is_busy role busy) = role

-- a fault at either end ends the play
abbrev pub goes_on : Option LinkFault → Option LinkFault → Event → Play → Play
goes_on None None e p = play_of (role_of e) (happens_at e (seen_from (role_of e) p))
goes_on (Some fault) other e p = p
goes_on None (Some fault) e p = p

abbrev pub happens : Event → Play → Play
happens e p = goes_on p.originator.fault p.answerer.fault e p

-- what a play comes to
abbrev pub play : List Event → Play → Play
play [] p = p
play (e ∷ es) p = play es (happens e p)

abbrev pub side_of : Account → Side
side_of a = record { account = a; line = []; fault = None }

-- a play starts with two accounts and nothing on the lines
abbrev pub start : Account → Account → Play
start originator answerer = record { originator = side_of originator; answerer = side_of answerer }
