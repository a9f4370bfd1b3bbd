-- Whole runs of two ends over a line with delays, computed: each turn's events by the order of a turn, and a line for each end
-- and turn. A run is a play whose events are picked turn by turn.
use Rattle.std.specs.Prelude.{ℕ, zero, suc, ◌+◌, ◌-◌, Bool, true, false, not, if◌then◌else◌, ◌&&◌, ◌||◌, nat_lt, nat_le, List, [], ◌∷◌, ◌++◌, length, Option, Some, None}
use Rattle.std.specs.Prelude.{is_some}
use Rattle.shared_terms.specs.declared.role.Role.{Role}
use Rattle.shared_terms.specs.declared.role.Role.TheVariants.{Originator, Answerer}
use Rattle.shared_terms.specs.Role.{other}
use Rattle.lapm_frames.specs.declared.frame.Frame.{Frame}
use Rattle.lapm_frames.specs.declared.frame.Frame.TheVariants.{I, Xid}
use Rattle.link_account.specs.declared.phase.Phase.{Phase}
use Rattle.link_account.specs.declared.phase.Phase.TheVariants.{Detecting, Negotiating, Establishing, Connected, Releasing, Closed}
use Rattle.lapm_frames.specs.declared.sent.Sent.{Sent}
use Rattle.lapm_frames.specs.declared.sent.Sent.TheVariants as slots
use Rattle.link_account.specs.Account.{wants, is_done, takes_own, break_waits, given_break}
use Rattle.link_account.specs.Play.{Slot, Side, Play, Event, Speaks, Passes, Is_lost, Hears_nothing, Is_offered, Is_asked, Delivers, Gives_break, Is_busy, happens, play}
use Rattle.link_run.specs.End.{is_released}

-- a break that is to be asked from this turn on
pub record Break : Type 0 where
  pub turn : ℕ
  pub length_octet : ℕ

-- some turns: those in which what is sent is lost, or in which the user asks for a pause
pub record Turns : Type 0 where
  pub from : ℕ
  pub count : ℕ

-- an end's part of a run's setting: the delay of what it sends, the turns in which that is lost and in which it is busy, its file in pieces, its
-- breaks
pub record User : Type 0 where
  pub delay : ℕ
  pub losses : List Turns
  pub busy : List Turns
  pub pieces : List (List ℕ)
  pub breaks : List Break

-- one line of a trace, the information of I and XID frames as its length
pub record Row : Type 0 where
  pub arrived : Option Sent
  pub lost : Bool
  pub sent : Option Sent
  pub given : Option ℕ

-- a run: its play, what is left of each end's file and breaks, whether it is done, and the lines so far, the originator's first
pub record World : Type 0 where
  pub play : Play
  pub originator : User
  pub answerer : User
  pub done : Bool
  pub rows : List Row

-- what a line shows of a frame
abbrev pub shown_frame : Frame → Frame
shown_frame (I ns nr pf info) = I ns nr pf (length info ∷ [])
shown_frame (Xid command pf info) = Xid command pf (length info ∷ [])
shown_frame frame = frame

abbrev pub shown : Sent → Sent
shown (slots.Frame frame) = slots.Frame (shown_frame frame)
shown slots.Mark = slots.Mark
shown slots.Odp = slots.Odp
shown slots.Adp = slots.Adp
shown slots.Flags = slots.Flags

-- by role
abbrev pub side : Role → Play → Side
side Originator p = p.originator
side Answerer p = p.answerer

abbrev pub user : Role → World → User
user Originator w = w.originator
user Answerer w = w.answerer

abbrev pub with_user : Role → User → World → World
with_user Originator u w = record w { originator = u }
with_user Answerer u w = record w { answerer = u }

abbrev pub is_among : ℕ → List Turns → Bool
is_among turn [] = false
is_among turn (some ∷ others) = (nat_le some.from turn && nat_lt turn (some.from + some.count)) || is_among turn others

abbrev pub loses : User → ℕ → Bool
loses u turn = is_among turn u.losses

-- what arrives at the other end of this role in this turn
abbrev pub arrival : ℕ → Role → List Slot → User → List Event
arrival turn role [] u = Hears_nothing (other role) turn ∷ []
arrival turn role (slot ∷ rest) u =
    if nat_lt turn u.delay then Hears_nothing (other role) turn ∷ []
    else if loses u (turn - u.delay) then Is_lost role ∷ Hears_nothing (other role) turn ∷ [] else Passes role turn ∷ []

abbrev pub nothing_shown : Sent → Option Sent
nothing_shown slots.Mark = None
nothing_shown slots.Flags = None
nothing_shown slots.Odp = Some slots.Odp
nothing_shown slots.Adp = Some slots.Adp
nothing_shown (slots.Frame frame) = Some (slots.Frame (shown_frame frame))

-- what arrives in this turn, as a line shows it, and whether it is lost
abbrev pub arrived : ℕ → List Slot → User → Option Sent
arrived turn [] u = None
arrived turn (slot ∷ rest) u = if nat_lt turn u.delay then None else nothing_shown slot.sent

abbrev pub arrived_lost : ℕ → List Slot → User → Bool
arrived_lost turn line u = is_some (arrived turn line u) && loses u (turn - u.delay)

-- pieces are offered while they are wanted
pub record Offering : Type 0 where
  pub play : Play
  pub left : List (List ℕ)

abbrev pub offer_piece : Bool → Role → List ℕ → Offering → Offering
offer_piece false role piece o = record o { left = o.left ++ piece ∷ [] }
offer_piece true role piece o = record o { play = happens (Is_offered role piece) o.play }

abbrev pub offers : Role → List (List ℕ) → Offering → Offering
offers role [] o = o
offers role (piece ∷ pieces) o = offers role pieces (offer_piece (is_some (wants (side role o.play).account)) role piece o)

abbrev pub offered_to : Role → World → World
offered_to role w =
    let o = offers role (user role w).pieces (record { play = w.play; left = [] }) in
    with_user role (record (user role w) { pieces = o.left }) (record w { play = o.play })

-- both ends are told whether they are busy
abbrev pub is_told_busy : ℕ → World → World
is_told_busy turn w = record w { play = play (Is_busy Originator (is_among turn w.originator.busy) ∷ Is_busy Answerer (is_among turn w.answerer.busy) ∷ []) w.play }

-- the first break that is ready is asked, and none once the originator was told to release
abbrev pub asks_break : ℕ → Role → List Break → World → World
asks_break turn role [] w = w
asks_break turn role (b ∷ bs) w =
    if not (is_released w.play.originator.account.phase) && (nat_le b.turn turn && takes_own turn (side role w.play).account)
    then with_user role (record (user role w) { breaks = bs }) (record w { play = happens (Is_asked role turn b.length_octet) w.play })
    else w

abbrev pub no_break_ready : ℕ → List Break → Bool
no_break_ready turn [] = true
no_break_ready turn (b ∷ bs) = nat_lt turn b.turn

-- the originator is told to release once both files are whole and no break waits or is ready
abbrev pub releases : ℕ → World → Bool
releases turn w =
    let o = w.play.originator.account in let a = w.play.answerer.account in
    is_done o && (is_done a && (not (break_waits o || break_waits a) && (no_break_ready turn w.originator.breaks && no_break_ready turn w.answerer.breaks)))

abbrev pub is_closed : Phase → Bool
is_closed Closed = true
is_closed Detecting = false
is_closed Negotiating = false
is_closed Establishing = false
is_closed Connected = false
is_closed Releasing = false

abbrev pub last_sent : List Slot → Option Sent
last_sent [] = None
last_sent (slot ∷ []) = Some (shown slot.sent)
last_sent (slot ∷ next ∷ rest) = last_sent (next ∷ rest)

-- the rest of a turn, once both ends have heard: where the originator is closed, the run is done and nothing more is sent
abbrev pub spoken_in : ℕ → Bool → World → Option Sent → Bool → Option Sent → Bool → World
spoken_in turn true w at_o lost_o at_a lost_a =
    record w { done = true; rows = w.rows ++ (record { arrived = at_o; lost = lost_o; sent = None; given = None }) ∷ (record { arrived = at_a; lost = lost_a; sent = None; given = None }) ∷ [] }
spoken_in turn false w at_o lost_o at_a lost_a =
    let given_o = given_break w.play.originator.account in
    let given_a = given_break w.play.answerer.account in
    let w1 = record w { play = play (Delivers Originator ∷ Delivers Answerer ∷ Gives_break Originator ∷ Gives_break Answerer ∷ []) w.play } in
    let w2 = is_told_busy turn (offered_to Answerer (offered_to Originator w1)) in
    let w3 = asks_break turn Answerer w2.answerer.breaks (asks_break turn Originator w2.originator.breaks w2) in
    let p = play (Speaks Originator turn (releases turn w3) ∷ Speaks Answerer turn false ∷ []) w3.play in
    record w3 {
      play = p;
      rows = w3.rows
          ++ (record { arrived = at_o; lost = lost_o; sent = last_sent p.originator.line; given = given_o })
          ∷ (record { arrived = at_a; lost = lost_a; sent = last_sent p.answerer.line; given = given_a }) ∷ [];
    }

-- one turn
abbrev pub turn_of : Bool → ℕ → World → World
turn_of true turn w = w
turn_of false turn w =
    let line_o = w.play.originator.line in let line_a = w.play.answerer.line in
    let p = play (arrival turn Originator line_o w.originator) (play (arrival turn Answerer line_a w.answerer) w.play) in
    spoken_in turn (is_closed p.originator.account.phase) (record w { play = p })
    (arrived turn line_a w.answerer) (arrived_lost turn line_a w.answerer)
    (arrived turn line_o w.originator) (arrived_lost turn line_o w.originator)

-- so many turns from this one on
abbrev pub turns : ℕ → ℕ → World → World
turns zero turn w = w
turns (suc more) turn w = turns more (turn + 1) (turn_of w.done turn w)
