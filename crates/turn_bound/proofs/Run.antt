-- Runs of a link with what is on its lines, which are queues here: the form in which the bound is proved.
use Rattle.turn_bound.proofs.Names.{Arrived, hear, Said, speak, Slot, arrives, Originator, Answerer, Setup, User, is_released, is_closed}
use Rattle.turn_bound.proofs.Names.{has_finished, busy_left, busy_turns}
use Rattle.link_account.proofs.Names.{next_expected, Account, fresh}
use Rattle.link_run.proofs.Names.{served}
use Rattle.std.specs.Prelude.{◌≡◌, ℕ, Bool, false, if◌then◌else◌, ◌&&◌, nat_lt, List, [], ◌∷◌, ◌++◌, length, Ok, ◌+◌, ◌*◌, ◌≤◌, cond, ◌||◌}
use Rattle.lapm_frames.specs.declared.arrived.Arrived.TheVariants as arrivals
use Rattle.turn_bound.proofs.Value.{Rates, rates, value, lives, IsOf, dues, weight, rnrs}
use Rattle.turn_bound.specs.Together.{Together}

-- an end as a run begins, with its user, and the delay of what it sends
pub record Party : Type 0 where
  pub setup : Setup
  pub user : User
  pub delay : ℕ

pub record Link : Type 0 where
  pub orig : Party
  pub answ : Party

-- the two accounts, and what each end sent that hasn't arrived, the oldest first
pub record State : Type 0 where
  pub orig : Account
  pub answ : Account
  pub forward : List Slot
  pub back : List Slot

abbrev pub start : Link → State
start link = record { orig = fresh link.orig.setup; answ = fresh link.answ.setup; forward = []; back = [] }

-- whether what was to arrive at an end in a turn is lost
pub record Turn : Type 0 where
  pub orig_loses : Bool
  pub answ_loses : Bool

-- what arrives of a line with that delay: the slot that was sent so many turns ago
abbrev pub arrival : ℕ → Bool → List Slot → Arrived
arrival delay loses [] = arrivals.Nothing
arrival delay loses (slot ∷ rest) =
    if nat_lt (length (slot ∷ rest)) delay then arrivals.Nothing else if loses then arrivals.Nothing else arrives slot.sent

-- and what is left on it
abbrev pub left_on : ℕ → List Slot → List Slot
left_on delay [] = []
left_on delay (slot ∷ rest) = if nat_lt (length (slot ∷ rest)) delay then slot ∷ rest else rest

-- an end when it is to speak, once it has heard
abbrev pub served_account : User → ℕ → Bool → Account → Account
served_account user turn released a = (served user turn released a).account

-- an account once it has spoken, as a slot on its line
abbrev pub slot_of : Said → Account → Slot
slot_of said a = record { sent = said.sent; number = said.number; told = next_expected a.incoming }

-- a turn after which the run goes on
pub record GoingTurn (link : Link) (turn : ℕ) (before : State) (t : Turn) (after : State) : Type 0 where
  pub orig_mid : Account
  pub answ_mid : Account
  pub orig_hears : hear turn (arrival link.answ.delay t.orig_loses before.back) before.orig ≡ Ok orig_mid
  pub answ_hears : hear turn (arrival link.orig.delay t.answ_loses before.forward) before.answ ≡ Ok answ_mid
  pub going : is_closed orig_mid.phase ≡ false
  pub orig_said : Said
  pub answ_said : Said
  pub orig_says : speak turn
      (has_finished link.orig.user turn
      (served_account link.orig.user turn (is_released orig_mid.phase) orig_mid) && has_finished link.answ.user turn
      (served_account link.answ.user turn (is_released orig_mid.phase) answ_mid))
      (served_account link.orig.user turn (is_released orig_mid.phase) orig_mid) ≡ Ok orig_said
  pub answ_says : speak turn false (served_account link.answ.user turn (is_released orig_mid.phase) answ_mid) ≡ Ok answ_said
  pub orig_after : after.orig ≡ orig_said.account
  pub answ_after : after.answ ≡ answ_said.account
  pub forward_after : after.forward ≡ left_on link.orig.delay before.forward
      ++ slot_of orig_said (served_account link.orig.user turn (is_released orig_mid.phase) orig_mid) ∷ []
  pub back_after : after.back ≡ left_on link.answ.delay before.back
      ++ slot_of answ_said (served_account link.answ.user turn (is_released orig_mid.phase) answ_mid) ∷ []

-- turns after which a run goes on, the newest first, and the state after them
abbrev pub RunOf : Link → List Turn → State → Type 0
RunOf link [] state = state ≡ start link
RunOf link (t ∷ ts) state = (before : State) × RunOf link ts before × GoingTurn link (length ts) before t state

-- The potential of a run, and the bound on its turns.
abbrev pub weights : List Slot → ℕ
weights [] = 0
weights (slot ∷ rest) = weight slot.sent + weights rest

abbrev pub rnrs_on : List Slot → ℕ
rnrs_on [] = 0
rnrs_on (slot ∷ rest) = rnrs slot.sent + rnrs_on rest

-- how many segments each end is offered in all
pub record Totals : Type 0 where
  pub orig : ℕ
  pub answ : ℕ

abbrev pub is_alive : ℕ → State → Bool
is_alive turn s = lives turn Originator s.orig.phase s.orig || lives turn Answerer s.answ.phase s.answ

-- what is left of a standstill: all of it while an end lives, and else what is due and what is on the lines
abbrev pub stall : Rates → Totals → ℕ → State → ℕ
stall z totals turn s =
    cond (is_alive turn s) z.room (weights s.forward + weights s.back + dues totals.orig s.orig + dues totals.answ s.answ)

-- It falls in every turn after which the run goes on.
abbrev pub potential : Rates → Link → Totals → ℕ → State → ℕ
potential z link totals turn s =
    value z totals.orig (length link.orig.user.breaks) turn Originator s.orig.phase s.orig
    + value z totals.answ (length link.answ.user.breaks) turn Answerer s.answ.phase s.answ
    + stall z totals turn s
    + z.quota * (rnrs_on s.forward + rnrs_on s.back + 2 * (busy_left turn link.orig.user.busy + busy_left turn link.answ.user.busy))

-- the tries and the period are those of both ends, and the period leaves room for what is on the lines
pub record Keeps (tries period : ℕ) (link : Link) : Type 0 where
  pub originates : link.orig.setup.role ≡ Originator
  pub answers : link.answ.setup.role ≡ Answerer
  pub orig : IsOf (rates tries period) link.orig.setup
  pub answ : IsOf (rates tries period) link.answ.setup
  pub some_tries : 1 ≤ tries
  pub orig_delay : 1 ≤ link.orig.delay
  pub answ_delay : 1 ≤ link.answ.delay
  pub period_is : period ≡ 2 * (link.orig.delay + link.answ.delay) + 16

abbrev pub AreTogether : State → Type 0
AreTogether s = Together (record { orig = s.orig; answ = s.answ })

abbrev pub most_turns : ℕ → ℕ → Link → State → ℕ
most_turns tries period link s =
    2 * (tries + 2) * period
    * (length s.orig.outgoing.pieces + length s.answ.outgoing.pieces + (length link.orig.user.breaks + length link.answ.user.breaks)
    + 2 * (busy_turns link.orig.user.busy + busy_turns link.answ.user.busy) + 6)
