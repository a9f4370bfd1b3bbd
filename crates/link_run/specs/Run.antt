-- Whole runs of a link in turns: what both ends hear, are and send, over their users' files, breaks and pauses. What the line makes of
-- the slots is said apart: here each turn says what was heard.
use Rattle.std.specs.Prelude.{◌≡◌, ℕ, Bool, true, false, ◌&&◌, is_ok, List, [], ◌∷◌, length, Option, Some, None, Result, Ok, Err}
use Rattle.frame_check.specs.declared.check.Check.{Check}
use Rattle.shared_terms.specs.declared.role.Role.{Role}
use Rattle.shared_terms.specs.declared.role.Role.TheVariants.{Originator, Answerer}
use Rattle.shared_terms.specs.Both.{Both, of}
use Rattle.lapm_frames.specs.declared.sent.Sent.{Sent}
use Rattle.lapm_frames.specs.declared.heard.Heard.{Heard}
pub use Rattle.lapm_frames.specs.Arrivals.{arrival}
use Rattle.shared_terms.specs.declared.fault.LinkFault.{LinkFault}
use Rattle.link_account.specs.declared.setup.Setup.{Setup}
use Rattle.link_account.specs.Account.{Account, fresh, given_break, check_of}
use Rattle.link_account.specs.Hear.{hear}
use Rattle.link_account.specs.Speak.{Said, speak}
use Rattle.link_run.specs.End.{User, Served, served, is_released, is_closed, has_finished}

-- an end as a run begins, with its user
pub record Party : Type 0 where
  pub setup : Setup
  pub user : User

-- the two ends, each with its user
abbrev pub Link : Type 0
Link = Both Party

-- the two ends' accounts
abbrev pub Accounts : Type 0
Accounts = Both Account

-- as a run begins
abbrev pub start : Link → Accounts
start link = record { orig = fresh link.orig.setup; answ = fresh link.answ.setup }

-- a slot that was sent
pub record Spoken : Type 0 where
  pub sent : Sent
  pub number : ℕ  -- the meant number
  pub check : Check  -- of its sender's frames with numbers

-- An end in a turn.
pub record Side : Type 0 where
  pub heard : Heard
  pub check : Check  -- by which it judged the frames with numbers that it heard: the one that it had before it heard
  pub sent : Option Spoken  -- none in the last turn of a run
  pub given : Option ℕ  -- the length of the break that its user was given

-- both ends in a turn
abbrev pub Turn : Type 0
Turn = Both Side

-- An end hears in a turn, and its user is given a break that came.
pub record HearsAt (turn : ℕ) (before : Account) (s : Side) (mid : Account) : Type 0 where
  pub hears : hear turn (arrival s.heard) before ≡ Ok mid
  pub check_is : s.check ≡ check_of before
  pub given_is : s.given ≡ given_break mid

-- In this turn both ends hear.
abbrev pub Hears : ℕ → Accounts → Turn → Accounts → Type 0
Hears turn before t mid = (role : Role) → HearsAt turn (of role before) (of role t) (of role mid)

-- an end with its user, once it has heard
abbrev pub served_at : Link → ℕ → Accounts → Role → Served
served_at link turn mid role = served (of role link).user turn (is_released mid.orig.phase) (of role mid)

-- both ends as they are to speak: each with its user, once both have heard
abbrev pub served_ends : Link → ℕ → Accounts → Accounts
served_ends link turn mid = record { orig = (served_at link turn mid Originator).account; answ = (served_at link turn mid Answerer).account }

-- whether an end that is to speak needs the link no more
abbrev pub finished_at : Link → ℕ → Accounts → Role → Bool
finished_at link turn ends role = has_finished (of role link).user turn (of role ends)

-- the originator is told to release once both ends have finished: the two users hang up together
abbrev pub both_finished : Link → ℕ → Accounts → Bool
both_finished link turn ends = finished_at link turn ends Originator && finished_at link turn ends Answerer

-- what an end says that is to speak; the originator alone is told to release
abbrev pub says_at : Link → ℕ → Accounts → Role → Result Said LinkFault
says_at link turn ends Originator = speak turn (both_finished link turn ends) ends.orig
says_at link turn ends Answerer = speak turn false ends.answ

-- an end breaks that is to speak; where both do, the originator counts
abbrev pub BreaksAt : Link → ℕ → Accounts → Role → LinkFault → Type 0
BreaksAt link turn ends Originator fault = says_at link turn ends Originator ≡ Err fault
BreaksAt link turn ends Answerer fault = (is_ok (says_at link turn ends Originator) ≡ true) × (says_at link turn ends Answerer ≡ Err fault)

-- in a turn in which both have heard: whether the originator is told to release, and what an end says
abbrev pub releases : Link → ℕ → Accounts → Bool
releases link turn mid = both_finished link turn (served_ends link turn mid)

abbrev pub said_at : Link → ℕ → Accounts → Role → Result Said LinkFault
said_at link turn mid role = says_at link turn (served_ends link turn mid) role

-- speaking leaves the check as it is
abbrev pub spoken : Said → Spoken
spoken said = record { sent = said.sent; number = said.number; check = check_of said.account }

-- An end doesn't break, and this is its slot.
pub record SpeaksAt (answer : Result Said LinkFault) (s : Side) (after : Account) : Type 0 where
  pub said : Said
  pub says : answer ≡ Ok said
  pub sent_is : s.sent ≡ Some (spoken said)
  pub after_is : after ≡ said.account

-- Then both ends speak, and neither breaks.
abbrev pub Speaks : Link → ℕ → Accounts → Turn → Accounts → Type 0
Speaks link turn mid t after = (role : Role) → SpeaksAt (said_at link turn mid role) (of role t) (of role after)

-- nothing is sent
abbrev pub IsSilent : Turn → Type 0
IsSilent t = (role : Role) → (of role t).sent ≡ None

-- the end of a role breaks in it
abbrev pub IsBroken : Link → ℕ → Accounts → Role → LinkFault → Type 0
IsBroken link turn mid role fault = BreaksAt link turn (served_ends link turn mid) role fault

-- A turn after which the run goes on.
pub record GoingTurn (link : Link) (ts : List Turn) (before : Accounts) (t : Turn) (after : Accounts) : Type 0 where
  pub mid : Accounts
  pub hearing : Hears (length ts) before t mid
  pub going : is_closed mid.orig.phase ≡ false
  pub speaking : Speaks link (length ts) mid t after

-- A turn in which the run is done: the originator is closed.
pub record LastTurn (ts : List Turn) (before : Accounts) (t : Turn) (mid : Accounts) : Type 0 where
  pub hearing : Hears (length ts) before t mid
  pub done : is_closed mid.orig.phase ≡ true
  pub silent : IsSilent t

-- A turn in which an end breaks.
pub record BrokenTurn (link : Link) (ts : List Turn) (before : Accounts) (t : Turn) (mid : Accounts) (role : Role)
    (fault : LinkFault) : Type 0 where
  pub hearing : Hears (length ts) before t mid
  pub going : is_closed mid.orig.phase ≡ false
  pub broken : IsBroken link (length ts) mid role fault
  pub silent : IsSilent t

-- turns after which a run goes on, the newest first, and the ends after them
abbrev pub RunOf : Link → List Turn → Accounts → Type 0
RunOf link [] ends = ends ≡ start link
RunOf link (t ∷ ts) ends = (before : Accounts) × RunOf link ts before × GoingTurn link ts before t ends
