-- Runs of one end against recorded bits of any peer: what the end hears in each turn is said apart.
use Rattle.std.specs.Prelude.{◌≡◌, ℕ, Bool, true, false, ◌&&◌, List, [], ◌∷◌, ◌++◌, length, map, Option, Some, None, Ok, Err}
use Rattle.shared_terms.specs.Role.{is_originator}
use Rattle.lapm_frames.specs.declared.arrived.Arrived.{Arrived}
use Rattle.shared_terms.specs.declared.fault.LinkFault.{LinkFault}
use Rattle.link_account.specs.Account.{Account, fresh, given_break, after_given}
use Rattle.link_account.specs.Hear.{hear}
use Rattle.link_account.specs.Speak.{Said}
use Rattle.xid_params.specs.Offers.{IsAllowed}
use Rattle.link_run.specs.End.{Served, served, deliveries, delivered, is_closed, speaks_alone}
use Rattle.link_run.specs.Run.{Party, Spoken, spoken}
use Rattle.link_run.specs.Reading.{SameSoFar, with_file}

-- the end in a turn
pub record LoneTurn : Type 0 where
  pub arrived : Arrived
  pub sent : Option Spoken  -- none in the last turn of a run
  pub given : Option ℕ  -- the length of the break that its user was given

-- an originator that is closed has nothing left to do
abbrev pub hangs_up : Account → Bool
hangs_up a = is_originator a.setup.role && is_closed a.phase

-- the end, served once it has heard
abbrev pub lone_served : Party → ℕ → Account → Served
lone_served party turn mid = served party.user turn false mid

-- A turn after which the run goes on.
pub record LoneGoing (party : Party) (ts : List LoneTurn) (before : Account) (t : LoneTurn) (after : Account) : Type 0 where
  pub mid : Account
  pub hears : hear (length ts) t.arrived before ≡ Ok mid
  pub going : hangs_up mid ≡ false
  pub said : Said
  pub says : speaks_alone party.user (length ts) (lone_served party (length ts) mid) ≡ Ok said
  pub sent : t.sent ≡ Some (spoken said)
  pub given : t.given ≡ given_break mid
  pub after_is : after ≡ said.account

-- A turn in which an originator is closed. Nothing is sent.
pub record LoneLast (ts : List LoneTurn) (before : Account) (t : LoneTurn) (mid : Account) : Type 0 where
  pub hears : hear (length ts) t.arrived before ≡ Ok mid
  pub closed : hangs_up mid ≡ true
  pub sent : t.sent ≡ None
  pub given : t.given ≡ given_break mid

-- A turn in which the end breaks as it hears: nothing more is taken in it, nothing is given, and nothing is sent.
pub record LoneFaulty (ts : List LoneTurn) (before : Account) (t : LoneTurn) (fault : LinkFault) : Type 0 where
  pub hears : hear (length ts) t.arrived before ≡ Err fault
  pub sent : t.sent ≡ None
  pub given : t.given ≡ None

-- Or as it speaks.
pub record LoneBroken (party : Party) (ts : List LoneTurn) (before : Account) (t : LoneTurn) (mid : Account)
    (fault : LinkFault) : Type 0 where
  pub hears : hear (length ts) t.arrived before ≡ Ok mid
  pub going : hangs_up mid ≡ false
  pub says : speaks_alone party.user (length ts) (lone_served party (length ts) mid) ≡ Err fault
  pub sent : t.sent ≡ None
  pub given : t.given ≡ given_break mid

-- turns after which the run goes on, the newest first, and the end after them
abbrev pub LoneRun : Party → List LoneTurn → Account → Type 0
LoneRun party [] a = a ≡ fresh party.setup
LoneRun party (t ∷ ts) a = (before : Account) × LoneRun party ts before × LoneGoing party ts before t a

-- What arrives determines the run.
abbrev pub OneLoneRun : Type 0
OneLoneRun = (party : Party) (ts us : List LoneTurn) (a b : Account) → LoneRun party ts a → LoneRun party us b
    → map (λ (t : LoneTurn). t.arrived) ts ≡ map (λ (t : LoneTurn). t.arrived) us → (ts ≡ us) × (a ≡ b)

-- What the end delivers once it has heard is what it took since: it goes behind all that it had taken.
abbrev pub LoneHearingsDeliver : Type 0
LoneHearingsDeliver = (party : Party) (ts : List LoneTurn) (before : Account) (t : LoneTurn) (mid : Account) → LoneRun party ts before
    → hear (length ts) t.arrived before ≡ Ok mid
    → mid.incoming.taken ≡ before.incoming.taken ++ deliveries mid

-- And as it is served and speaks it takes nothing.
abbrev pub LoneSpeakingTakesNothing : Type 0
LoneSpeakingTakesNothing = (party : Party) (ts : List LoneTurn) (before : Account) (t : LoneTurn) (after : Account)
    (g : LoneGoing party ts before t after)
    → after.incoming.taken ≡ g.mid.incoming.taken

-- An end keeps its setup.
abbrev pub LoneRunsKeepTheirSetup : Type 0
LoneRunsKeepTheirSetup = (party : Party) (ts : List LoneTurn) (a : Account) (arrived : Arrived) (mid : Account) → LoneRun party ts a
    → hear (length ts) arrived a ≡ Ok mid → mid.setup ≡ party.setup

-- Whatever arrives, the run goes on, ends as an originator is closed, or ends by a fault of hearing or of speaking.
pub data LoneNext (party : Party) (ts : List LoneTurn) (a : Account) (arrived : Arrived) : Type 0 where
  Goes_on : (sent : Option Spoken) (given : Option ℕ) (after : Account)
      → LoneGoing party ts a (record { arrived = arrived; sent = sent; given = given }) after → LoneNext party ts a arrived
  Is_last : (given : Option ℕ) (mid : Account) → LoneLast ts a (record { arrived = arrived; sent = None; given = given }) mid
      → LoneNext party ts a arrived
  Is_faulty : (fault : LinkFault) → LoneFaulty ts a (record { arrived = arrived; sent = None; given = None }) fault
      → LoneNext party ts a arrived
  Is_broken : (given : Option ℕ) (mid : Account) (fault : LinkFault)
      → LoneBroken party ts a (record { arrived = arrived; sent = None; given = given }) mid fault → LoneNext party ts a arrived

-- So no arrival stops a run without an answer.
abbrev pub EachLoneTurnIsMade : Type 0
EachLoneTurnIsMade = (party : Party) (ts : List LoneTurn) (a : Account) (arrived : Arrived) → LoneNext party ts a arrived

-- The user's file counts as far as it was read: a run is one of any other file that is the same up to there, as it is known in the middle of
-- the next turn.
abbrev pub LoneRunsByWhatIsReadOn : Type 0
LoneRunsByWhatIsReadOn = (party : Party) (file others : List ℕ) (ts : List LoneTurn) (a : Account) (arrived : Arrived) (mid : Account)
    → IsAllowed party.setup.offer
    → LoneRun (with_file file party) ts a → hear (length ts) arrived a ≡ Ok mid
    → SameSoFar (after_given (delivered mid)).outgoing file others
    → LoneRun (with_file others party) ts a
