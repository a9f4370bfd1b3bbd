-- What is lost before an end gives up that waits for no break's answer, in whatever phase.
use Rattle.std.specs.Prelude.{◌≡◌, ℕ, ◌+◌, Bool, false, List, [], ◌∷◌, length}
use Rattle.shared_terms.specs.declared.role.Role.{Role}
use Rattle.shared_terms.specs.declared.role.Role.TheVariants.{Originator, Answerer}
use Rattle.shared_terms.specs.Both.{of}
use Rattle.break_signals.specs.Breaks.{waits}
use Rattle.shared_terms.specs.declared.fault.LinkFault.{LinkFault}
use Rattle.shared_terms.specs.declared.fault.LinkFault.TheVariants.{Spent}
use Rattle.link_account.specs.Account.{is_connected, break_waits}
use Rattle.link_run.specs.Run.{Link, Accounts, Turn, BrokenTurn, served_at}
use Rattle.link_run.specs.Carried.{Carries}
use Rattle.link_run.specs.Laws.{RunsOver}
use Rattle.link_run.specs.Starved.{IsStarved}
use Rattle.turn_bound.specs.Time.{KeepsTime}
use Rattle.turn_losses.specs.Losses.{LosesEach}

-- Where an originator spends the tries of its XID, its SABME or its DISC, something was lost in each of the latest periods, one more than
-- it has tries: the run was starved.
abbrev pub OriginatorWantsFrame : Type 0
OriginatorWantsFrame = (tries period : ℕ) (delay : Role → ℕ) (link : Link) (ts : List Turn) (before : Accounts) (t : Turn) (mid : Accounts)
    (segment since : ℕ)
    → KeepsTime tries period delay link → RunsOver link delay ts before → Carries delay ts t
    → BrokenTurn link ts before t mid Originator (Spent segment since)
    → is_connected mid.orig.phase ≡ false
    → LosesEach period (tries + 1) (length ts) ts × IsStarved tries period delay (t ∷ ts)

-- Where an answerer that waits for no break's answer gives up, something was lost in each of the latest periods, as many as it has
-- tries, whether or not the originator was told to release by then: its DISC may be lost in the last turn itself.
abbrev pub AnswererWantsAnswer : Type 0
AnswererWantsAnswer = (tries period : ℕ) (delay : Role → ℕ) (link : Link) (ts : List Turn) (before : Accounts) (t : Turn) (mid : Accounts)
    (segment since : ℕ)
    → KeepsTime tries period delay link → RunsOver link delay ts before → Carries delay ts t
    → BrokenTurn link ts before t mid Answerer (Spent segment since)
    → waits (served_at link (length ts) mid Answerer).account.own_breaks ≡ false
    → LosesEach period tries (length ts) (t ∷ ts) × IsStarved tries period delay (t ∷ ts)

-- So where no break waits at an end that gives up, whatever it is, something was lost in each of the latest periods: as many as it has
-- tries, and one more where the end isn't Connected. The run was starved.
pub record IsForLosses (tries period : ℕ) (delay : Role → ℕ) (ts : List Turn) (t : Turn) (connected : Bool) : Type 0 where
  pub each : LosesEach period tries (length ts) (t ∷ ts)
  pub all : connected ≡ false → LosesEach period (tries + 1) (length ts) (t ∷ ts)
  pub starved : IsStarved tries period delay (t ∷ ts)

abbrev pub GivesUpForLosses : Type 0
GivesUpForLosses = (tries period : ℕ) (delay : Role → ℕ) (link : Link) (ts : List Turn) (before : Accounts) (t : Turn) (mid : Accounts)
    (role : Role)
    (fault : LinkFault)
    → KeepsTime tries period delay link → RunsOver link delay ts before → Carries delay ts t
    → BrokenTurn link ts before t mid role fault
    → break_waits (served_at link (length ts) mid role).account ≡ false
    → IsForLosses tries period delay ts t (is_connected (of role mid).phase)

-- And so it is with each end whose user asks for no break.
abbrev pub GivesUpUnbroken : Type 0
GivesUpUnbroken = (tries period : ℕ) (delay : Role → ℕ) (link : Link) (ts : List Turn) (before : Accounts) (t : Turn) (mid : Accounts) (role : Role)
    (fault : LinkFault)
    → KeepsTime tries period delay link → (of role link).user.breaks ≡ [] → RunsOver link delay ts before → Carries delay ts t
    → BrokenTurn link ts before t mid role fault
    → IsForLosses tries period delay ts t (is_connected (of role mid).phase)
