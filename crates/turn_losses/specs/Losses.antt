-- What is lost before an end gives up.
use Rattle.std.specs.Prelude.{◌≡◌, ◌≢◌, ℕ, ◌+◌, ◌*◌, ◌<◌, ◌≤◌, false, List, [], ◌∷◌, length}
use Rattle.shared_terms.specs.declared.role.Role.{Role}
use Rattle.shared_terms.specs.declared.role.Role.TheVariants.{Originator, Answerer}
use Rattle.lapm_frames.specs.declared.heard.Heard.TheVariants.{Passed}
use Rattle.lapm_frames.specs.declared.sent.Sent.TheVariants.{Adp}
use Rattle.break_signals.specs.Breaks.{waits}
use Rattle.link_account.specs.declared.phase.Phase.TheVariants.{Connected}
use Rattle.shared_terms.specs.declared.fault.LinkFault.TheVariants.{Spent, NotDetected}
use Rattle.link_run.specs.End.{is_released}
use Rattle.link_run.specs.Run.{Link, Accounts, Turn, RunOf, BrokenTurn, served_at}
use Rattle.link_run.specs.Carried.{IsCarried, Carries}
use Rattle.link_run.specs.Laws.{RunsOver}
use Rattle.link_run.specs.Counts.{lost_slots}
use Rattle.link_run.specs.Starved.{IsInSpan, IsStarved, LosesSome, turn_at}
use Rattle.turn_bound.specs.Time.{KeepsTime}

-- In a turn of the period of that number, counted back from the last turn, something was lost.
pub record PeriodLoses (period last : ℕ) (ts : List Turn) (number : ℕ) : Type 0 where
  pub turn : ℕ
  pub within : turn < length ts
  pub in_period : IsInSpan period 0 last number turn
  pub lost : LosesSome (turn_at turn ts)

-- something was lost in each of the latest periods, of so many
abbrev pub LosesEach : (period count last : ℕ) → List Turn → Type 0
LosesEach period count last ts = (number : ℕ) → number < count → PeriodLoses period last ts number

-- Where a Connected originator that waits for no break's answer spends its tries, something was lost in each of the latest periods, as many
-- as it has tries.
abbrev pub OriginatorWantsAnswers : Type 0
OriginatorWantsAnswers = (tries period : ℕ) (delay : Role → ℕ) (link : Link) (ts : List Turn) (before : Accounts) (t : Turn) (mid : Accounts)
    (segment since : ℕ)
    → KeepsTime tries period delay link → RunsOver link delay ts before → Carries delay ts t
    → BrokenTurn link ts before t mid Originator (Spent segment since)
    → mid.orig.phase ≡ Connected → waits (served_at link (length ts) mid Originator).account.own_breaks ≡ false
    → LosesEach period tries (length ts) ts

-- So the run was starved.
abbrev pub OriginatorIsStarved : Type 0
OriginatorIsStarved = (tries period : ℕ) (delay : Role → ℕ) (link : Link) (ts : List Turn) (before : Accounts) (t : Turn) (mid : Accounts)
    (segment since : ℕ)
    → KeepsTime tries period delay link → RunsOver link delay ts before → Carries delay ts t
    → BrokenTurn link ts before t mid Originator (Spent segment since)
    → mid.orig.phase ≡ Connected → waits (served_at link (length ts) mid Originator).account.own_breaks ≡ false
    → IsStarved tries period delay (t ∷ ts)

-- So it is with a Connected answerer, while the originator isn't told to release.
abbrev pub AnswererWantsAnswers : Type 0
AnswererWantsAnswers = (tries period : ℕ) (delay : Role → ℕ) (link : Link) (ts : List Turn) (before : Accounts) (t : Turn) (mid : Accounts)
    (segment since : ℕ)
    → KeepsTime tries period delay link → RunsOver link delay ts before → Carries delay ts t
    → BrokenTurn link ts before t mid Answerer (Spent segment since)
    → mid.answ.phase ≡ Connected → waits (served_at link (length ts) mid Answerer).account.own_breaks ≡ false
    → is_released mid.orig.phase ≡ false
    → LosesEach period tries (length ts) ts × IsStarved tries period delay (t ∷ ts)

-- Where the originator saw no pattern, something was lost in each of the latest periods, one more than there are tries: the run was
-- starved.
abbrev pub OriginatorWantsPattern : Type 0
OriginatorWantsPattern = (tries period : ℕ) (delay : Role → ℕ) (link : Link) (ts : List Turn) (before : Accounts) (t : Turn) (mid : Accounts)
    → KeepsTime tries period delay link → RunOf link ts before → IsCarried delay ts
    → BrokenTurn link ts before t mid Originator NotDetected
    → LosesEach period (tries + 1) (length ts) ts

-- None of the answerer's patterns passed in these turns.
abbrev pub PassesNoPattern : List Turn → Type 0
PassesNoPattern [] = Unit {0}
PassesNoPattern (t ∷ ts) = (t.orig.heard ≢ Passed Adp) × PassesNoPattern ts

-- It gives up in one turn alone, the first one behind the periods of all its tries, and no pattern of the answerer's passed until then.
abbrev pub UndetectedOnTime : Type 0
UndetectedOnTime = (tries period : ℕ) (delay : Role → ℕ) (link : Link) (ts : List Turn) (before : Accounts) (t : Turn) (mid : Accounts)
    → KeepsTime tries period delay link → RunOf link ts before → IsCarried delay ts
    → BrokenTurn link ts before t mid Originator NotDetected
    → (length ts ≡ (tries + 1) * period) × PassesNoPattern (t ∷ ts)

abbrev pub UndetectedIsStarved : Type 0
UndetectedIsStarved = (tries period : ℕ) (delay : Role → ℕ) (link : Link) (ts : List Turn) (before : Accounts) (t : Turn) (mid : Accounts)
    → KeepsTime tries period delay link → RunOf link ts before → IsCarried delay ts
    → BrokenTurn link ts before t mid Originator NotDetected
    → IsStarved tries period delay (t ∷ ts)

-- A starved run lost a slot for each two tries at least: fewer lost slots starve no run,
abbrev pub StarvedLosesMany : Type 0
StarvedLosesMany = (tries period : ℕ) (delay : Role → ℕ) (link : Link) (ts : List Turn)
    → KeepsTime tries period delay link → IsStarved tries period delay ts → tries ≤ 2 * lost_slots ts

-- and where nothing is lost none is starved.
abbrev pub LosslessIsFed : Type 0
LosslessIsFed = (tries period : ℕ) (delay : Role → ℕ) (link : Link) (ts : List Turn)
    → KeepsTime tries period delay link → lost_slots ts ≡ 0 → IsStarved tries period delay ts → ⊥
