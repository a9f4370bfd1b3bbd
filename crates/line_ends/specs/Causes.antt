-- Why a script's run over the line of samples ends as it does.
use Rattle.std.specs.Prelude.{◌≡◌, ℕ, ◌+◌, ◌*◌, ◌<◌, false, List, [], ◌∷◌, length}
use Rattle.shared_terms.specs.declared.role.Role.{Role}
use Rattle.shared_terms.specs.Role.{other}
use Rattle.shared_terms.specs.Both.{Both, of}
use Rattle.noise_script.specs.Script.{IsInLimits}
use Rattle.link_account.specs.Account.{break_waits, check_of}
use Rattle.link_run.specs.Run.{Link, Accounts, Turn, served_at}
use Rattle.link_run.specs.Outcomes.{Outcome, TurnIs}
use Rattle.link_run.specs.Counts.{lost_slots}
use Rattle.link_run.specs.Laws.{given_breaks}
use Rattle.turn_losses.specs.Losses.{LosesEach, PassesNoPattern}
use Rattle.line_run.specs.Sampled.{Wire, HeardIn, IsHeardWell, LineRun}
use Rattle.line_run.specs.Scripted.{period_of, link_of}
use Rattle.line_run.specs.Ends.{RunEnd, IsDone, LinkLost, NotDetected, Left, GivesUp, EndsBy, RunsTo, turns_heard, StarvedBy}

-- how many of the latest periods lose something: as many as there are tries, and one more where no pattern is detected; none of a run that
-- ends otherwise
abbrev pub periods_lost : RunEnd → ℕ → ℕ
periods_lost (LinkLost role segment turn) tries = tries
periods_lost (NotDetected turn) tries = tries + 1
periods_lost end tries = 0

-- No break waits at the end whose tries are spent.
abbrev pub WaitsForNoBreak : (c : Wire) (link : Link) (ts : List Turn) (ends : Accounts) (end : RunEnd) (left : Left)
    → EndsBy c link ts ends end left → Type 0
WaitsForNoBreak c link ts ends (LinkLost role segment turn) left e = break_waits (served_at link (length ts) e.1.mid role).account ≡ false
WaitsForNoBreak c link ts ends end left e = Unit {0}

-- A run that ends by a lost link or undetected was starved, whatever the end that gives up waits for.
abbrev pub LostLinksWereStarved : Type 0
LostLinksWereStarved = (c : Wire) (files : Both (List ℕ)) (end : RunEnd) (left : Left) → IsInLimits c.script
    → (r : RunsTo c (link_of c.script files) end left) → GivesUp end
    → StarvedBy c.script (turns_heard c (link_of c.script files) r.turns r.ends end left r.ended)

-- something was lost in each of its latest periods, counted back from the last turn
abbrev pub LosesInPeriods : (c : Wire) (files : Both (List ℕ)) (end : RunEnd) (left : Left) → RunsTo c (link_of c.script files) end left
    → Type 0
LosesInPeriods c files end left r =
    LosesEach (period_of c.script) (periods_lost end c.script.tries) (length r.turns)
    (turns_heard c (link_of c.script files) r.turns r.ends end left r.ended)

-- An originator that saw no pattern gives up in the first turn behind the periods of all its tries, and none of the answerer's patterns
-- passed until then.
abbrev pub GivesUpOnTime : (c : Wire) (link : Link) (ts : List Turn) (ends : Accounts) (end : RunEnd) (left : Left)
    → EndsBy c link ts ends end left → Type 0
GivesUpOnTime c link ts ends (NotDetected turn) left e =
    (turn ≡ (c.script.tries + 1) * period_of c.script) × PassesNoPattern (e.last ∷ ts)
GivesUpOnTime c link ts ends end left e = Unit {0}

-- In a run that is done the breaks that a user was given are those that the other end took of its user, in their order.
abbrev pub GivesEachBreak : (c : Wire) (link : Link) (ts : List Turn) (ends : Accounts) (end : RunEnd) (left : Left)
    → EndsBy c link ts ends end left → Type 0
GivesEachBreak c link ts ends (IsDone turn) left e =
    (role : Role) → given_breaks role (e.last ∷ ts) ≡ (of (other role) e.mid).own_breaks.lengths
GivesEachBreak c link ts ends end left e = Unit {0}

-- What the end of a run says of its turns. An end that gave the link up did so for losses that went on; where no break waited there, in each
-- of its latest periods.
pub record HasCause (c : Wire) (files : Both (List ℕ)) (end : RunEnd) (left : Left)
    (r : RunsTo c (link_of c.script files) end left) : Type 0 where
  pub starved : GivesUp end → StarvedBy c.script (turns_heard c (link_of c.script files) r.turns r.ends end left r.ended)
  pub periods : GivesUp end → WaitsForNoBreak c (link_of c.script files) r.turns r.ends end left r.ended → LosesInPeriods c files end left r
  pub unasked : GivesUp end → c.script.breaks ≡ [] → LosesInPeriods c files end left r
  pub on_time : GivesUpOnTime c (link_of c.script files) r.turns r.ends end left r.ended
  pub breaks : GivesEachBreak c (link_of c.script files) r.turns r.ends end left r.ended

abbrev pub EndsHaveCauses : Type 0
EndsHaveCauses = (c : Wire) (files : Both (List ℕ)) (end : RunEnd) (left : Left) → IsInLimits c.script
    → (r : RunsTo c (link_of c.script files) end left) → HasCause c files end left r

-- So where fewer slots were lost than one for each two tries, no end gave the link up: the run ends by Done, or the line ends it.
abbrev pub FewLossesKeepLinks : Type 0
FewLossesKeepLinks = (c : Wire) (files : Both (List ℕ)) (end : RunEnd) (left : Left) → IsInLimits c.script
    → (r : RunsTo c (link_of c.script files) end left)
    → 2 * lost_slots (turns_heard c (link_of c.script files) r.turns r.ends end left r.ended) < c.script.tries
    → GivesUp end → ⊥

-- What is heard of each other's slots makes a next turn, where it is no chance match: it goes on, is done, or an end gives up.
pub record MadeOver (c : Wire) (files : Both (List ℕ)) (ts : List Turn) (ends : Accounts) : Type 0 where
  pub turn : Turn
  pub mid : Accounts
  pub outcome : Outcome
  pub heard : HeardIn c ts turn
  pub is : TurnIs (link_of c.script files) ts ends turn mid outcome

abbrev pub HeardTurnsAreMade : Type 0
HeardTurnsAreMade = (c : Wire) (files : Both (List ℕ)) (ts : List Turn) (ends : Accounts) → IsInLimits c.script
    → LineRun c (link_of c.script files) ts ends
    → ((role : Role) → IsHeardWell c (other role) ts (check_of (of role ends)))
    → MadeOver c files ts ends
