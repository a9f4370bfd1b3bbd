-- Runs that are computed, over a line that loses what it is told to lose.
use Rattle.std.specs.Prelude.{ℕ, zero, suc, ◌-◌, Bool, true, false, if◌then◌else◌, List, [], ◌∷◌, length, Option, Some, None, Result, Ok, Err}
use Rattle.shared_terms.specs.declared.role.Role.{Role}
use Rattle.shared_terms.specs.declared.role.Role.TheVariants.{Originator, Answerer}
use Rattle.shared_terms.specs.Role.{other}
use Rattle.lapm_frames.specs.declared.heard.Heard.{Heard}
use Rattle.lapm_frames.specs.declared.heard.Heard.TheVariants.{Nothing, Passed, Lost}
use Rattle.shared_terms.specs.declared.fault.LinkFault.{LinkFault}
use Rattle.link_account.specs.Account.{Account, given_break, check_of}
use Rattle.link_account.specs.Hear.{hear}
use Rattle.link_account.specs.Speak.{Said}
use Rattle.link_run.specs.End.{is_closed}
use Rattle.link_run.specs.Run.{Link, Accounts, Spoken, Side, Turn, start, arrival, spoken, said_at, RunOf}
use Rattle.link_run.specs.Carried.{sent_ago, has_message, Carries, IsCarried}
use Rattle.link_run.specs.Outcomes.{Outcome, Done, Broken, TurnIs}

-- what a line does
pub record Way : Type 0 where
  pub delay : Role → ℕ
  pub loses : Role → ℕ → Bool  -- the slot that a role sent in that turn

-- what is heard of a slot that is lost or not
abbrev pub crossing : Bool → Option Spoken → Heard
crossing lost None = Nothing
crossing lost (Some slot) = if has_message slot.sent then (if lost then Lost slot.sent else Passed slot.sent) else Nothing

-- what a role hears in the turn after these
abbrev pub heard_by : Way → List Turn → Role → Heard
heard_by way ts role = crossing (way.loses (other role) (length ts - way.delay (other role))) (sent_ago (way.delay (other role)) (other role) ts)

-- a turn after which the run goes on, and the ends then; the last turn, the ends that have heard, and how it ends; or a fault of the hearing
pub data Next : Type 0 where
  Goes : Turn → Accounts → Next
  Ends_run : Turn → Accounts → Outcome → Next
  Stops : Next

-- an end in a turn
abbrev pub side_with : Account → Account → Heard → Option Spoken → Side
side_with before mid heard sent = record { heard = heard; check = check_of before; sent = sent; given = given_break mid }

-- both ends in a turn
abbrev pub turn_with : Accounts → Accounts → (Role → Heard) → (Role → Option Spoken) → Turn
turn_with before mid heard sent = record {
  orig = side_with before.orig mid.orig (heard Originator) (sent Originator);
  answ = side_with before.answ mid.answ (heard Answerer) (sent Answerer);
}

-- a turn in which nothing is sent
abbrev pub last_with : Accounts → Accounts → (Role → Heard) → Outcome → Next
last_with before mid heard outcome = Ends_run (turn_with before mid heard (λ role. None)) mid outcome

-- what both ends said
abbrev pub both_said : Said → Said → Role → Option Spoken
both_said o a Originator = Some (spoken o)
both_said o a Answerer = Some (spoken a)

-- the turn, by whether the originator is closed and by what both say
abbrev pub speaking : Accounts → Accounts → (Role → Heard) → Bool → Result Said LinkFault → Result Said LinkFault → Next
speaking before mid heard true o a = last_with before mid heard Done
speaking before mid heard false (Err fault) a = last_with before mid heard (Broken Originator fault)
speaking before mid heard false (Ok o) (Err fault) = last_with before mid heard (Broken Answerer fault)
speaking before mid heard false (Ok o) (Ok a) = Goes (turn_with before mid heard (both_said o a)) (record { orig = o.account; answ = a.account })

-- once both have heard
abbrev pub then_speaking : Link → ℕ → Accounts → Accounts → (Role → Heard) → Next
then_speaking link turn before mid heard = speaking before mid heard (is_closed mid.orig.phase) (said_at link turn mid Originator) (said_at link turn mid Answerer)

-- by what both are that hear
abbrev pub hearing : Link → ℕ → Accounts → (Role → Heard) → Result Account LinkFault → Result Account LinkFault → Next
hearing link turn before heard (Ok o) (Ok a) = then_speaking link turn before (record { orig = o; answ = a }) heard
hearing link turn before heard (Ok o) (Err fault) = Stops
hearing link turn before heard (Err fault) a = Stops

-- the turn after these
abbrev pub next : Link → Way → List Turn → Accounts → Next
next link way ts ends =
    hearing link (length ts) ends (heard_by way ts) (hear (length ts) (arrival (heard_by way ts Originator)) ends.orig) (hear (length ts) (arrival (heard_by way ts Answerer)) ends.answ)

-- what was made of a run
pub record Made : Type 0 where
  pub turns : List Turn  -- after which it went on
  pub ends : Accounts  -- after these
  pub last : Option Turn
  pub mid : Accounts  -- as both have heard in the last turn
  pub outcome : Option Outcome

-- no last turn yet
abbrev pub unfinished : List Turn → Accounts → Made
unfinished ts ends = record { turns = ts; ends = ends; last = None; mid = ends; outcome = None }

-- with its last turn
abbrev pub ended : List Turn → Accounts → Turn → Accounts → Outcome → Made
ended ts ends t mid outcome = record { turns = ts; ends = ends; last = Some t; mid = mid; outcome = Some outcome }

-- at most so many turns more, the first of which comes to this
abbrev pub made : ℕ → Link → Way → List Turn → Accounts → Next → Made
made zero link way ts ends n = unfinished ts ends
made (suc more) link way ts ends (Goes t later) = made more link way (t ∷ ts) later (next link way (t ∷ ts) later)
made (suc more) link way ts ends (Ends_run t mid outcome) = ended ts ends t mid outcome
made (suc more) link way ts ends Stops = unfinished ts ends

-- at most so many turns of a run
abbrev pub runs : ℕ → Link → Way → Made
runs count link way = made count link way [] (start link) (next link way [] (start link))

-- all turns that were made, the last one too
abbrev pub with_last : Option Turn → List Turn → List Turn
with_last None ts = ts
with_last (Some t) ts = t ∷ ts

-- of a run
abbrev pub all_turns : Made → List Turn
all_turns m = with_last m.last m.turns

-- the last turn has that outcome, and what is heard in it crosses the line
pub record LastIs (link : Link) (way : Way) (m : Made) (t : Turn) (outcome : Outcome) : Type 0 where
  pub is : TurnIs link m.turns m.ends t m.mid outcome
  pub carries : Carries way.delay m.turns t

-- where there is one
abbrev pub EndsAs : Link → Way → Made → Option Turn → Option Outcome → Type 0
EndsAs link way m (Some t) (Some outcome) = LastIs link way m t outcome
EndsAs link way m last outcome = Unit {0}

-- what was made is a run over a line
pub record IsMade (link : Link) (way : Way) (m : Made) : Type 0 where
  pub run : RunOf link m.turns m.ends
  pub carried : IsCarried way.delay m.turns
  pub last : EndsAs link way m m.last m.outcome
