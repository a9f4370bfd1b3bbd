-- What both ends hear in a turn, and are then.
use Rattle.line_world.proofs.Cited.{◌≡◌, ◌≢◌, ℕ, ◌<◌, ◌≤◌, ◌+◌, ◌^◌, true, false, is_ok, List, [], length, arith, sym, subst, Option, None}
use Rattle.line_world.proofs.Cited.{Check, Heard, Chance, SamplesAreCarried, OneIsCarried, Wire, HeardIn, IsHeardOf, LineRun, EndsLine}
use Rattle.line_world.proofs.Cited.{wire_at, link_of, ScriptsMayPlay, ScriptsHaveDelays, NoLineRunIsLong, Carried, end_of, ArrivesBoth}
use Rattle.line_world.proofs.Cited.{HaveArrived, LinkStands, AreIdle, AreCounted, HearsWell, Overhears, TalliesHeard, turn_in, AreKept}
use Rattle.line_world.proofs.Cited.{AreReady, ModemsAfter, Tallies, LineEnd, Lines, Modems, Counts, check_of, hear, lost_in, Accounts}
use Rattle.line_world.proofs.Cited.{Spoken, Turn, arrival, start, ScriptValue, IsInLimits, delay_of, Both, of, other, Role, Originator}
use Rattle.line_world.proofs.Cited.{Answerer, file_limit}
use Rattle.link_run.specs.Laws.{RunsOver, HearingsAreWell}
use Rattle.line_run.specs.Sampled.{EndsLineBy}
use Rattle.line_world.specs.Link.{HearsBoth}
use Rattle.line_world.specs.Mid.{HasHeard}

pub few-turns : NoLineRunIsLong → (m : Modems) (script : ScriptValue) (l : Lines) → AreReady m script l → m.turn < 2 ^ 39
few-turns law m script l h = subst (λ n. n < 2 ^ 39) (sym h.after.turn)
    (law (wire_at script m.dlci h.beside) h.files h.turns h.ends h.limits within h.after.run)
  where
    within : (role : Role) → length (of role h.files) ≤ file_limit
    within role = grind (arith)

pub early-turns : NoLineRunIsLong → (m : Modems) (script : ScriptValue) (l : Lines) → AreReady m script l → m.turn < 2 ^ 40
early-turns law m script l h = let few = few-turns law m script l h in omega (arith, few)

-- what the laws of runs and of the line say of a turn that is heard
pub record HearingLaws : Type 0 where
  pub play : ScriptsMayPlay
  pub delays : ScriptsHaveDelays
  pub carried : SamplesAreCarried
  pub one : OneIsCarried
  pub well : HearingsAreWell

pub runs-over : ScriptsMayPlay → ScriptsHaveDelays → SamplesAreCarried
    → (c : Wire) (files : Both (List ℕ)) (ts : List Turn) (ends : Accounts) → IsInLimits c.script
    → LineRun c (link_of c.script files) ts ends → RunsOver (link_of c.script files) (delay_of c.script) ts ends
runs-over play delays carried c files ts ends limits run = grind (arith)

pub heard-in : (c : Wire) (files : Both (List ℕ)) (ts : List Turn) (ends : Accounts) (heard : Both Heard) (mid : Accounts)
    (sent : Both (Option Spoken)) → Overhears c files ts ends heard mid → HeardIn c ts (turn_in heard ends mid sent)
heard-in c files ts ends heard mid sent o Originator = record { heard_of = o.heard_of Originator; well = o.well Originator }
heard-in c files ts ends heard mid sent o Answerer = record { heard_of = o.heard_of Answerer; well = o.well Answerer }

abbrev pub none-sent : Both (Option Spoken)
none-sent = record { orig = None; answ = None }

-- What arrives by the checks that both ends have.
pub record IsHeardBy (c : Wire) (ts : List Turn) (ends : Accounts) (heard : Both Heard) : Type 0 where
  pub heard_of : (role : Role) → IsHeardOf c (other role) ts (check_of (of role ends)) (of role heard)
  pub well : (role : Role) → of role heard ≢ Chance

pub heard-by : (l : Lines) (c : Wire) (links : ℕ) (streams : Both (List Carried)) (ts : List Turn) (ends : Accounts) (heard : Both Heard)
    (checks : Both Check) → ((role : Role) → of role checks ≡ check_of (of role ends))
    → ArrivesBoth (HaveArrived l c links streams) c ts checks heard → IsHeardBy c ts ends heard
heard-by l c links streams ts ends heard checks same a = grind (arith)

-- what arrives of own slots breaks no end
pub hears-well : HearingLaws → (c : Wire) (files : Both (List ℕ)) (ts : List Turn) (ends : Accounts) (heard : Both Heard)
    → IsInLimits c.script → LineRun c (link_of c.script files) ts ends → IsHeardBy c ts ends heard
    → HearsWell ends (length ts) (arrival heard.orig) (arrival heard.answ)
hears-well laws c files ts ends heard limits run h = record { orig = well Originator; answ = well Answerer }
  where
    t : Turn
    t = turn_in heard ends ends none-sent

    in-turn : HeardIn c ts t
    in-turn Originator = record { heard_of = h.heard_of Originator; well = h.well Originator }
    in-turn Answerer = record { heard_of = h.heard_of Answerer; well = h.well Answerer }

    well : (role : Role) → is_ok (hear (length ts) (arrival (of role t).heard) (of role ends)) ≡ true
    well = grind (arith, t, runs-over, in-turn)

pub record Hearing (m : Modems) (files : Both (List ℕ)) (ends : Accounts) (heard : Both Heard) (turn : ℕ) : Type 0 where
  pub hears : HearsBoth m.link files ends turn (arrival heard.orig) (arrival heard.answ)
  pub checks : (role : Role) → of role m.heard_by ≡ check_of (of role hears.mid)

pub has-heard : (old m : Modems) (l : Lines) (c : Wire) (links : ℕ) (streams : Both (List Carried)) (files : Both (List ℕ)) (ts : List Turn)
    (ends : Accounts) (heard : Both Heard)
    → ModemsAfter old c files ts ends → m.turn ≡ old.turn → IsHeardBy c ts ends heard → HaveArrived l c links streams
    → Hearing m files ends heard old.turn → TalliesHeard m.tally ts ends heard → HasHeard m l c links streams files ts ends heard
has-heard old m l c links streams files ts ends heard h number a arrived hearing tally = grind (arith)

pub tallies-heard : (old new : Counts) (ts : List Turn) (ends : Accounts) (heard : Both Heard) → Tallies old ts ends
    → new ≡ record old { lost = old.lost + lost_in heard.orig + lost_in heard.answ } → TalliesHeard new ts ends heard
tallies-heard old new ts ends heard h e = grind (arith)

-- the line ends the run
pub lost-so : (c : Wire) (ts : List Turn) (ends : Accounts) (checks : Both Check) (end : LineEnd)
    → ((role : Role) → of role checks ≡ check_of (of role ends))
    → EndsLineBy c ts (λ role. of role checks) (end_of end) → EndsLine c ts ends (end_of end)
lost-so c ts ends checks end same h = subst (λ f. EndsLineBy c ts f (end_of end)) (λ k role. same role k) h

-- ---- before the first turn

abbrev pub nothing-counted : Counts
nothing-counted = record { lost = 0; again = 0; orig = 0; answ = 0 }

pub begins : (m : Modems) (c : Wire) (script : ScriptValue) (files : Both (List ℕ)) → c.script ≡ script
    → LinkStands m.link files (start (link_of script files)) → m.turn ≡ 0 → m.tally ≡ nothing-counted → m.spoke ≡ false
    → ModemsAfter m c files [] (start (link_of script files))
begins m c script files is link turn tally spoke = grind (arith)

pub kept-first : (m : Modems) → m.dlci < 64 → AreIdle m.link → AreCounted m.link 0 0 → m.turn ≡ 0 → m.tally ≡ nothing-counted → AreKept m
kept-first m channel idle counted turn tally = grind (arith)
