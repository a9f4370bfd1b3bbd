-- Runs of scripts whose noise is faint are done.
use Rattle.std.proofs.Common.{◌≡◌, ℕ, List, [], ◌∷◌, length, arith, ap, subst}
use Rattle.line_ends.proofs.Names.{Accounts, AllSendable, Both, Broken, ChanceMatch, CompletesQuiet, CompletesUndisturbed}
use Rattle.line_ends.proofs.Names.{CompletesWithFewLosses, CompletesWithFewNamed, DisplacesNoneIsFaint, Done, DoneLeavesWhole, EachRunEnds}
use Rattle.line_ends.proofs.Names.{EmptyScriptDisplacesNone, EndsInTurn, FaintGoOn, HasEnd, HeardIn, Hears, IsDone, IsFaint, IsInLimits}
use Rattle.line_ends.proofs.Names.{IsQuiet, Left, LineEnds, LineLost, LineRun, LinkLost, LosesWhatIsNamed, NotDetected}
use Rattle.line_ends.proofs.Names.{OctetsAreSendable, Originator, Outcome, QuietRunsDeliver, Role, RunEnd, ScriptRunsTo, ScriptValue}
use Rattle.line_ends.proofs.Names.{ScriptsHaveDelays, ScriptsMayPlay, Turn, UndisplacedIsFaint, heard_turns, link_of, of, other}
use Rattle.line_ends.proofs.Names.{slots_named, wire_of}
use Rattle.shared_terms.specs.declared.fault.LinkFault.TheVariants as faults
use Rattle.line_run.specs.Sampled as lines
use Rattle.line_ends.proofs.Hearing.{HearLaws, AsNamed, heard-named}
use Rattle.line_ends.proofs.Counting.{AllNamed, lost-few}
use Rattle.link_run.proofs.Only.{hearing-of}

-- what is heard in a turn, and in all turns of a run
turn-named : HearLaws → (script : ScriptValue) (files : Both (List ℕ)) (ts : List Turn) (ends : Accounts) (t : Turn) (mid : Accounts)
    → IsInLimits script → IsFaint script
    → LineRun (wire_of script) (link_of script files) ts ends → AllSendable ts → Hears (length ts) ends t mid
    → HeardIn (wire_of script) ts t
    → (role : Role) → AsNamed script (other role) ts (of role t).heard
turn-named laws script files ts ends t mid h d r s k w role = grind (arith, heard-named)

run-named : HearLaws → (script : ScriptValue) (files : Both (List ℕ)) (ts : List Turn) (ends : Accounts) → IsInLimits script
    → IsFaint script
    → LineRun (wire_of script) (link_of script files) ts ends → AllSendable ts → AllNamed script ts
run-named laws script files [] ends h d r s = tt
run-named laws script files (t ∷ ts) ends h d r s =
    let before : LineRun (wire_of script) (link_of script files) ts r.run.0 = record { run = r.run.1; heard = r.heard.1 } in (
      turn-named laws script files ts r.run.0 t r.run.2.mid h d before s.1 r.run.2.hearing r.heard.0,
      run-named laws script files ts r.run.0 h d before s.1,
    )

last-named : HearLaws → (script : ScriptValue) (files : Both (List ℕ)) (ts : List Turn) (ends : Accounts) (o : Outcome) (turn : ℕ)
    (left : Left)
    → IsInLimits script → IsFaint script
    → LineRun (wire_of script) (link_of script files) ts ends → AllSendable ts
    → (e : EndsInTurn (wire_of script) (link_of script files) ts ends o turn left) → AllNamed script (e.last ∷ ts)
last-named laws script files ts ends o turn left h d r s e = (
  turn-named laws script files ts ends e.last e.mid h d r s (hearing-of (link_of script files) ts ends e.last e.mid o e.is) e.heard,
  run-named laws script files ts ends h d r s,
)

all-named : HearLaws → (script : ScriptValue) (files : Both (List ℕ)) (end : RunEnd) (left : Left) → IsInLimits script → IsFaint script
    → (r : ScriptRunsTo script files end left) → AllSendable r.turns → AllNamed script (heard_turns script files end left r)
all-named laws script files (IsDone turn) left h d r s = last-named laws script files r.turns r.ends Done turn left h d r.run s r.ended
all-named laws script files (LinkLost role segment turn) left h d r s =
    last-named laws script files r.turns r.ends (Broken role (faults.Spent segment r.ended.0)) turn left h d r.run s r.ended.1
all-named laws script files (NotDetected turn) left h d r s =
    last-named laws script files r.turns r.ends (Broken Originator faults.NotDetected) turn left h d r.run s r.ended
all-named laws script files end left h d r s = run-named laws script files r.turns r.ends h d r.run s

pub loses-what-is-named : HearLaws → LosesWhatIsNamed
loses-what-is-named laws script files end left h d r s = grind (arith, lost-few, all-named)

line-ends-not : FaintGoOn → (script : ScriptValue) (files : Both (List ℕ)) (end : RunEnd) (left : Left) → IsInLimits script → IsFaint script
    → (r : ScriptRunsTo script files end left) → AllSendable r.turns → LineEnds end → ⊥
line-ends-not law script files (LineLost role symbol) left h d r s x =
    law script files r.turns r.ends (lines.LineLost role symbol) h d r.run s r.ended.is
line-ends-not law script files (ChanceMatch role turn) left h d r s x =
    law script files r.turns r.ends (lines.ChanceMatch role) h d r.run s r.ended.1.is
line-ends-not law script files end left h d r s x = x

pub completes-with-few-named : CompletesWithFewLosses → FaintGoOn → LosesWhatIsNamed → OctetsAreSendable → CompletesWithFewNamed
completes-with-few-named few goes named octets script files end left h d o l r =
    let s : AllSendable r.turns = octets (wire_of script) files r.turns r.ends h o r.run in
    let n = named script files end left h d r s in
    few script files end left h r (omega (arith, l, n)) (line-ends-not goes script files end left h d r s)

pub completes-quiet : CompletesWithFewNamed → CompletesQuiet
completes-quiet few script files end left h q o r =
    let none : slots_named script.losses ≡ 0 = ap slots_named q.no_losses in
    few script files end left h q.faint o (omega (arith, none, h.tries_some)) r

-- a script without lines that displace
pub displaces-none_is_faint : EmptyScriptDisplacesNone → UndisplacedIsFaint → DisplacesNoneIsFaint
displaces-none_is_faint empty faint script d = λ sender count. faint script sender count (empty script sender count d.no_hits d.no_noises)

is-quiet : DisplacesNoneIsFaint → (script : ScriptValue) → script.losses ≡ [] → script.hits ≡ [] → script.noises ≡ [] → IsQuiet script
is-quiet faint script losses hits noises = grind (arith)

pub completes-undisturbed : DisplacesNoneIsFaint → CompletesQuiet → CompletesUndisturbed
completes-undisturbed faint quiet script files end left h losses hits noises o r =
    quiet script files end left h (is-quiet faint script losses hits noises) o r

-- and there is one that delivers both files
pub quiet-deliver : ScriptsMayPlay → ScriptsHaveDelays → DoneLeavesWhole → CompletesQuiet → EachRunEnds → QuietRunsDeliver
quiet-deliver play delays whole done ends script files h f q o =
    let e : HasEnd script files = ends script files h f o in
    let d = done script files e.end e.left h q o e.runs in
    let runs : ScriptRunsTo script files (IsDone d.0) e.left = subst (λ end. ScriptRunsTo script files end e.left) d.1 e.runs in
    record {
      turn = d.0;
      left = e.left;
      runs = runs;
      whole =
          λ role. is-whole role (whole (wire_of script) (link_of script files) d.0 e.left
          (record { may_play = play script files h; delays = delays script h }) runs role);
    }
  where
    is-whole : (role : Role) {got : List ℕ} → got ≡ (of (other role) (link_of script files)).user.file → got ≡ of (other role) files
    is-whole role e = grind (arith)
