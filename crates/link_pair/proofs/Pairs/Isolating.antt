-- Where noise is faint a link runs as it would whatever goes beside it.
use Rattle.link_pair.proofs.Names.{arith, ◌≡◌, ℕ, ◌<◌, List, [], ◌∷◌, length, sym, subst, agree-on, IsFaint, AreOfOctets, RunEnd, IsDone}
use Rattle.link_pair.proofs.Names.{LinkLost, NotDetected, Left, EndsInTurn, RunsTo, SamplesAreCarried, IsHeardOf, HeardIn, LineRun, link_of}
use Rattle.link_pair.proofs.Names.{ScriptsMayPlay, ScriptsHaveDelays, SlotsAreCodable, wire_at, check_of, IsByLink, Outcome, TurnIs}
use Rattle.link_pair.proofs.Names.{Accounts, Turn, Hears, ScriptValue, IsInLimits, delay_of, Both, of, other, Role}
use Rattle.link_run.specs.Laws.{RunsOver}
use Rattle.link_run.specs.Overheard.{JudgesByItsCheck}
use Rattle.line_ends.specs.Completes.{OctetsAreSendable}
use Rattle.link_pair.proofs.Pairs.Fitting.{AllFitting, fitting-run, BesideFits}
use Rattle.link_pair.proofs.Pairs.Clear.{ClearLaws, Beside, bits_in, IsClear, Agrees, due, heard-due, due-heard}

pub record IsolationLaws : Type 0 where
  pub clear : ClearLaws
  pub play : ScriptsMayPlay
  pub delays : ScriptsHaveDelays
  pub carried : SamplesAreCarried
  pub codable : SlotsAreCodable
  pub octets : OctetsAreSendable
  pub judges : JudgesByItsCheck

-- what a script and two users of it need: their slots fit, and those beside them
pub record MaySend (script : ScriptValue) (files : Both (List ℕ)) : Type 0 where
  pub limits : IsInLimits script
  pub faint : IsFaint script
  pub octets : AreOfOctets script files

-- another channel, and what goes beside it
pub record Moves (script : ScriptValue) (dlci : ℕ) (beside : Beside) (at : ℕ) (near : Beside) : Type 0 where
  pub low : dlci < 64
  pub fits : BesideFits (bits_in script) beside
  pub at_low : at < 64
  pub near_fits : BesideFits (bits_in script) near

module _ (laws : IsolationLaws) (script : ScriptValue) (files : Both (List ℕ)) (dlci : ℕ) (beside : Beside) (ts : List Turn)
    (ends : Accounts) where
  -- the line of samples as any line
  pub over : IsInLimits script → LineRun (wire_at script dlci beside) (link_of script files) ts ends
      → RunsOver (link_of script files) (delay_of script) ts ends
  over h r = grind (arith)

  pub fitting-on : IsInLimits script → AreOfOctets script files → LineRun (wire_at script dlci beside) (link_of script files) ts ends
      → (at : ℕ) → at < 64 → AllFitting (bits_in script) at ts
  fitting-on h o r at low =
      fitting-run laws.codable (wire_at script dlci beside) files ts ends h r
      (laws.octets (wire_at script dlci beside) files ts ends h o r) at low

  -- a run's line is clear on any channel, beside whatever fits
  pub clear-on : MaySend script files → LineRun (wire_at script dlci beside) (link_of script files) ts ends → (at : ℕ) (near : Beside)
      → at < 64 → BesideFits (bits_in script) near → IsClear script at near ts
  clear-on m r at near low b = record {
    delays = laws.delays script m.limits;
    faint = m.faint;
    sendable = laws.octets (wire_at script dlci beside) files ts ends m.limits m.octets r;
    fits = fitting-on m.limits m.octets r at low;
    beside_fits = b;
  }

  -- and both ends judge by the right check
  pub agrees-on : IsInLimits script → LineRun (wire_at script dlci beside) (link_of script files) ts ends → (role : Role)
      → Agrees script (other role) ts (check_of (of role ends))
  agrees-on h r role = grind (arith, agree-on, over, other)

  -- What is heard in a turn is heard there too.
  pub heard-moves : (at : ℕ) (near : Beside) → MaySend script files → Moves script dlci beside at near
      → LineRun (wire_at script dlci beside) (link_of script files) ts ends → (t : Turn) (mid : Accounts) → Hears (length ts) ends t mid
      → HeardIn (wire_at script dlci beside) ts t → HeardIn (wire_at script at near) ts t
  heard-moves at near m v r t mid h k role = record { heard_of = there; well = (k role).well }
    where
      sender : Role
      sender = other role

      check-is : (of role t).check ≡ check_of (of role ends)
      check-is = (h role).check_is

      agrees : Agrees script sender ts (of role t).check
      agrees = subst (Agrees script sender ts) (sym check-is) (agrees-on m.limits r role)

      is : (of role t).heard ≡ due script sender ts
      is = heard-due laws.clear script dlci beside sender ts (of role t).check (of role t).heard
          (clear-on m r dlci beside v.low v.fits) agrees (k role).heard_of

      there : IsHeardOf (wire_at script at near) sender ts (of role t).check (of role t).heard
      there = subst (IsHeardOf (wire_at script at near) sender ts (of role t).check) (sym is)
          (due-heard laws.clear script at near sender ts (of role t).check
          (clear-on m r at near v.at_low v.near_fits) agrees)

-- so are all turns of a run,
pub run-moves : IsolationLaws → (script : ScriptValue) (files : Both (List ℕ)) (dlci : ℕ) (beside : Beside) (at : ℕ) (near : Beside)
    → MaySend script files → Moves script dlci beside at near
    → (ts : List Turn) (ends : Accounts) → LineRun (wire_at script dlci beside) (link_of script files) ts ends
    → LineRun (wire_at script at near) (link_of script files) ts ends
run-moves laws script files dlci beside at near m v [] ends r = record { run = r.run; heard = tt }
run-moves laws script files dlci beside at near m v (t ∷ ts) ends r =
    let before : LineRun (wire_at script dlci beside) (link_of script files) ts r.run.0 = record { run = r.run.1; heard = r.heard.1 } in
    let there = run-moves laws script files dlci beside at near m v ts r.run.0 before in
    let now = heard-moves laws script files dlci beside ts r.run.0 at near m v before t r.run.2.mid r.run.2.hearing r.heard.0 in
    record { run = r.run; heard = (now, there.heard) }

pub hearing-in : (script : ScriptValue) (files : Both (List ℕ)) (ts : List Turn) (ends : Accounts) (t : Turn) (mid : Accounts) (o : Outcome)
    → TurnIs (link_of script files) ts ends t mid o → Hears (length ts) ends t mid
hearing-in script files ts ends t mid o h = grind (arith)

-- and its last turn, where an end of the link ended it.
last-moves : IsolationLaws → (script : ScriptValue) (files : Both (List ℕ)) (dlci : ℕ) (beside : Beside) (at : ℕ) (near : Beside)
    → MaySend script files → Moves script dlci beside at near
    → (ts : List Turn) (ends : Accounts) → LineRun (wire_at script dlci beside) (link_of script files) ts ends
    → (o : Outcome) (turn : ℕ) (left : Left)
    → EndsInTurn (wire_at script dlci beside) (link_of script files) ts ends o turn left
    → EndsInTurn (wire_at script at near) (link_of script files) ts ends o turn left
last-moves laws script files dlci beside at near m v ts ends r o turn left e = record {
  number = e.number;
  last = e.last;
  mid = e.mid;
  heard =
      heard-moves laws script files dlci beside ts ends at near m v r e.last e.mid (hearing-in script files ts ends e.last e.mid o e.is)
      e.heard;
  is = e.is;
  leaves = e.leaves;
}

-- So is a whole run that an end of the link ended: it is the same there.
pub runs-move : IsolationLaws → (script : ScriptValue) (files : Both (List ℕ)) (dlci : ℕ) (beside : Beside) (at : ℕ) (near : Beside)
    → MaySend script files → Moves script dlci beside at near
    → (end : RunEnd) (left : Left) → IsByLink end → RunsTo (wire_at script dlci beside) (link_of script files) end left
    → RunsTo (wire_at script at near) (link_of script files) end left
runs-move laws script files dlci beside at near m v (IsDone turn) left b r = record {
  turns = r.turns;
  ends = r.ends;
  run = run-moves laws script files dlci beside at near m v r.turns r.ends r.run;
  ended = last-moves laws script files dlci beside at near m v r.turns r.ends r.run _ turn left r.ended;
}
runs-move laws script files dlci beside at near m v (LinkLost role segment turn) left b r = record {
  turns = r.turns;
  ends = r.ends;
  run = run-moves laws script files dlci beside at near m v r.turns r.ends r.run;
  ended = (r.ended.0, last-moves laws script files dlci beside at near m v r.turns r.ends r.run _ turn left r.ended.1);
}
runs-move laws script files dlci beside at near m v (NotDetected turn) left b r = record {
  turns = r.turns;
  ends = r.ends;
  run = run-moves laws script files dlci beside at near m v r.turns r.ends r.run;
  ended = last-moves laws script files dlci beside at near m v r.turns r.ends r.run _ turn left r.ended;
}
runs-move laws script files dlci beside at near m v end left b r = absurd b
