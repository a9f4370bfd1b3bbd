-- The turns of an audit, one after the other, up to what is found.
use Rattle.trace_audit.proofs.Cited.{◌≡◌, ℕ, ◌+◌, ◌<◌, ◌^◌, Bool, true, false, List, [], ◌∷◌, ◌++◌, length, Result, Ok, Err, refl, sym, ap}
use Rattle.trace_audit.proofs.Cited.{subst, take, arith, length-append, IsTrue, StopCounts, EndCounts, Stop, Written, outputs_of, link_of}
use Rattle.trace_audit.proofs.Cited.{IsApart, knows-later, KnowsFiles, WorldAfter, script_of, turn_of, World, Turn, start, ScriptValue}
use Rattle.trace_audit.proofs.Cited.{octets-kept, FolderState, OnlyReads, CountsStand, Both, Compared, HasWindow, IsFew, audited}
use Rattle.trace_audit.proofs.Cited.{trace_limit, text_of, FirstDiffers, IsCut, trace_lines, TurnMade, AreCompared, HasFew, IsReading}
use Rattle.trace_audit.proofs.Cited.{RunFound, RunIs, audit_inputs, found_end, IsFound, Comparison, Difference}
use Rattle.std.proofs.Common.{◌*◌}
use Rattle.std.specs.Prelude.{MatchResult}
use Rattle.outside_calls.proofs.OnlyOutputs.{told_earlier}
use Rattle.outside_calls.proofs.Putting.{OnlyPuts-reads}
use Rattle.line_run.specs.Names.{inputs_of}
use Rattle.line_world.proofs.Reached.{knows-told, files_at}
use Rattle.trace_audit.specs.Turns.{ComesTo}

-- two lines a turn
trace-count : (ts : List Turn) → length (trace_lines ts) ≡ 2 * length ts
trace-count [] = refl
trace-count (t ∷ ts) = grind (arith, length-append, trace-count ts)

-- what was read doesn't change what is known
knows-read : (a b : FolderState) (n : Written) (files : Both (List ℕ)) → IsApart n → OnlyReads a b → KnowsFiles a n files
    → KnowsFiles b n files
knows-read a b n files apart r k = knows-later a b n files apart (OnlyPuts-reads a b (outputs_of n) r) k

comes-read : (goes_on : Bool) (w : World) (a b : FolderState) (n : Written) (lines : List (List ℕ)) → IsApart n → OnlyReads a b
    → ComesTo goes_on w a n lines → ComesTo goes_on w b n lines
comes-read true w a b n lines apart r h = grind (arith, knows-read)
comes-read false w a b n lines apart r h = grind (arith, knows-read)

-- the octets of a name as they were before some reads
before-read : (a b : FolderState) (name : List ℕ) → OnlyReads a b → IsTrue (b.tells name) → audited a name ≡ audited b name
before-read a b name r told = sym (ap (take trace_limit) (octets-kept a b name (r.names name) (told_earlier r.goes_on name told)))

-- ---- one turn

module _ (w v : World) (old mid : FolderState) (n : Written) (trace : List ℕ) (c : Comparison) (early : turn_of w < 2 ^ 40)
    (h : AreCompared true w old n trace c) where
  count : length h.lines < 2 ^ 41
  count = grind (arith, trace-count)

  pub turn-few : (goes_on : Bool) (text : List ℕ) (m : TurnMade goes_on v mid n h.lines text) → HasFew (length m.lines) c
  turn-few goes_on text m = (length h.lines, omega (arith, count, m.few), h.few)

  -- its lines are compared too
  pub turn-compared : (goes_on : Bool) (text : List ℕ) (m : TurnMade goes_on v mid n h.lines text) (new : FolderState) (d : Comparison)
      → IsApart n → OnlyReads old mid → OnlyReads mid new
      → ((before lines : List (List ℕ)) → IsCut text lines → IsTrue (mid.tells trace) → Compared (audited mid trace) before c
      → Compared (audited mid trace) (before ++ lines) d)
      → ((k : ℕ) (lines : List (List ℕ)) → IsCut text lines → IsFew k c → IsFew (k + length lines) d)
      → AreCompared goes_on v new n trace d
  turn-compared goes_on text m new d apart watched read compared counted =
      let cut : IsCut text m.lines = record { whole = m.are_lines.1; text_is = m.text_is } in
      let sum = length-append {A = List ℕ} h.lines m.lines in
      record {
        lines = h.lines ++ m.lines;
        comes = comes-read goes_on v mid new n (h.lines ++ m.lines) apart read m.comes;
        compared = λ told.
            let told_mid : IsTrue (mid.tells trace) = told_earlier read.goes_on trace told in
            let told_old : IsTrue (old.tells trace) = told_earlier watched.goes_on trace told_mid in
            subst (λ (o : List ℕ). Compared o (h.lines ++ m.lines) d) (before-read mid new trace read told)
            (compared h.lines m.lines cut told_mid
            (subst (λ (o : List ℕ). Compared o h.lines c) (before-read old mid trace watched told_mid) (h.compared told_old)));
        few = subst (λ (k : ℕ). IsFew k d) (sym sum) (counted (length h.lines) m.lines cut h.few);
        bound = omega (arith, count, m.few, sum);
      }

-- before the first turn
pub compared-none : (w : World) (f : FolderState) (n : Written) (trace : List ℕ) (c : Comparison)
    → ((files : Both (List ℕ)) → WorldAfter w files [] (start (link_of (script_of w) files)))
    → ((text : List ℕ) → Compared text [] c) → IsFew 0 c → AreCompared true w f n trace c
compared-none w f n trace c first compared few = record {
  lines = [];
  comes = record {
    files = files_at f n;
    knows = knows-told f n;
    turns = [];
    ends = start (link_of (script_of w) (files_at f n));
    world = first (files_at f n);
    lines_is = refl;
    whole = tt;
  };
  compared = λ told. compared (audited f trace);
  few = few;
  bound = omega arith;
}

-- ---- what is counted

-- the trace is an input too
pub trace-counts : (a b : FolderState) (n : Written) (trace : List ℕ) (stop : Stop) → StopCounts a b (trace ∷ []) [] stop
    → StopCounts a b (audit_inputs n trace) [] stop
trace-counts a b n trace other h = grind (arith)

-- so are the files
pub files-counts : (a b : FolderState) (n : Written) (trace : List ℕ) (stop : Stop) → StopCounts a b (inputs_of n) [] stop
    → StopCounts a b (audit_inputs n trace) [] stop
files-counts a b n trace other h = grind (arith)

pub found-counts : (a b : FolderState) (inputs : List (List ℕ)) (found : Result ℕ Difference) → CountsStand a b
    → EndCounts a b inputs [] (found_end found)
found-counts a b inputs found h = grind (arith)

-- ---- what is found

module _ (v : World) (mid new : FolderState) (n : Written) (trace : List ℕ) (c : Comparison) (h : AreCompared false v mid n trace c) where
  pub end-few : (k : ℕ) × (k < 2 ^ 60) × IsFew k c
  end-few = (length h.lines, omega (arith, h.bound), h.few)

  found-is : (octets : List ℕ) (found : Result ℕ Difference)
      → MatchResult found (λ count. (octets ≡ text_of h.lines) × (count ≡ length h.lines)) (λ d. FirstDiffers h.lines octets d.line d.cause)
      → IsFound h.comes.left.trace octets found
  found-is octets found m = grind (arith)

  run-found : (window : List ℕ) (found : Result ℕ Difference) → IsApart n → OnlyReads mid new
      → (IsTrue (mid.tells trace) → HasWindow (audited mid trace) c 1 window)
      → ((text : List ℕ) (lines : List (List ℕ)) → Compared text lines c → HasWindow text c 1 window
      → MatchResult found (λ count. (text ≡ text_of lines) × (count ≡ length lines)) (λ d. FirstDiffers lines text d.line d.cause))
      → RunFound (script_of v) new n trace found
  run-found window found apart read has ends = record {
    files = h.comes.files;
    knows = knows-read mid new n h.comes.files apart read h.comes.knows;
    end = h.comes.end;
    left = h.comes.left;
    run = h.comes.run;
    found_is = λ told.
        let was : IsTrue (mid.tells trace) = told_earlier read.goes_on trace told in
        subst (λ (o : List ℕ). IsFound h.comes.left.trace o found) (before-read mid new trace read told)
        (found-is (audited mid trace) found (ends (audited mid trace) h.lines (h.compared was) (has was)));
  }

  run-is : (script : ScriptValue) (found : Result ℕ Difference) → RunFound script new n trace found
      → RunIs script new n trace (found_end found)
  run-is script found r = grind (arith)

  pub ends-so : (script : ScriptValue) (window : List ℕ) (found : Result ℕ Difference) → script_of v ≡ script → IsApart n
      → OnlyReads mid new
      → (IsTrue (mid.tells trace) → HasWindow (audited mid trace) c 1 window)
      → ((text : List ℕ) (lines : List (List ℕ)) → Compared text lines c → HasWindow text c 1 window
      → MatchResult found (λ count. (text ≡ text_of lines) × (count ≡ length lines)) (λ d. FirstDiffers lines text d.line d.cause))
      → RunIs script new n trace (found_end found)
  ends-so script window found same apart read has ends =
      run-is script found
      (subst (λ (s : ScriptValue). RunFound s new n trace found) same (run-found window found apart read has ends))

-- what stops an audit before anything is found
pub stops-so : (script : ScriptValue) (f : FolderState) (n : Written) (trace : List ℕ) (stop : Stop) → IsReading stop
    → RunIs script f n trace (Err stop)
stops-so script f n trace other h = grind (arith)

-- ---- whether a turn has stopped the audit

pub same-ok : {a b : Bool} → ◌≡◌ {A = Result Bool Stop} (Ok a) (Ok b) → a ≡ b
same-ok e = cc

pub no-ok : {P : Type 0} {stop : Stop} {b : Bool} → ◌≡◌ {A = Result Bool Stop} (Err stop) (Ok b) → P
no-ok e = absurd cc
