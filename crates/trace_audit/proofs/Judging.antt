-- From every answer to the headline, and to which answer right inputs have.
use Rattle.trace_audit.proofs.Cited.{◌≡◌, ◌⊎◌, inl, inr, ℕ, ◌≤◌, ◌<◌, List, Result, Ok, Err, refl, sym, subst, arith, Status, Stop, RunEnd}
use Rattle.trace_audit.proofs.Cited.{wire_of, link_of, ScriptValue, FolderState, octets_at, LIMITS, AuditCause, Audits, Ends, DiffersIn}
use Rattle.trace_audit.proofs.Cited.{IsFound, AuditNames, files_of, Difference}
use Rattle.noise_script.specs.Laws.{ScriptsAreOne, NoFaultInScripts}
use Rattle.line_run.specs.Ends.{Left, OneResult, RunsTo}
use Rattle.command_base.specs.declared.status.Status.TheVariants.{Done, BadScript, TooLong, AuditNo, NoMemory}
use Rattle.command_base.specs.declared.stop.Stop.TheVariants as stops
use Rattle.command_base.specs.Job.{Answers}
use Rattle.command_base.proofs.Jobs.{done-of, shared-of, Comes, is_done, is_own, is_memory, comes-to}
use Rattle.run_inputs.proofs.Answering.{stopped-so}
use Rattle.run_inputs.specs.Inputs.{RefusesOwn}
use Rattle.trace_audit.specs.Ends.{audit_job}
use Rattle.trace_audit.specs.Headline.{Audited, AuditedBy, Headline, YesIsTheTrace}
use Rattle.trace_audit.specs.Completes.{AreRight, files_at, InputsRunTo, IsAnswerTo, Where, Completes}
use Rattle.trace_audit.proofs.Deciding.{VerdictLaws, never-both, one-difference}

-- ---- the headline

audited-so : (f : FolderState) (n : AuditNames) (found : Result ℕ Difference) → Audits f n found → Audited f n found
audited-so f n found a = grind (arith)

-- a difference was found where that is the answer
differs-so : (old before : FolderState) (n : AuditNames) (line : ℕ) (cause : AuditCause)
    → Ends old before n (Err (stops.Own (AuditNo line cause)))
    → Audits old n (Err (record { line = line; cause = cause }))
differs-so old before n line cause q5 = grind (arith)

audited-by : (words : List (List ℕ)) (old new : FolderState) (n : AuditNames) (s t : Status) → Answers (audit_job n) words old new s → s ≡ t
    → AuditedBy old new n t
audited-by words old new n s t a e = grind (arith, done-of, audited-so, stopped-so, differs-so)

pub headline-of : (words : List (List ℕ)) (old new : FolderState) (n : AuditNames) (s : Status) → Answers (audit_job n) words old new s
    → Headline old new n s
headline-of words old new n s a = record {
  shared = shared-of (audit_job n) words old new s a (λ e name. a.only.names name tt);
  audited = audited-by words old new n s s a refl;
}

-- ---- which answer right inputs have

script-fits : (count : ℕ) → count ≤ 65536 → LIMITS.script < count → ⊥
script-fits count within longer = omega (arith, within, longer)

file-fits : (count : ℕ) → count ≤ 16777216 → LIMITS.file < count → ⊥
file-fits count within longer = omega (arith, within, longer)

trace-fits : (count : ℕ) → count ≤ 16777216 → 16777216 < count → ⊥
trace-fits count within longer = omega (arith, within, longer)

-- right inputs are not refused
never-refused : NoFaultInScripts → (old : FolderState) (n : AuditNames) (script : ScriptValue) (answer : Status) → AreRight old n script
    → RefusesOwn LIMITS old n.script 3 (files_of n) 1 answer → ⊥
never-refused law old n script (TooLong word) r (inl s) = grind (arith, script-fits)
never-refused law old n script (TooLong word) r (inr f) = grind (arith, file-fits)
never-refused law old n script (BadScript line cause) r s = law (octets_at old n.script) script line cause r.spelled (s.first r.script_told)
never-refused law old n script answer r never = never

-- the laws that this rests on
pub record JudgeLaws : Type 0 where
  pub result : OneResult
  pub one : ScriptsAreOne
  pub apart : NoFaultInScripts
  pub verdict : VerdictLaws

module _ (laws : JudgeLaws) (old : FolderState) (n : AuditNames) (script : ScriptValue) (r : AreRight old n script) (end : RunEnd)
    (left : Left)
    (run : InputsRunTo old n script end left) where
  -- the run that was made leaves what that of the inputs leaves
  same-left : (found : Result ℕ Difference) (a : Audits old n found) → a.left ≡ left
  same-left found a =
      let same : a.script ≡ script = laws.one (octets_at old n.script) a.script script (a.takes.are_open.opens.reads.spelled r.script_told)
      r.spelled in
      let over : RunsTo (wire_of script) (link_of script a.files) a.end a.left =
      subst (λ (s : ScriptValue). RunsTo (wire_of s) (link_of s a.files) a.end a.left) same a.run in
      let of-orig : RunsTo (wire_of script) (link_of script (record { orig = octets_at old n.orig; answ = a.files.answ })) a.end a.left =
      subst (λ (o : List ℕ). RunsTo (wire_of script) (link_of script (record { orig = o; answ = a.files.answ })) a.end a.left)
      (a.takes.orig r.orig_told) over in
      let of-both : InputsRunTo old n script a.end a.left =
      subst (λ (w : List ℕ). RunsTo (wire_of script) (link_of script (record { orig = octets_at old n.orig; answ = w })) a.end a.left)
      (a.takes.answ r.answ_told) of-orig in
      (laws.result (wire_of script) (link_of script (files_at old n)) a.end end a.left left of-both run).1

  found-so : (found : Result ℕ Difference) → Audits old n found → IsFound left.trace (octets_at old n.trace) found
  found-so found a =
      subst (λ (l : Left). IsFound l.trace (octets_at old n.trace) found) (same-left found a) (a.found_is r.trace_told)

  -- so the answer is the one to its text
  own-answer : (before : FolderState) (answer : Status) → Ends old before n (Err (stops.Own answer))
      → IsAnswerTo left.trace (octets_at old n.trace) answer
  own-answer before answer (inl refused) = absurd (never-refused laws.apart old n script answer r refused)
  own-answer before (TooLong word) (inr long) = grind (arith, trace-fits)
  own-answer before (AuditNo line cause) (inr a) = found-so (Err (record { line = line; cause = cause })) a
  own-answer before answer (inr never) = absurd never

  exact-so : (words : List (List ℕ)) (new : FolderState) (s : Status) (a : Answers (audit_job n) words old new s) → Comes a.end s
      → IsAnswerTo left.trace (octets_at old n.trace) s ⊎ (s ≡ NoMemory)
  exact-so words new s a (is_done lines is e) =
      let f = found-so (Ok lines) (subst (λ (x : Result ℕ Stop). Ends old a.before n x) is a.ends.0) in
      inl (subst (λ (t : Status). IsAnswerTo left.trace (octets_at old n.trace) t) (sym e) f.same)
  exact-so words new s a (is_own answer is e) =
      inl (subst (λ (t : Status). IsAnswerTo left.trace (octets_at old n.trace) t) (sym e)
      (own-answer a.before answer (subst (λ (x : Result ℕ Stop). Ends old a.before n x) is a.ends.0)))
  exact-so words new s a (is_memory e) = inr e

-- ---- there is one answer

yes-so : VerdictLaws → (text octets : List ℕ) (s : Status) → IsAnswerTo text octets s → octets ≡ text → s ≡ Done
yes-so laws text octets s h same = grind (arith, never-both)

same-answer : (l m : ℕ) (c d : AuditCause) → l ≡ m → c ≡ d → AuditNo l c ≡ AuditNo m d
same-answer l m c d e f = rw (e, f) refl

no-so : VerdictLaws → (text octets : List ℕ) (s : Status) (line : ℕ) (cause : AuditCause) → IsAnswerTo text octets s
    → DiffersIn text octets line cause → s ≡ AuditNo line cause
no-so laws text octets Done line cause h d = absurd (never-both laws text octets line cause h d)
no-so laws text octets (AuditNo other why) line cause h d =
    let same = one-difference laws text octets other line why cause h d in same-answer other line why cause same.0 same.1
no-so laws text octets s line cause h d = absurd h

pub completes-of : JudgeLaws → (words : List (List ℕ)) (old new : FolderState) (n : AuditNames) (s : Status)
    → Answers (audit_job n) words old new s → Completes old new n s
completes-of laws words old new n s a = record {
  exact = exact;
  yes = λ sound script r end left run same. elim (exact sound script r end left run) [
    | inl answer ↦ inl (yes-so laws.verdict left.trace (octets_at old n.trace) s answer same)
    | inr memory ↦ inr memory
  ];
  no = λ sound script r end left run line cause d. elim (exact sound script r end left run) [
    | inl answer ↦ inl (no-so laws.verdict left.trace (octets_at old n.trace) s line cause answer d)
    | inr memory ↦ inr memory
  ];
}
  where
    exact : Where old new n (λ text octets. IsAnswerTo text octets s ⊎ (s ≡ NoMemory))
    exact sound script r end left run =
        exact-so laws old n script r end left run words new s a (comes-to (audit_job n) words old new s a sound)

-- ---- what a yes says

pub yes-is-the-trace : YesIsTheTrace
yes-is-the-trace old new n h told = grind (arith)
