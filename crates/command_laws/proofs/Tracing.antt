-- The trace that a run leaves is its own.
use Rattle.command_laws.proofs.Names.{◌≡◌, ◌≢◌, true, ℕ, IsTrue, List, [], ◌∷◌, refl, sym, ◌∙◌, subst, IsSound, Status, Done, RunEnd}
use Rattle.command_laws.proofs.Names.{wire_of, link_of, ScriptSpelling, ScriptsAreOne, ScriptValue, octets-held, FolderState, octets_at}
use Rattle.command_laws.proofs.Names.{EndsRun, RunNames}
use Rattle.outside_calls.specs.Outputs.{IsNoneOf, AreNoneOf}
use Rattle.outside_calls.proofs.Steps.{octets-kept}
use Rattle.line_run.specs.Ends.{RunsTo}
use Rattle.command_base.specs.declared.status.Status.TheVariants.{LinkLost, NotDetected, LineLost, ChanceMatch}
use Rattle.command_base.specs.Apart.{are_apart}
use Rattle.command_base.specs.Sound.{DoneUnlessMemory}
use Rattle.run_inputs.specs.Words.{inputs_of, outputs_of}
use Rattle.run_commands.specs.Running.Headline as run
use Rattle.trace_audit.specs.Words as audit
use Rattle.trace_audit.specs.Completes.{AreRight, InputsRunTo, Completes}
use Rattle.command_laws.specs.Traces.{audit_of, TracesOfRunsAreTrue}

-- names that are apart
abbrev pub ApartNames : Type 0
ApartNames = (inputs outputs : List (List ℕ)) → are_apart inputs outputs ≡ true → AreNoneOf outputs inputs

-- a name that is among the inputs of outputs that are none of these is none of the outputs
none-of : (inputs : List (List ℕ)) (name : List ℕ) → ((output : List ℕ) → IsNoneOf output inputs → output ≢ name)
    → (outputs : List (List ℕ)) → AreNoneOf outputs inputs → IsNoneOf name outputs
none-of inputs name differs [] apart = tt
none-of inputs name differs (output ∷ outputs) apart =
    (λ e. differs output apart.0 (sym e), none-of inputs name differs outputs apart.1)

module _ (one : ScriptsAreOne) (old mid new : FolderState) (n : RunNames) (r s : Status) (script : ScriptValue)
    (apart : AreNoneOf (outputs_of n) (inputs_of n)) (same : (name : List ℕ) → mid.tells name ≡ old.tells name)
    (h : run.Headline old mid n r)
    (completes : Completes mid new (audit_of n) s) (sound : IsSound mid new (audit.inputs_of (audit_of n)) [])
    (right : AreRight mid (audit_of n) script) where
  -- an input holds what it held
  kept : (name : List ℕ) → ((output : List ℕ) → IsNoneOf output (inputs_of n) → output ≢ name) → IsTrue (mid.tells name)
      → octets_at mid name ≡ octets_at old name
  kept name differs told =
      octets-kept old mid name (h.shared.names name (none-of (inputs_of n) name differs (outputs_of n) apart))
      (subst IsTrue (same name) told)

  was : (name : List ℕ) → IsTrue (mid.tells name) → IsTrue (old.tells name)
  was name told = subst IsTrue (same name) told

  by-run : (end : RunEnd) → run.Ran old mid n end → DoneUnlessMemory s
  by-run end e =
      let text : octets_at mid n.script ≡ octets_at old n.script =
      kept n.script (λ output a. a.1.1.0) right.script_told in
      let spelled : ScriptSpelling (octets_at mid n.script) e.script =
      subst (λ (o : List ℕ). ScriptSpelling o e.script) (sym text) (e.are_of.script_is (was n.script right.script_told)) in
      let is : e.script ≡ script = one (octets_at mid n.script) e.script script spelled right.spelled in
      let orig : e.files.orig ≡ octets_at mid n.names.orig =
      e.are_of.orig_is (was n.names.orig right.orig_told) ∙ sym (kept n.names.orig (λ output a. a.0) right.orig_told) in
      let answ : e.files.answ ≡ octets_at mid n.names.answ =
      e.are_of.answ_is (was n.names.answ right.answ_told) ∙ sym (kept n.names.answ (λ output a. a.1.0) right.answ_told) in
      let over : RunsTo (wire_of script) (link_of script e.files) end e.left =
      subst (λ (x : ScriptValue). RunsTo (wire_of x) (link_of x e.files) end e.left) is e.run in
      let of-orig : RunsTo (wire_of script) (link_of script (record { orig = octets_at mid n.names.orig; answ = e.files.answ })) end
      e.left =
      subst (λ (o : List ℕ). RunsTo (wire_of script) (link_of script (record { orig = o; answ = e.files.answ })) end e.left) orig over in
      let of-both : InputsRunTo mid (audit_of n) script end e.left =
      subst (λ (w : List ℕ). RunsTo (wire_of script) (link_of script (record { orig = octets_at mid n.names.orig; answ = w })) end e.left)
      answ of-orig in
      completes.yes sound script right end e.left of-both (octets-held mid n.names.trace e.left.trace (e.trace right.trace_told))

by-answer : ScriptsAreOne → ApartNames → (old mid new : FolderState) (n : RunNames) (ran s : Status) (script : ScriptValue)
    → are_apart (inputs_of n) (outputs_of n) ≡ true → ((name : List ℕ) → mid.tells name ≡ old.tells name)
    → (r : Status) → r ≡ ran → run.Headline old mid n ran → run.RanBy old mid n r → EndsRun r
    → Completes mid new (audit_of n) s → IsSound mid new (audit.inputs_of (audit_of n)) [] → AreRight mid (audit_of n) script
    → DoneUnlessMemory s
by-answer one names old mid new n ran s script apart same Done e h b x c sound right =
    by-run one old mid new n ran s script (names (inputs_of n) (outputs_of n) apart) same h c sound right _ b.2
by-answer one names old mid new n ran s script apart same (LinkLost role segment turn) e h b x c sound right =
    by-run one old mid new n ran s script (names (inputs_of n) (outputs_of n) apart) same h c sound right _ b
by-answer one names old mid new n ran s script apart same (NotDetected turn) e h b x c sound right =
    by-run one old mid new n ran s script (names (inputs_of n) (outputs_of n) apart) same h c sound right _ b
by-answer one names old mid new n ran s script apart same (LineLost role symbol) e h b x c sound right =
    by-run one old mid new n ran s script (names (inputs_of n) (outputs_of n) apart) same h c sound right _ b
by-answer one names old mid new n ran s script apart same (ChanceMatch role turn) e h b x c sound right =
    by-run one old mid new n ran s script (names (inputs_of n) (outputs_of n) apart) same h c sound right _ b
by-answer one names old mid new n ran s script apart same r e h b x c sound right = absurd x

pub traces-of-runs-are-true : ScriptsAreOne → ApartNames → TracesOfRunsAreTrue
traces-of-runs-are-true one names old mid new n ran s script apart same h x c sound right =
    by-answer one names old mid new n ran s script apart same ran refl h h.ran x c sound right
