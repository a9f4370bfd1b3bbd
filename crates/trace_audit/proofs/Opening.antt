-- From the phases of an audit to how it ends.
use Rattle.trace_audit.proofs.Cited.{◌≡◌, inl, inr, ℕ, List, [], ◌∷◌, Result, ◌∙◌, ap, subst, take, arith, take_all, stop-earlier}
use Rattle.trace_audit.proofs.Cited.{StopCounts, EndCounts, Status, Stop, Written, KnowsFiles, ScriptValue, OnlyReads-trans, octets-kept}
use Rattle.trace_audit.proofs.Cited.{told_later, FolderState, octets_at, OnlyReads, CountsStand, LIMITS, Both, trace_limit, Audits, Ends}
use Rattle.trace_audit.proofs.Cited.{RunFound, RunIs, IsFound, AuditNames, files_of, inputs_of, Difference, file_limit}
use Rattle.std.proofs.Common.{IsTrue}
use Rattle.outside_calls.specs.declared.folder.FolderFault.{FolderFault}
use Rattle.outside_calls.specs.declared.folder.FolderFault.TheVariants as folder
use Rattle.command_base.specs.declared.status.Status.TheVariants as status
use Rattle.command_base.specs.declared.stop.Stop.TheVariants as stops
use Rattle.command_base.specs.Inputs.{IsWithin, IsNotWithin}
use Rattle.command_base.specs.Stops.{ReadFails}
use Rattle.run_inputs.specs.Inputs.{Refuses}
use Rattle.trace_audit.specs.Ends.{AreOpen, IsBegun, Takes, FailsLater, EndsBy}

-- ---- the inputs

-- the script or a file was not taken
pub refused-first : (old new : FolderState) (n : AuditNames) (stop : Stop) → Refuses LIMITS old new n.script 3 (files_of n) 1 stop
    → EndsBy old new n stop
refused-first old new n q3 r = grind (arith)

-- nor was the trace
pub refused-trace : (old mid new : FolderState) (n : AuditNames) (script : ScriptValue) (stop : Stop) → AreOpen old n script
    → OnlyReads old mid → CountsStand old mid → IsNotWithin mid new n.trace 16777216 4 stop → EndsBy old new n stop
refused-trace old mid new n script other are r stand h = grind (arith)

-- ---- what is counted

-- of the script and the files
pub counts-first : (a b : FolderState) (n : AuditNames) (stop : Stop) → StopCounts a b (n.orig ∷ n.answ ∷ n.script ∷ []) [] stop
    → StopCounts a b (inputs_of n) [] stop
counts-first a b n other h = grind (arith)

-- of the trace
pub counts-trace : (a b : FolderState) (n : AuditNames) (stop : Stop) → IsNotWithin a b n.trace 16777216 4 stop
    → StopCounts a b (inputs_of n) [] stop
counts-trace a b n other h = grind (arith)

pub end-turns : (a b : FolderState) (n : AuditNames) (end : Result ℕ Stop) → EndCounts a b (n.orig ∷ n.answ ∷ n.trace ∷ []) [] end
    → EndCounts a b (inputs_of n) [] end
end-turns a b n end h = grind (arith)

-- ---- the turns

-- a file as it was before all of them
file-is : (old new : FolderState) (name file : List ℕ) → OnlyReads old new → IsWithin old name 16777216
    → (IsTrue (new.tells name) → file ≡ take file_limit (octets_at new name)) → IsTrue (old.tells name) → file ≡ octets_at old name
file-is old new name file r within known told =
    let same : octets_at new name ≡ octets_at old name = octets-kept old new name (r.names name) told in
    known (told_later r.goes_on name told) ∙ ap (take file_limit) same
    ∙ take_all file_limit (octets_at old name) (omega (arith, within told))

module _ (begin now new : FolderState) (n : AuditNames) (m : Written) (script : ScriptValue) (b : IsBegun begin now n script)
    (orig : m.orig ≡ n.orig) (answ : m.answ ≡ n.answ) (read : OnlyReads now new) where
  all : OnlyReads begin new
  all = OnlyReads-trans b.reads read

  takes : (files : Both (List ℕ)) → KnowsFiles new m files → Takes begin n script files
  takes files k = record {
    are_open = b.are_open;
    trace = b.trace;
    within = k.within;
    orig = file-is begin new n.orig files.orig all b.are_open.opens.files.0
        (subst (λ (x : List ℕ). IsTrue (new.tells x) → files.orig ≡ take file_limit (octets_at new x)) orig k.orig);
    answ = file-is begin new n.answ files.answ all b.are_open.opens.files.1.0
        (subst (λ (x : List ℕ). IsTrue (new.tells x) → files.answ ≡ take file_limit (octets_at new x)) answ k.answ);
  }

  audits : (found : Result ℕ Difference) → RunFound script new m n.trace found → Audits begin n found
  audits found f = record {
    script = script;
    files = f.files;
    takes = takes f.files f.knows;
    end = f.end;
    left = f.left;
    run = f.run;
    found_is = λ told.
        subst (λ (o : List ℕ). IsFound f.left.trace o found)
        (ap (take trace_limit) (octets-kept begin new n.trace (all.names n.trace) told)
        ∙ take_all trace_limit (octets_at begin n.trace) (b.trace told))
        (f.found_is (told_later all.goes_on n.trace told));
  }

  -- a name was not read in them
  fails : (fault : FolderFault) → ReadFails begin new (n.orig ∷ n.answ ∷ n.trace ∷ []) fault → FailsLater begin new n fault
  fails folder.Failed (inl o) = record { script = script; are_open = b.are_open; fails = inr (b.trace, inl o) }
  fails folder.Failed (inr (inl w)) = record { script = script; are_open = b.are_open; fails = inr (b.trace, inr (inl w)) }
  fails folder.Failed (inr (inr t)) = record { script = script; are_open = b.are_open; fails = inl t }
  fails folder.NoMemory h = record { script = script; are_open = b.are_open; fails = inl h }

  pub ends-so : (end : Result ℕ Stop) → RunIs script new m n.trace end → EndCounts now new (n.orig ∷ n.answ ∷ n.trace ∷ []) [] end
      → Ends begin new n end
  ends-so other r k = grind (arith, audits, fails, stop-earlier)

-- memory was not found
pub no-memory : (begin now : FolderState) (n : AuditNames) (script : ScriptValue) → IsBegun begin now n script
    → EndsBy begin now n stops.NoMemory
no-memory begin now n script b = b.are_open.opens.reads.within
