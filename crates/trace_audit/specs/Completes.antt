-- Which answer right inputs have over a sound folder.
use Rattle.std.specs.Prelude.{◌≡◌, ◌⊎◌, ℕ, ◌≤◌, IsTrue, List, [], length}
use Rattle.outside_calls.specs.Folder.{FolderState, octets_at}
use Rattle.shared_terms.specs.Both.{Both}
use Rattle.shared_terms.specs.declared.audit_cause.AuditCause.{AuditCause}
use Rattle.noise_script.specs.Script.{ScriptValue}
use Rattle.noise_script.specs.Grammar.{ScriptSpelling}
use Rattle.line_run.specs.Ends.{RunEnd, Left, RunsTo}
use Rattle.line_run.specs.Scripted.{wire_of, link_of}
use Rattle.command_base.specs.declared.status.Status.{Status}
use Rattle.command_base.specs.declared.status.Status.TheVariants.{Done, AuditNo, NoMemory}
use Rattle.command_base.specs.Sound.{IsSound, DoneUnlessMemory}
use Rattle.trace_audit.specs.Verdict.{DiffersIn}
use Rattle.trace_audit.specs.Words.{AuditNames, inputs_of}

-- The inputs are told: a script of at most 65,536 octets, two files of at most 16,777,216, and a trace of as many at most.
pub record AreRight (f : FolderState) (n : AuditNames) (script : ScriptValue) : Type 0 where
  pub script_told : IsTrue (f.tells n.script)
  pub script_short : length (octets_at f n.script) ≤ 65536
  pub spelled : ScriptSpelling (octets_at f n.script) script
  pub orig_told : IsTrue (f.tells n.orig)
  pub orig_short : length (octets_at f n.orig) ≤ 16777216
  pub answ_told : IsTrue (f.tells n.answ)
  pub answ_short : length (octets_at f n.answ) ≤ 16777216
  pub trace_told : IsTrue (f.tells n.trace)
  pub trace_short : length (octets_at f n.trace) ≤ 16777216

-- the files that are said to be a run's
abbrev pub files_at : FolderState → AuditNames → Both (List ℕ)
files_at f n = record { orig = octets_at f n.orig; answ = octets_at f n.answ }

-- the run of the folder's files over this script ends so, and leaves this
abbrev pub InputsRunTo : FolderState → AuditNames → ScriptValue → RunEnd → Left → Type 0
InputsRunTo f n script end left = RunsTo (wire_of script) (link_of script (files_at f n)) end left

-- the answer to a trace of these octets, where that is the text of the run
abbrev pub IsAnswerTo : List ℕ → List ℕ → Status → Type 0
IsAnswerTo text octets Done = octets ≡ text
IsAnswerTo text octets (AuditNo line cause) = DiffersIn text octets line cause
IsAnswerTo text octets answer = ⊥

-- the folder is sound, the inputs are right, and this is what their run leaves: then this holds of the trace's text and the trace's octets
abbrev pub Where : FolderState → FolderState → AuditNames → (List ℕ → List ℕ → Type 0) → Type 0
Where old new n Holds =
    IsSound old new (inputs_of n) [] → (script : ScriptValue) → AreRight old n script → (end : RunEnd) (left : Left)
    → InputsRunTo old n script end left → Holds left.trace (octets_at old n.trace)

-- However the run of right inputs ends over a sound folder, and but for want of memory, the answer is the one to its text: done where the trace
-- is that text, and else the first line in which it differs, and in what.
pub record Completes (old new : FolderState) (n : AuditNames) (s : Status) : Type 0 where
  pub exact : Where old new n (λ text octets. IsAnswerTo text octets s ⊎ (s ≡ NoMemory))
  pub yes : Where old new n (λ text octets. octets ≡ text → DoneUnlessMemory s)
  pub no : Where old new n (λ text octets. (line : ℕ) (cause : AuditCause) → DiffersIn text octets line cause
      → (s ≡ AuditNo line cause) ⊎ (s ≡ NoMemory))
