-- What an audit promises, over the folder before and after it. What is said of a name's octets holds where the folder tells that name.
use Rattle.std.specs.Prelude.{◌≡◌, ℕ, IsTrue, List, [], Result, Ok, Err}
use Rattle.outside_calls.specs.Folder.{FolderState, octets_at, Said}
use Rattle.shared_terms.specs.Both.{Both}
use Rattle.noise_script.specs.Script.{ScriptValue, IsInLimits}
use Rattle.noise_script.specs.Grammar.{ScriptSpelling}
use Rattle.line_run.specs.Ends.{RunEnd, Left, RunsTo}
use Rattle.line_run.specs.Scripted.{wire_of, link_of}
use Rattle.command_base.specs.declared.status.Status.{Status}
use Rattle.command_base.specs.declared.status.Status.TheVariants.{Done, AuditNo}
use Rattle.command_base.specs.Job.{Shared}
use Rattle.command_base.specs.Lines.{true_line}
use Rattle.trace_audit.specs.declared.comparison.Difference.{Difference}
use Rattle.trace_audit.specs.Verdict.{IsFound}
use Rattle.trace_audit.specs.Words.{AuditNames, inputs_of}

-- The script and the files of a run are those of the folder.
pub record AreOf (f : FolderState) (n : AuditNames) (script : ScriptValue) (files : Both (List ℕ)) : Type 0 where
  pub script_is : IsTrue (f.tells n.script) → ScriptSpelling (octets_at f n.script) script
  pub orig_is : IsTrue (f.tells n.orig) → files.orig ≡ octets_at f n.orig
  pub answ_is : IsTrue (f.tells n.answ) → files.answ ≡ octets_at f n.answ

-- The run of the folder's script and files was made to its end, however it ends, and this was found of the folder's trace.
pub record Audited (f : FolderState) (n : AuditNames) (found : Result ℕ Difference) : Type 0 where
  pub script : ScriptValue
  pub limits : IsInLimits script
  pub files : Both (List ℕ)
  pub are_of : AreOf f n script files
  pub end : RunEnd
  pub left : Left
  pub run : RunsTo (wire_of script) (link_of script files) end left
  pub found_is : IsTrue (f.tells n.trace) → IsFound left.trace (octets_at f n.trace) found

-- done says how many lines the trace has, which is the run's; else the answer is the first line in which it differs
abbrev pub AuditedBy : FolderState → FolderState → AuditNames → Status → Type 0
AuditedBy old new n Done = (lines : ℕ) × Said old new (true_line lines) × Audited old n (Ok lines)
AuditedBy old new n (AuditNo line cause) = Audited old n (Err (record { line = line; cause = cause }))
AuditedBy old new n status = Unit {0}

-- No name changes, and a trace is called true where it is the text of the run of the files and the script, and false where it differs from it
-- first in that line, and in that.
pub record Headline (old new : FolderState) (n : AuditNames) (s : Status) : Type 0 where
  pub shared : Shared (inputs_of n) [] old new s
  pub audited : AuditedBy old new n s

-- ---- what a yes says

-- All inputs are told.
pub record AreTold (f : FolderState) (n : AuditNames) : Type 0 where
  pub script : IsTrue (f.tells n.script)
  pub orig : IsTrue (f.tells n.orig)
  pub answ : IsTrue (f.tells n.answ)
  pub trace : IsTrue (f.tells n.trace)

-- The trace is the text of the run of the script and of both files, as the folder holds them.
pub record IsTheTrace (f : FolderState) (n : AuditNames) : Type 0 where
  pub script : ScriptValue
  pub spelled : ScriptSpelling (octets_at f n.script) script
  pub end : RunEnd
  pub left : Left
  pub run : RunsTo (wire_of script) (link_of script (record { orig = octets_at f n.orig; answ = octets_at f n.answ })) end left
  pub same : octets_at f n.trace ≡ left.trace

-- Where an audit is done, it is so.
abbrev pub YesIsTheTrace : Type 0
YesIsTheTrace = (old new : FolderState) (n : AuditNames) → Headline old new n Done → AreTold old n → IsTheTrace old n
