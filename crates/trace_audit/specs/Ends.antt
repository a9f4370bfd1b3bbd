-- How an audit ends, before its line is said. What is said of a name's octets holds where the folder tells that name.
use Rattle.std.specs.Prelude.{◌≡◌, ◌⊎◌, ℕ, IsTrue, List, [], ◌∷◌, Result, Ok, Err}
use Rattle.outside_calls.specs.Folder.{FolderState, OnlyReads, CountsStand, octets_at}
use Rattle.outside_calls.specs.declared.folder.FolderFault.{FolderFault}
use Rattle.shared_terms.specs.Both.{Both}
use Rattle.noise_script.specs.Script.{ScriptValue, IsInLimits}
use Rattle.line_run.specs.Ends.{RunEnd, Left, RunsTo}
use Rattle.line_run.specs.Scripted.{wire_of, link_of}
use Rattle.line_world.specs.Link.{AreWithin}
use Rattle.command_base.specs.declared.status.Status.{Status}
use Rattle.command_base.specs.declared.status.Status.TheVariants.{TooLong, AuditNo}
use Rattle.command_base.specs.declared.stop.Stop.{Stop}
use Rattle.command_base.specs.declared.stop.Stop.TheVariants.{Own, Read, Write, Say, NoMemory}
use Rattle.command_base.specs.Inputs.{IsWithin, IsLonger}
use Rattle.command_base.specs.Job.{Job}
use Rattle.command_base.specs.Lines.{true_line}
use Rattle.command_base.specs.Stops.{ReadFails}
use Rattle.run_inputs.specs.declared.limits.TheConstants.{LIMITS}
use Rattle.run_inputs.specs.Inputs.{Opens, RefusesOwn, FailsToRead}
use Rattle.trace_audit.specs.declared.comparison.Difference.{Difference}
use Rattle.trace_audit.specs.Verdict.{IsFound}
use Rattle.trace_audit.specs.Compared.{trace_limit}
use Rattle.trace_audit.specs.Words.{AuditNames, files_of, inputs_of}

-- The script and the files were opened.
pub record AreOpen (f : FolderState) (n : AuditNames) (script : ScriptValue) : Type 0 where
  pub opens : Opens LIMITS f n.script (files_of n) script
  pub limits : IsInLimits script

-- The script and the files were opened, and the trace is within its limit; nothing else was done, and no fault was counted.
pub record IsBegun (old now : FolderState) (n : AuditNames) (script : ScriptValue) : Type 0 where
  pub are_open : AreOpen old n script
  pub trace : IsWithin old n.trace trace_limit
  pub reads : OnlyReads old now
  pub stand : CountsStand old now

-- The inputs are within their limits, and are this script and these files.
pub record Takes (f : FolderState) (n : AuditNames) (script : ScriptValue) (files : Both (List ℕ)) : Type 0 where
  pub are_open : AreOpen f n script
  pub trace : IsWithin f n.trace trace_limit
  pub within : AreWithin files
  pub orig : IsTrue (f.tells n.orig) → files.orig ≡ octets_at f n.orig
  pub answ : IsTrue (f.tells n.answ) → files.answ ≡ octets_at f n.answ

-- The run of the inputs was made to its end, and this was found of the trace beside the text that it leaves.
pub record Audits (f : FolderState) (n : AuditNames) (found : Result ℕ Difference) : Type 0 where
  pub script : ScriptValue
  pub files : Both (List ℕ)
  pub takes : Takes f n script files
  pub end : RunEnd
  pub left : Left
  pub run : RunsTo (wire_of script) (link_of script files) end left
  pub found_is : IsTrue (f.tells n.trace) → IsFound left.trace (octets_at f n.trace) found

-- The script and the files were opened, and the trace is longer than its limit: word 4 names it.
pub record TraceTooLong (f : FolderState) (n : AuditNames) (word : ℕ) : Type 0 where
  pub script : ScriptValue
  pub are_open : AreOpen f n script
  pub word_is : word ≡ 4
  pub longer : IsLonger f n.trace trace_limit

-- the answers of an audit's own
abbrev pub AnswersOwn : FolderState → AuditNames → Status → Type 0
AnswersOwn f n (TooLong word) = TraceTooLong f n word
AnswersOwn f n (AuditNo line cause) = Audits f n (Err (record { line = line; cause = cause }))
AnswersOwn f n answer = ⊥

-- The script and the files were opened, and then the trace was not read; or, once that is within its limit, a file was not.
pub record FailsLater (old new : FolderState) (n : AuditNames) (fault : FolderFault) : Type 0 where
  pub script : ScriptValue
  pub are_open : AreOpen old n script
  pub fails : ReadFails old new (n.trace ∷ []) fault ⊎ (IsWithin old n.trace trace_limit × ReadFails old new (files_of n) fault)

-- why an audit stops before it is known that the trace is the run's
abbrev pub EndsBy : FolderState → FolderState → AuditNames → Stop → Type 0
EndsBy old new n (Own answer) = RefusesOwn LIMITS old n.script 3 (files_of n) 1 answer ⊎ AnswersOwn old n answer
EndsBy old new n (Read fault) = FailsToRead LIMITS old new n.script (files_of n) fault ⊎ FailsLater old new n fault
EndsBy old new n (Write fault) = ⊥
EndsBy old new n (Say fault) = ⊥
EndsBy old new n NoMemory = IsWithin old n.script LIMITS.script

-- how an audit ends: the trace is the run's, with so many lines, or not
abbrev pub Ends : FolderState → FolderState → AuditNames → Result ℕ Stop → Type 0
Ends old new n (Ok lines) = Audits old n (Ok lines)
Ends old new n (Err stop) = EndsBy old new n stop

-- The job of the command: it only reads, and its line says the number of lines.
abbrev pub audit_job : AuditNames → Job ℕ
audit_job n = record {
  inputs = inputs_of n;
  outputs = [];
  Ends = λ old new end. Ends old new n end × OnlyReads old new;
  line_of = true_line;
}
