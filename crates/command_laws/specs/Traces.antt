-- An audit of the trace that a run leaves.
use Rattle.std.specs.Prelude.{◌≡◌, ℕ, true, List, []}
use Rattle.outside_calls.specs.Folder.{FolderState}
use Rattle.noise_script.specs.Script.{ScriptValue}
use Rattle.command_base.specs.declared.status.Status.{Status}
use Rattle.command_base.specs.Apart.{are_apart}
use Rattle.command_base.specs.Sound.{IsSound, DoneUnlessMemory}
use Rattle.run_inputs.specs.Answers.{EndsRun}
use Rattle.run_inputs.specs.Words.{RunNames, inputs_of, outputs_of}
use Rattle.run_commands.specs.Running.Headline as run
use Rattle.trace_audit.specs.Words.{AuditNames}
use Rattle.trace_audit.specs.Words as audit
use Rattle.trace_audit.specs.Completes.{AreRight, Completes}

-- the names of an audit of what a run of these names leaves
abbrev pub audit_of : RunNames → AuditNames
audit_of n = record { orig = n.names.orig; answ = n.names.answ; script = n.script; trace = n.names.trace }

-- A run made this folder of that one, and ended by itself. Then an audit of its trace over the folder as the run left it is done, but for want
-- of memory, where that is sound and tells the inputs, whose script is this one.
abbrev pub TracesOfRunsAreTrue : Type 0
TracesOfRunsAreTrue = (old mid new : FolderState) (n : RunNames) (ran audited : Status) (script : ScriptValue)
    → are_apart (inputs_of n) (outputs_of n) ≡ true → ((name : List ℕ) → mid.tells name ≡ old.tells name)
    → run.Headline old mid n ran → EndsRun ran
    → Completes mid new (audit_of n) audited → IsSound mid new (audit.inputs_of (audit_of n)) [] → AreRight mid (audit_of n) script
    → DoneUnlessMemory audited
