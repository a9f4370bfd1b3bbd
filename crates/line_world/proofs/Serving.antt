-- What happens to both ends between hearing and speaking.
use Rattle.line_world.proofs.Cited.{arith, ◌≡◌, ℕ, zero, suc, List, length, refl, ◌∙◌, Option, None, Err, Heard, Written, inputs_of}
use Rattle.line_world.proofs.Cited.{outputs_of, Wire, link_of, RunFault, Overhears, ReadsBoth, served, turn_in, handed, IsWriting}
use Rattle.line_world.proofs.Cited.{IsReading, FaultCounts, Account, after_given, wants, delivered, offered_at, SameSoFar, Accounts, Spoken}
use Rattle.line_world.proofs.Cited.{Turn, Hears, ScriptValue, IsInLimits, FolderState, FaultsStand, HasCause, FolderFault, Both, of, Role}
use Rattle.line_world.proofs.Cited.{Originator, Answerer, fault_of, IsAllowed}
use Rattle.std.proofs.Common.{IsErrOf}
use Rattle.outside_calls.specs.declared.folder.FolderFault.TheVariants.{NoMemory}
use Rattle.link_run.specs.End.{offered_times}
use Rattle.link_run.specs.Run.{served_at}
use Rattle.link_run.specs.Reading.{RunsByWhatIsReadOn}
use Rattle.outside_calls.specs.Outputs.{SomeCause}
use Rattle.line_run.specs.declared.fault.RunFault.TheVariants.{ReadFault, WriteFault}
use Rattle.line_run.specs.declared.fault.RunFault.TheVariants as faults

pub hears-in : (c : Wire) (files : Both (List ℕ)) (ts : List Turn) (ends mid : Accounts) (heard : Both Heard) (sent : Both (Option Spoken))
    → Overhears c files ts ends heard mid → Hears (length ts) ends (turn_in heard ends mid sent) mid
hears-in c files ts ends mid heard sent o role = grind (arith)

-- a run is one of the files as far as they are read now
pub over-others : RunsByWhatIsReadOn
    → (c : Wire) (files others : Both (List ℕ)) (ts : List Turn) (ends mid : Accounts) (heard : Both Heard) (f : FolderState) (n : Written)
    → IsInLimits c.script → Overhears c files ts ends heard mid → ReadsBoth f n files (handed mid) others
    → Overhears c others ts ends heard mid
over-others law c files others ts ends mid heard f n limits o r = assumption (law (link_of c.script files) files others ts ends
    (turn_in heard ends mid (record { orig = None; answ = None })) mid allowed o.run.run (hears-in c files ts ends mid heard
    (record { orig = None; answ = None }) o) same)
  where
    allowed : (role : Role) → IsAllowed (of role (link_of c.script files)).setup.offer
    allowed role = grind (arith)

    same : (role : Role) → SameSoFar (after_given (delivered (of role mid))).outgoing (of role files) (of role others)
    same role = grind (arith)

-- being offered pieces and handing over leaves the phase
phase-offered : (n : ℕ) (file : List ℕ) (a : Account) → (offered_times n file a).phase ≡ a.phase
phase-offered zero file a = refl
phase-offered (suc n) file a = phase-offered n file (offered_at file a (wants a)) ∙ at (wants a)
  where
    at : (w : Option ℕ) → (offered_at file a w).phase ≡ a.phase
    at w = grind (arith)

pub phase-delivered : (a : Account) → (delivered a).phase ≡ a.phase
phase-delivered a = grind (arith)

-- both ends as they are to speak, as a run's definition has it
pub served-is : (script : ScriptValue) (files : Both (List ℕ)) (turn : ℕ) (mid : Accounts) → served script files turn mid ≡ record {
  orig = (served_at (link_of script files) turn mid Originator).account;
  answ = (served_at (link_of script files) turn mid Answerer).account;
}
served-is script files turn mid = grind (arith, phase-offered, phase-delivered)

-- ---- a file that is not read

pub reading-fault : (x : RunFault) (fault : FolderFault) → x ≡ fault_of ReadFault faults.NoMemory fault → IsReading x
reading-fault x fault e = grind (arith)

pub reading-counts : (old new : FolderState) (n : Written) (x : RunFault) (fault : FolderFault)
    → x ≡ fault_of ReadFault faults.NoMemory fault
    → SomeCause {T = Unit {0}} old.read_faults new.read_faults (inputs_of n) old.refusals new.refusals (Err fault)
    → (IsErrOf {T = Unit {0}} {E = FolderFault} (Err fault) NoMemory → FaultsStand old new) → FaultCounts old new n x
reading-counts old new n x fault e cause spared = grind (arith)

-- ---- an output that isn't written

pub writing-fault : (x : RunFault) (fault : FolderFault) → x ≡ fault_of WriteFault faults.NoMemory fault → IsWriting x
writing-fault x fault e = grind (arith)

pub writing-counts : (old new : FolderState) (n : Written) (x : RunFault) (fault : FolderFault)
    → x ≡ fault_of WriteFault faults.NoMemory fault
    → SomeCause {T = Unit {0}} old.write_faults new.write_faults (outputs_of n) old.refusals new.refusals (Err fault)
    → (IsErrOf {T = Unit {0}} {E = FolderFault} (Err fault) NoMemory → FaultsStand old new) → FaultCounts old new n x
writing-counts old new n x fault e cause spared = grind (arith)

-- it is the trace
pub trace-counts : (old new : FolderState) (n : Written) (x : RunFault) (fault : FolderFault)
    → x ≡ fault_of WriteFault faults.NoMemory fault
    → HasCause {T = Unit {0}} (old.write_faults n.trace) (new.write_faults n.trace) old.refusals new.refusals (Err fault)
    → (IsErrOf {T = Unit {0}} {E = FolderFault} (Err fault) NoMemory → FaultsStand old new) → FaultCounts old new n x
trace-counts old new n x fault e cause spared = grind (arith, writing-counts)
