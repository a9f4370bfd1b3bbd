-- What the steps of a turn leave of the folder, in a row.
use Rattle.stations.proofs.Names.{arith, ℕ, ◌≤◌, List, [], ◌∷◌, length, Result, Err, IsErrOf, Account, OnlyPuts-one, FolderState}
use Rattle.stations.proofs.Names.{OnlyWrites, FaultsStand, CountsStand, HasCause, AreApartFrom, OnlyPuts, FolderFault, fault_of, IsReading}
use Rattle.stations.proofs.Names.{IsWriting, PeerNames, StaysKnown, file_limit, inputs_of, outputs_of, FaultCounts, ReadsOn, SingleFault}
use Rattle.outside_calls.specs.declared.folder.FolderFault.TheVariants as folder
use Rattle.stations.specs.declared.one_end.step.SingleFault.TheVariants as faults

-- no output is the other one, nor the file
abbrev pub IsApart : PeerNames → Type 0
IsApart n = AreApartFrom (inputs_of n) (outputs_of n)

-- ---- what was touched

pub got-only : (a b : FolderState) (n : PeerNames) → OnlyWrites a b n.got → OnlyPuts a b (outputs_of n)
got-only a b n w = OnlyPuts-one a b [] n.got (n.trace ∷ []) w

pub trace-only : (a b : FolderState) (n : PeerNames) → OnlyWrites a b n.trace → OnlyPuts a b (outputs_of n)
trace-only a b n w = OnlyPuts-one a b (n.got ∷ []) n.trace [] w

-- ---- what was counted

abbrev answer : FolderFault → Result (Unit {0}) FolderFault
answer fault = Err fault

-- of a step that writes one of the outputs
pub got-counts : (a b : FolderState) (n : PeerNames) (fault : SingleFault) → FaultCounts a b [] (n.got ∷ []) fault
    → FaultCounts a b (inputs_of n) (outputs_of n) fault
got-counts a b n q3 h = grind (arith)

pub trace-counts : (a b : FolderState) (n : PeerNames) (fault : SingleFault) → FaultCounts a b [] (n.trace ∷ []) fault
    → FaultCounts a b (inputs_of n) (outputs_of n) fault
trace-counts a b n q3 h = grind (arith)

-- or reads the file
pub read-counts : (a b : FolderState) (n : PeerNames) (fault : SingleFault) → FaultCounts a b (n.file ∷ []) [] fault
    → FaultCounts a b (inputs_of n) (outputs_of n) fault
read-counts a b n q3 h = grind (arith)

-- where a call that writes one name is not done
pub write-fault : (fault : FolderFault) → IsWriting (fault_of faults.WriteFault faults.NoMemory fault)
write-fault fault = grind (arith)

pub write-fault-counts : (a b : FolderState) (name : List ℕ) (fault : FolderFault)
    → HasCause (a.write_faults name) (b.write_faults name) a.refusals b.refusals (answer fault)
    → (IsErrOf (answer fault) folder.NoMemory → FaultsStand a b)
    → FaultCounts a b [] (name ∷ []) (fault_of faults.WriteFault faults.NoMemory fault)
write-fault-counts a b name q3 cause spared = grind (arith)

-- or one that reads one
pub read-fault : (fault : FolderFault) → IsReading (fault_of faults.ReadFault faults.NoMemory fault)
read-fault fault = grind (arith)

pub read-fault-counts : (a b : FolderState) (name : List ℕ) (fault : FolderFault)
    → HasCause (a.read_faults name) (b.read_faults name) a.refusals b.refusals (answer fault)
    → (IsErrOf (answer fault) folder.NoMemory → FaultsStand a b)
    → FaultCounts a b (name ∷ []) [] (fault_of faults.ReadFault faults.NoMemory fault)
read-fault-counts a b name q3 cause spared = grind (arith)

-- a fault behind steps that counted nothing
pub counts-later : (a b c : FolderState) (inputs outputs : List (List ℕ)) (fault : SingleFault) → CountsStand a b
    → FaultCounts b c inputs outputs fault → FaultCounts a c inputs outputs fault
counts-later a b c inputs outputs fault s h = grind (arith)

-- ---- which file is known

-- where nothing more was read it is the same
pub stays-known : (a b : FolderState) (n : PeerNames) (file : List ℕ) → IsApart n → OnlyPuts a b (outputs_of n) → length file ≤ file_limit
    → StaysKnown a b n.file file file
stays-known a b n file apart p within = grind (arith)

-- else what was read
pub others-known : (a b c : FolderState) (n : PeerNames) (file others : List ℕ) (now : Account) → IsApart n → OnlyPuts a b (outputs_of n)
    → OnlyPuts a c (outputs_of n) → ReadsOn b n.file file_limit file now others → StaysKnown a c n.file file others
others-known a b c n file others now apart p q r = grind (arith)
