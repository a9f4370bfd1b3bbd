-- What the steps of a turn leave of the folder, in a row.
use Rattle.line_world.proofs.Cited.{arith, ℕ, List, [], ◌++◌, Written, inputs_of, outputs_of, received_of, RunFault, AreWithin, ReadsBoth}
use Rattle.line_world.proofs.Cited.{handed, FaultCountsOver, IsWriting, FaultCounts, StayKnown, KnowsFiles, Accounts, OnlyPuts-one}
use Rattle.line_world.proofs.Cited.{FolderState, GoesOn, OnlyWrites, CountsStand, KeepsEach, AreApartFrom, OnlyPuts, Both}
use Rattle.line_run.specs.declared.fault.RunFault.TheVariants as run_faults
use Rattle.line_world.proofs.Several.{rose-front, rose-behind}

-- no output is another one, nor an input
abbrev pub IsApart : Written → Type 0
IsApart n = AreApartFrom (inputs_of n) (outputs_of n)

-- the lines of a turn touch the trace alone
pub lines-only : (a b : FolderState) (n : Written) → OnlyWrites a b n.trace → OnlyPuts a b (outputs_of n)
lines-only a b n w = OnlyPuts-one a b (received_of n) n.trace [] w

-- the line of a chance match touches no received file
pub receives-none : (a b : FolderState) (n : Written) → IsApart n → OnlyWrites a b n.trace → KeepsEach a b (received_of n)
receives-none a b n apart w = (w.names n.got_o apart.0.0.1.0, (w.names n.got_a apart.0.1.0.0, tt))

-- a fault behind steps that counted nothing
pub counts-later : (a b c : FolderState) (n : Written) (fault : RunFault) → CountsStand a b → FaultCounts b c n fault
    → FaultCounts a c n fault
counts-later a b c n fault s h = grind (arith)

-- the outputs are some of all that is written
pub counts-front : (a b : FolderState) (inputs outputs others : List (List ℕ)) (fault : RunFault) → FaultCountsOver a b inputs outputs fault
    → FaultCountsOver a b inputs (outputs ++ others) fault
counts-front a b inputs outputs others fault h = grind (arith, rose-front)

-- and so are those behind them
pub counts-behind : (a b c : FolderState) (inputs outputs others : List (List ℕ)) (fault : RunFault) → IsWriting fault → CountsStand a b
    → FaultCountsOver b c [] others fault → FaultCountsOver a c inputs (outputs ++ others) fault
counts-behind a b c inputs outputs others run_faults.WriteFault w s h = grind (arith, rose-behind)
counts-behind a b c inputs outputs others run_faults.NoMemory w s h = grind (arith)
counts-behind a b c inputs outputs others fault w s h = absurd w

-- ---- which files are known

-- where nothing more was read they are the same
pub stay-known : (a b : FolderState) (n : Written) (files : Both (List ℕ)) → IsApart n → OnlyPuts a b (outputs_of n) → AreWithin files
    → StayKnown a b n files files
stay-known a b n files apart p within = grind (arith)

pub others-known : (a b c : FolderState) (n : Written) (files others : Both (List ℕ)) (mid : Accounts) → IsApart n
    → OnlyPuts a b (outputs_of n) → OnlyPuts a c (outputs_of n) → ReadsBoth b n files (handed mid) others → StayKnown a c n files others
others-known a b c n files others mid apart p q r = grind (arith)

-- files that are known stay so where their names are kept
pub knows-kept : (a b : FolderState) (n : Written) (files : Both (List ℕ)) → GoesOn a b → KeepsEach a b (inputs_of n) → KnowsFiles a n files
    → KnowsFiles b n files
knows-kept a b n files g kept k = grind (arith)
