-- What a turn of one link leaves of the other's names.
use Rattle.link_pair.proofs.Names.{arith, ◌≢◌, ℕ, List, sym, Written, outputs_of, RunFault, FaultCountsOver, KnowsFiles, HoldLeft}
use Rattle.link_pair.proofs.Names.{all_inputs, all_outputs, Progress, FolderState, AreApartFrom, IsNoneOf, OnlyPuts, Both}
use Rattle.line_run.specs.Names.{inputs_of}

-- no output is another one, nor an input
abbrev pub AllApart : Written → Written → Type 0
AllApart n m = AreApartFrom (all_inputs n m) (all_outputs n m)

-- so it is of each link
pub first-apart : (n m : Written) → AllApart n m → AreApartFrom (inputs_of n) (outputs_of n)
first-apart n m given = grind (arith)

pub second-apart : (n m : Written) → AllApart n m → AreApartFrom (inputs_of m) (outputs_of m)
second-apart n m given = grind (arith)

-- the other link's names are none of a link's outputs
pub record IsBeside (m n : Written) : Type 0 where
  pub orig : IsNoneOf m.orig (outputs_of n)
  pub answ : IsNoneOf m.answ (outputs_of n)
  pub got_o : IsNoneOf m.got_o (outputs_of n)
  pub got_a : IsNoneOf m.got_a (outputs_of n)
  pub trace : IsNoneOf m.trace (outputs_of n)

turned : (a b : List ℕ) → a ≢ b → b ≢ a
turned a b h e = h (sym e)

pub second-beside : (n m : Written) → AllApart n m → IsBeside m n
second-beside n m given = grind (arith)

pub first-beside : (n m : Written) → AllApart n m → IsBeside n m
first-beside n m given = grind (arith)

pub known-beside : (a b : FolderState) (m n : Written) (files : Both (List ℕ)) → IsBeside m n → OnlyPuts a b (outputs_of n)
    → KnowsFiles a m files → KnowsFiles b m files
known-beside a b m n files beside only k = grind (arith)

pub held-beside : (a b : FolderState) (m n : Written) (p : Progress) → IsBeside m n → OnlyPuts a b (outputs_of n) → HoldLeft a m p
    → HoldLeft b m p
held-beside a b m n p beside only h = grind (arith)

-- ---- of all names

pub only-first : (a b : FolderState) (n m : Written) → OnlyPuts a b (outputs_of n) → OnlyPuts a b (all_outputs n m)
only-first a b n m only = grind (arith)

pub only-second : (a b : FolderState) (n m : Written) → OnlyPuts a b (outputs_of m) → OnlyPuts a b (all_outputs n m)
only-second a b n m only = grind (arith)

pub first-counts : (a b : FolderState) (n m : Written) (fault : RunFault) → FaultCountsOver a b (inputs_of n) (outputs_of n) fault
    → FaultCountsOver a b (all_inputs n m) (all_outputs n m) fault
first-counts a b n m fault h = grind (arith)

pub second-counts : (a b : FolderState) (n m : Written) (fault : RunFault) → FaultCountsOver a b (inputs_of m) (outputs_of m) fault
    → FaultCountsOver a b (all_inputs n m) (all_outputs n m) fault
second-counts a b n m fault h = grind (arith)
