-- Outputs that are created in order.
use Rattle.command_base.proofs.Names.{arith, inl, inr, ℕ, List, [], ◌∷◌, WriteFails, Holds-kept, GoesOn-trans, KeepsName-trans, FolderState}
use Rattle.command_base.proofs.Names.{GoesOn, KeepsName, CountsStand, IsNoneOf, CreatesPart, OnlyOutputs, FolderFault, ◌⊎◌, Err, IsErrOf}
use Rattle.command_base.proofs.Names.{NoMemory, HasCause, FaultsStand, IsTrue, subst}
use Rattle.outside_calls.specs.Folder.{OnlyWrites, Created}
use Rattle.outside_calls.specs.declared.folder.FolderFault.TheVariants as folder
use Rattle.outside_calls.specs.Outputs.{Holds, KeptOrEmpty, KeepsEach}
use Rattle.outside_calls.proofs.Putting.{KeepsEach-writes, KeepsEach-trans}
use Rattle.command_base.proofs.Jobs.{write-earlier}

-- what a call leaves that makes an output, or fails to
pub made-empty : (old new : FolderState) (name : List ℕ) → OnlyWrites old new name → Created old new name → Holds new name []
made-empty old new name only made told = made (subst IsTrue (only.goes_on.tells name) told)

pub kept-or-made : (old new : FolderState) (name : List ℕ) → OnlyWrites old new name → KeepsName old new name ⊎ Created old new name
    → KeptOrEmpty old new name
kept-or-made old new name only (inl kept) = inl kept
kept-or-made old new name only (inr made) = inr (made-empty old new name only made)

-- a call that writes and fails, by the count of its name
pub write-fails : (old new : FolderState) (name : List ℕ) (fault : FolderFault)
    → HasCause {T = Unit {0}} (old.write_faults name) (new.write_faults name) old.refusals new.refusals (Err fault)
    → (IsErrOf {T = Unit {0}} {E = FolderFault} (Err fault) NoMemory → FaultsStand old new) → WriteFails old new (name ∷ []) fault
write-fails old new name fault cause spared = grind (arith)

kept-earlier : (old mid new : FolderState) (name : List ℕ) → GoesOn old mid → KeepsName old mid name → KeptOrEmpty mid new name
    → KeptOrEmpty old new name
kept-earlier old mid new name g k given = grind (arith)

-- steps that kept each output come before they are created
pub CreatesPart-earlier : (old mid new : FolderState) (names : List (List ℕ)) → GoesOn old mid → KeepsEach old mid names
    → CreatesPart mid new names → CreatesPart old new names
CreatesPart-earlier old mid new [] g k c = c
CreatesPart-earlier old mid new (name ∷ names) g k (inl c) =
    inl (kept-earlier old mid new name g k.0 c.0, KeepsEach-trans old mid new names g k.1 c.1)
CreatesPart-earlier old mid new (name ∷ names) g k (inr c) = inr (c.0, CreatesPart-earlier old mid new names g k.1 c.1)

-- the first is created, and not all of the others
pub CreatesPart-first : (old mid new : FolderState) (name : List ℕ) (names : List (List ℕ)) → IsNoneOf name names → OnlyWrites old mid name
    → Holds mid name [] → OnlyOutputs mid new names → CreatesPart mid new names → CreatesPart old new (name ∷ names)
CreatesPart-first old mid new name names apart w holds only part =
    inr (
      Holds-kept mid new name [] only.goes_on holds (only.names name apart),
      CreatesPart-earlier old mid new names w.goes_on (KeepsEach-writes old mid name names apart w) part,
    )

-- or not even the first
pub CreatesPart-none : (old new : FolderState) (name : List ℕ) (names : List (List ℕ)) → IsNoneOf name names → OnlyWrites old new name
    → KeptOrEmpty old new name → CreatesPart old new (name ∷ names)
CreatesPart-none old new name names apart w kept = inl (kept, KeepsEach-writes old new name names apart w)

-- names that are touched, and those alone
pub OnlyOutputs-first : (old mid new : FolderState) (name : List ℕ) (names : List (List ℕ)) → OnlyWrites old mid name
    → OnlyOutputs mid new names → OnlyOutputs old new (name ∷ names)
OnlyOutputs-first old mid new name names w only = record {
  goes_on = GoesOn-trans w.goes_on only.goes_on;
  names = λ other apart. KeepsName-trans old mid new other w.goes_on (w.names other apart.0) (only.names other apart.1);
}

pub OnlyOutputs-none : (old new : FolderState) (name : List ℕ) (names : List (List ℕ)) → OnlyWrites old new name
    → OnlyOutputs old new (name ∷ names)
OnlyOutputs-none old new name names w = record { goes_on = w.goes_on; names = λ other apart. w.names other apart.0 }

-- the first of some names was not made
pub WriteFails-first : (old new : FolderState) (name : List ℕ) (names : List (List ℕ)) (fault : FolderFault)
    → WriteFails old new (name ∷ []) fault → WriteFails old new (name ∷ names) fault
WriteFails-first old new name names folder.Failed (inl rose) = inl rose
WriteFails-first old new name names folder.Failed (inr never) = absurd never
WriteFails-first old new name names folder.NoMemory refused = refused

pub WriteFails-later : (old mid new : FolderState) (name : List ℕ) (names : List (List ℕ)) (fault : FolderFault) → CountsStand old mid
    → WriteFails mid new names fault → WriteFails old new (name ∷ names) fault
WriteFails-later old mid new name names fault stand fails = more fault (write-earlier old mid new names fault stand fails)
  where
    more : (fault : FolderFault) → WriteFails old new names fault → WriteFails old new (name ∷ names) fault
    more fault rose = grind (arith)
