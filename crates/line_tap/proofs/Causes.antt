-- Why a call of a folder failed, told of all names of a tap.
use Rattle.line_tap.proofs.Cited.{arith, inl, inr, ℕ, List, [], ◌∷◌, ◌++◌, Result, Err, FolderState, CountsStand, SomeRose}
use Rattle.std.proofs.Common.{IsErrOf}
use Rattle.outside_calls.specs.Folder.{HasCause, FaultsStand}
use Rattle.outside_calls.specs.declared.folder.FolderFault.{FolderFault}
use Rattle.outside_calls.specs.declared.folder.FolderFault.TheVariants.{Failed, NoMemory}
use Rattle.command_base.specs.Stops.{ReadFails, WriteFails}

-- a call that writes, by its cause
pub writes-fail : {T : Type 0} (old new : FolderState) (name : List ℕ) (fault : FolderFault)
    → HasCause {T = T} (old.write_faults name) (new.write_faults name) old.refusals new.refusals (Err fault)
    → (IsErrOf {T = T} {E = FolderFault} (Err fault) NoMemory → FaultsStand old new) → WriteFails old new (name ∷ []) fault
writes-fail old new name fault cause spared = grind (arith)

-- the count of one name rose, which stands among some
some-rose : (before now : List ℕ → ℕ) (front : List (List ℕ)) (name : List ℕ) (behind : List (List ℕ)) → SomeRose before now (name ∷ [])
    → SomeRose before now (front ++ name ∷ behind)
some-rose before now [] name behind (inl rose) = inl rose
some-rose before now [] name behind (inr never) = absurd never
some-rose before now (first ∷ front) name behind some = inr (some-rose before now front name behind some)

pub write-among : (old new : FolderState) (front : List (List ℕ)) (name : List ℕ) (behind : List (List ℕ)) (fault : FolderFault)
    → WriteFails old new (name ∷ []) fault → WriteFails old new (front ++ name ∷ behind) fault
write-among old new front name behind Failed fails = some-rose old.write_faults new.write_faults front name behind fails
write-among old new front name behind NoMemory fails = fails

pub read-among : (old new : FolderState) (front : List (List ℕ)) (name : List ℕ) (behind : List (List ℕ)) (fault : FolderFault)
    → ReadFails old new (name ∷ []) fault → ReadFails old new (front ++ name ∷ behind) fault
read-among old new front name behind Failed fails = some-rose old.read_faults new.read_faults front name behind fails
read-among old new front name behind NoMemory fails = fails

-- calls that counted nothing come before the one that has a cause
pub cause-earlier : {T : Type 0} (old mid new : FolderState) (name : List ℕ) (result : Result T FolderFault) → CountsStand old mid
    → HasCause (mid.write_faults name) (new.write_faults name) mid.refusals new.refusals result
    → HasCause (old.write_faults name) (new.write_faults name) old.refusals new.refusals result
cause-earlier old mid new name result stand cause = grind (arith)
