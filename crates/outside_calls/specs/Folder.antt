-- What a folder stands for, and what its calls leave.
use Rattle.std.specs.Prelude.{◌≡◌, ◌≢◌, ◌↔◌, ◌⊎◌, ℕ, ◌+◌, ◌-◌, ◌^◌, ◌≤◌, min, Bool, IsTrue, List, [], ◌++◌, length, take, drop, Option, Some, unwrap_or, Result, IsErrOf}
use Rattle.std.specs.Option.{option_map}
use Rattle.std.specs.FinMap as map
use Rattle.std.specs.Ordering.{nat_cmp}
use Rattle.std.specs.Cmp.Lexicographic.{slice_cmp}
use Rattle.std.specs.IoError.{error_kind}
use Rattle.std.specs.declared.io.Error.{Error}
use Rattle.std.specs.declared.io.ErrorKind.TheVariants.{OutOfMemory}
use Rattle.frame_check.specs.Octets.{AreOctets}
use Rattle.shared_terms.specs.Prefix.{IsPrefixOf}
use Rattle.outside_calls.specs.declared.folder.FolderFault.{FolderFault}
use Rattle.outside_calls.specs.declared.folder.FolderFault.TheVariants.{Failed, NoMemory}

-- a finite map from names to octets, a name being the octets of its text
abbrev pub Files : Type 0
Files = map.FinMap (slice_cmp nat_cmp) (List ℕ)

-- What a folder stands for: what it holds, of which names it tells that, what was said, and its counts.
pub record FolderState : Type 0 where
  pub held : Files
  pub tells : List ℕ → Bool
  pub said : Option (List ℕ)
  pub read_faults : List ℕ → ℕ
  pub write_faults : List ℕ → ℕ
  pub say_faults : ℕ
  pub refusals : ℕ

-- what a name holds, where it is held
abbrev pub held_at : FolderState → List ℕ → Option (List ℕ)
held_at f name = map.get f.held name

-- the octets of a name, none where it is not held
abbrev pub octets_at : FolderState → List ℕ → List ℕ
octets_at f name = unwrap_or (held_at f name) []

-- one more, up to the last value of a count
abbrev pub raised : ℕ → ℕ
raised count = min (count + 1) (2 ^ 64 - 1)

-- a count rose, or stands at its last value
abbrev pub Rose : ℕ → ℕ → Type 0
Rose before now = raised before ≤ now

-- Later in one run: no count fell, and the same names are told.
pub record GoesOn (old new : FolderState) : Type 0 where
  pub tells : (name : List ℕ) → new.tells name ≡ old.tells name
  pub reads : (name : List ℕ) → old.read_faults name ≤ new.read_faults name
  pub writes : (name : List ℕ) → old.write_faults name ≤ new.write_faults name
  pub says : old.say_faults ≤ new.say_faults
  pub refused : old.refusals ≤ new.refusals

-- No fault was counted, of any name or of what is said.
pub record FaultsStand (old new : FolderState) : Type 0 where
  pub reads : (name : List ℕ) → new.read_faults name ≡ old.read_faults name
  pub writes : (name : List ℕ) → new.write_faults name ≡ old.write_faults name
  pub says : new.say_faults ≡ old.say_faults

-- Nothing was counted, neither a fault nor a memory refusal.
pub record CountsStand (old new : FolderState) : Type 0 where
  pub faults : FaultsStand old new
  pub refusals : new.refusals ≡ old.refusals

-- what is told of a name stays as it was
abbrev pub KeepsName : FolderState → FolderState → List ℕ → Type 0
KeepsName old new name = IsTrue (old.tells name) → held_at new name ≡ held_at old name

-- Reading alone: nothing that is told changed, and the counts of writing and saying stand.
pub record OnlyReads (old new : FolderState) : Type 0 where
  pub goes_on : GoesOn old new
  pub names : (other : List ℕ) → KeepsName old new other
  pub said : new.said ≡ old.said
  pub write_faults : (other : List ℕ) → new.write_faults other ≡ old.write_faults other
  pub say_faults : new.say_faults ≡ old.say_faults

-- Writing to one name alone: no other name changed, nothing was said, and the counts of reading stand.
pub record OnlyWrites (old new : FolderState) (name : List ℕ) : Type 0 where
  pub goes_on : GoesOn old new
  pub names : (other : List ℕ) → other ≢ name → KeepsName old new other
  pub said : new.said ≡ old.said
  pub read_faults : (other : List ℕ) → new.read_faults other ≡ old.read_faults other

-- Saying alone: no name changed, and the counts of reading stand.
pub record OnlySays (old new : FolderState) : Type 0 where
  pub goes_on : GoesOn old new
  pub names : (other : List ℕ) → KeepsName old new other
  pub read_faults : (other : List ℕ) → new.read_faults other ≡ old.read_faults other

-- a call's fault has its cause: the count of its own that is named first, or the memory refusals
pub record HasCause {T : Type 0} (faults_before faults_now refusals_before refusals_now : ℕ) (result : Result T FolderFault) : Type 0 where
  pub failed : IsErrOf result Failed → Rose faults_before faults_now
  pub memory : IsErrOf result NoMemory → Rose refusals_before refusals_now

-- the front of the buffer has the octets from `at` on, where the name is told, and the rest stands
abbrev pub ReadsFront : FolderState → List ℕ → ℕ → List ℕ → List ℕ → ℕ → Type 0
ReadsFront f name at before after count =
    IsTrue (f.tells name) → let rest = drop at (octets_at f name) in
    (count ≡ min (length before) (length rest)) × (after ≡ take count rest ++ drop count before)

-- what is told of a name are octets
abbrev pub TellsOctets : FolderState → List ℕ → Type 0
TellsOctets f name = IsTrue (f.tells name) → AreOctets (octets_at f name)

-- octets stand behind what the name held
abbrev pub Appended : FolderState → FolderState → List ℕ → List ℕ → Type 0
Appended old new name piece = IsTrue (old.tells name) → held_at new name ≡ Some (octets_at old name ++ piece)

-- a prefix of the piece was put, or the name stands as it was
abbrev pub PartlyAppended : FolderState → FolderState → List ℕ → List ℕ → Type 0
PartlyAppended old new name piece =
    IsTrue (old.tells name) → (held_at new name ≡ held_at old name)
    ⊎ ((part : List ℕ) × IsPrefixOf part piece × (held_at new name ≡ Some (octets_at old name ++ part)))

-- the name holds no octets
abbrev pub Created : FolderState → FolderState → List ℕ → Type 0
Created old new name = IsTrue (old.tells name) → held_at new name ≡ Some []

-- the piece stands behind what was said
abbrev pub Said : FolderState → FolderState → List ℕ → Type 0
Said old new piece = new.said ≡ option_map (λ s. s ++ piece) old.said

-- a prefix of the piece stands behind what was said
abbrev pub PartlySaid : FolderState → FolderState → List ℕ → Type 0
PartlySaid old new piece = (part : List ℕ) × IsPrefixOf part piece × Said old new part

-- octets stand behind what a name held; where there are none it may be left as it was
abbrev pub Adds : FolderState → FolderState → List ℕ → List ℕ → Type 0
Adds old new name piece = ((piece ≡ []) × KeepsName old new name) ⊎ Appended old new name piece

-- an error for want of memory is named so, and no other
abbrev pub IsFaultOf : Error → FolderFault → Type 0
IsFaultOf error fault = (fault ≡ NoMemory) ↔ (error_kind error ≡ OutOfMemory)
