-- What an answer tells of the line that was said last, and of what it belongs to.
use Rattle.command_base.proofs.Names.{◌≡◌, ◌≢◌, ◌⊎◌, ℕ, List, arith, IsRefusal, PassesNoneOver, Tells, Status, WriteFault, FolderState}
use Rattle.command_base.proofs.Names.{GoesOn, Said, Rose}
use Rattle.command_base.specs.declared.status.Status.TheVariants.{Usage, ReadFault, NoMemory}

-- an answer that isn't given where a line was not said whole
pub record IsPlain (s : Status) : Type 0 where
  pub write : s ≢ WriteFault
  pub memory : s ≢ NoMemory

read-write : ReadFault ≢ WriteFault
read-write e = cc

read-memory : ReadFault ≢ NoMemory
read-memory e = cc

pub read-plain : IsPlain ReadFault
read-plain = record { write = read-write; memory = read-memory }

usage-write : Usage ≢ WriteFault
usage-write e = cc

usage-memory : Usage ≢ NoMemory
usage-memory e = cc

pub usage-plain : IsPlain Usage
usage-plain = record { write = usage-write; memory = usage-memory }

-- a plain answer is the one whose line was to be said, and it was said
pub tells-plain : (old new : FolderState) (line : List ℕ) (answer s t : Status) → Tells old new line answer s → s ≡ t → IsPlain t
    → (answer ≡ t) × Said old new line
tells-plain old new line answer s t tells e p = grind (arith)

-- a write fault is the answer's own, or the say's
pub tells-fault : (old new : FolderState) (line : List ℕ) (answer s : Status) → Tells old new line answer s → s ≡ WriteFault
    → (answer ≡ WriteFault) ⊎ Rose old.say_faults new.say_faults
tells-fault old new line answer s tells e = grind (arith)

-- want of memory is the answer's own, or the say's
pub tells-memory : (old new : FolderState) (line : List ℕ) (answer s : Status) → Tells old new line answer s → s ≡ NoMemory
    → (answer ≡ NoMemory) ⊎ Rose old.refusals new.refusals
tells-memory old new line answer s tells e = grind (arith)

pub tells-refusal : (old new : FolderState) (line : List ℕ) (answer s : Status) → Tells old new line answer s → IsRefusal s
    → IsRefusal answer
tells-refusal old new line answer s tells r = grind (arith)

-- what was counted before the line was said, and then
pub stand-later : (old before new : FolderState) (line : List ℕ) (answer s : Status) → PassesNoneOver old before answer
    → Tells before new line answer s → PassesNoneOver old new s
stand-later old before new line answer s first tells = grind (arith)

-- where saying doesn't fail the answer is the one whose line was to be said, or there was no memory
pub told-or-memory : (old before new : FolderState) (line : List ℕ) (answer s : Status) → GoesOn old before
    → (Rose old.say_faults new.say_faults → ⊥) → Tells before new line answer s → (s ≡ answer) ⊎ (s ≡ NoMemory)
told-or-memory old before new line answer s on still tells = grind (arith)
