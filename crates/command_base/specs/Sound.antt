-- When a folder is sound for a call, and what is then left of the answers.
use Rattle.std.specs.Prelude.{◌≡◌, ◌⊎◌, ℕ, List, [], ◌∷◌}
use Rattle.outside_calls.specs.Folder.{FolderState, Rose}
use Rattle.command_base.specs.declared.status.Status.{Status}
use Rattle.command_base.specs.declared.status.Status.TheVariants.{Done, NoMemory}

-- of none of these names the count rose, or stands at its last value
abbrev pub NoneRose : (List ℕ → ℕ) → (List ℕ → ℕ) → List (List ℕ) → Type 0
NoneRose before now [] = Unit {0}
NoneRose before now (name ∷ names) = (Rose (before name) (now name) → ⊥) × NoneRose before now names

-- None of the counts that license a fault rose, or stands at its last value: those of reading the inputs, of writing the outputs, and
-- of saying.
pub record IsSound (old new : FolderState) (inputs outputs : List (List ℕ)) : Type 0 where
  pub reads : NoneRose old.read_faults new.read_faults inputs
  pub writes : NoneRose old.write_faults new.write_faults outputs
  pub says : Rose old.say_faults new.say_faults → ⊥

-- the command is done, or there was no memory
abbrev pub DoneUnlessMemory : Status → Type 0
DoneUnlessMemory s = (s ≡ Done) ⊎ (s ≡ NoMemory)
