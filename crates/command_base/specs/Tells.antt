-- What is said last.
use Rattle.std.specs.Prelude.{◌≡◌, ◌⊎◌, ℕ, List}
use Rattle.outside_calls.specs.Folder.{FolderState, OnlySays, Said, PartlySaid, Rose, FaultsStand}
use Rattle.command_base.specs.declared.status.Status.{Status}
use Rattle.command_base.specs.declared.status.Status.TheVariants.{WriteFault, NoMemory}
use Rattle.command_base.specs.Status.{PassesNoneOver}

-- A line was said, and the answer is the one that it belongs to; or a part of it was said, and the answer is the fault.
pub record Tells (old new : FolderState) (line : List ℕ) (answer s : Status) : Type 0 where
  pub only : OnlySays old new
  pub said : ((s ≡ answer) × Said old new line)
      ⊎ ((s ≡ WriteFault) × Rose old.say_faults new.say_faults × PartlySaid old new line)
      ⊎ ((s ≡ NoMemory) × FaultsStand old new × Rose old.refusals new.refusals × PartlySaid old new line)
  pub stand : PassesNoneOver old new s
