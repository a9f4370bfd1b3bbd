-- What a folder of the disk keeps, what it stands for, and how its faults are counted.
use Rattle.std.specs.Prelude.{◌≡◌, ℕ, false, None, Result, Ok, Err}
use Rattle.std.specs.FinMap as finite
use Rattle.outside_calls.specs.Folder.{FolderState, raised}
use Rattle.outside_calls.specs.declared.folder.FolderFault.{FolderFault}
use Rattle.outside_calls.specs.declared.folder.FolderFault.TheVariants.{Failed, NoMemory}

-- The faults of all reads, those of all writes and of `say`, and the memory refusals.
pub record DiskCounts : Type 0 where
  pub read_faults : ℕ
  pub write_faults : ℕ
  pub refusals : ℕ

-- nothing is told
abbrev pub disk_folder : DiskCounts → FolderState
disk_folder c = record {
  held = finite.empty;
  tells = λ _. false;
  said = None;
  read_faults = λ _. c.read_faults;
  write_faults = λ _. c.write_faults;
  say_faults = c.write_faults;
  refusals = c.refusals;
}

-- one count rose at a fault, and none at `Ok`
abbrev pub CountsFault : {T : Type 0} → Result T FolderFault → ℕ → ℕ → ℕ → ℕ → Type 0
CountsFault (Ok value) faults faults_now refusals refusals_now = (faults_now ≡ faults) × (refusals_now ≡ refusals)
CountsFault (Err Failed) faults faults_now refusals refusals_now = (faults_now ≡ raised faults) × (refusals_now ≡ refusals)
CountsFault (Err NoMemory) faults faults_now refusals refusals_now = (faults_now ≡ faults) × (refusals_now ≡ raised refusals)
