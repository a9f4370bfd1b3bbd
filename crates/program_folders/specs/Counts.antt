-- Counts with numbers of their own, as they are known apart from any call.
use Rattle.std.specs.Prelude.{◌≡◌, ℕ, List, Err, false}
use Rattle.outside_calls.specs.Folder.{FolderState, raised, HasCause}
use Rattle.outside_calls.specs.declared.folder.FolderFault.TheVariants.{Failed, NoMemory}
use Rattle.program_folders.specs.Disk.{disk_folder, CountsFault}
use Rattle.program_folders.specs.Audited.{Swallowed, audit_state}

-- the last value of a count
abbrev pub last_value : ℕ
last_value = 18446744073709551615

-- one below it
abbrev pub next_to_last : ℕ
next_to_last = 18446744073709551614

-- A count rises by one up to its last value and stands there. So a fault whose count stands has its cause there, and nowhere else.
pub record CountsRise : Type 0 where
  pub first : raised 0 ≡ 1
  pub to_last : raised next_to_last ≡ last_value
  pub stands : raised last_value ≡ last_value
  pub at_last : HasCause {T = ℕ} last_value last_value 0 0 (Err Failed)
  pub below_last : HasCause {T = ℕ} next_to_last next_to_last 0 0 (Err Failed) → ⊥
  pub of_memory : HasCause {T = ℕ} 7 7 last_value last_value (Err NoMemory)

-- A disk that counted two faults of reading, three of writing and saying, and five refusals tells no name, and each name has the first two.
pub record DiskCountsAre (name : List ℕ) (f : FolderState) : Type 0 where
  pub tells : f.tells name ≡ false
  pub reads : f.read_faults name ≡ 2
  pub writes : f.write_faults name ≡ 3
  pub says : f.say_faults ≡ 3
  pub refused : f.refusals ≡ 5

abbrev pub DiskCountsAreKnown : Type 0
DiskCountsAreKnown = (name : List ℕ) → DiskCountsAre name (disk_folder (record { read_faults = 2; write_faults = 3; refusals = 5 }))

-- at a fault one of its counts rises, and at a refusal the other
abbrev pub DiskCountsRise : Type 0
DiskCountsRise = CountsFault {T = ℕ} (Err Failed) 2 3 5 5 × CountsFault {T = ℕ} (Err NoMemory) 2 2 5 6
    × CountsFault {T = ℕ} (Err Failed) last_value last_value 5 5

-- The folder of an audit has the refusals of the folder below and its own: of four and three seven, and of the last value and one more.
abbrev pub AuditsCountBoth : Type 0
AuditsCountBoth = (f : FolderState) (n : Swallowed) (text : List ℕ)
    → (f.refusals ≡ 4 → (audit_state f n text 3).refusals ≡ 7)
    × (f.refusals ≡ last_value → (audit_state f n text 1).refusals ≡ 18446744073709551616)
