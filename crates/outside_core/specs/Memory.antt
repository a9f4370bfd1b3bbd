-- What a folder in memory keeps, what it stands for, and what its calls leave.
use Rattle.std.specs.Prelude.{◌≡◌, ℕ, List, true, Some, refl, Result, Ok, Err, Contains}
use Rattle.std.specs.FinMap as finite
use Rattle.std.specs.Coded.{Coded, code_by, coded×, coded_ℕ, coded_list}
use Rattle.outside_calls.specs.Folder.{Files, FolderState, raised}
use Rattle.outside_calls.specs.declared.folder.FolderFault.{FolderFault}
use Rattle.outside_calls.specs.declared.folder.FolderFault.TheVariants.{Failed, NoMemory}

-- The files, what was said, how many calls were made, the numbers of those that are to fail, and the counts.
pub record MemoryState : Type 0 where
  pub held : Files
  pub said : List ℕ
  pub calls : ℕ
  pub fails : List ℕ
  pub read_faults : ℕ
  pub write_faults : ℕ
  pub refusals : ℕ

-- it is stored as the tuple of its fields
abbrev pub memory_code : Coded MemoryState
memory_code = code_by
    (Files × (List ℕ × (ℕ × (List ℕ × (ℕ × (ℕ × ℕ))))))
    (coded× (finite.code (coded_list coded_ℕ) (coded_list coded_ℕ))
    (coded× (coded_list coded_ℕ) (coded× coded_ℕ (coded× (coded_list coded_ℕ) (coded× coded_ℕ (coded× coded_ℕ coded_ℕ))))))
    (λ s. (s.held, (s.said, (s.calls, (s.fails, (s.read_faults, (s.write_faults, s.refusals)))))))
    (λ p. record {
      held = p.0;
      said = p.1.0;
      calls = p.1.1.0;
      fails = p.1.1.1.0;
      read_faults = p.1.1.1.1.0;
      write_faults = p.1.1.1.1.1.0;
      refusals = p.1.1.1.1.1.1;
    })
    (λ _. refl)

-- it tells every name; one count is that of all reads, and one that of all writes and of `say`
abbrev pub memory_folder : MemoryState → FolderState
memory_folder s = record {
  held = s.held;
  tells = λ _. true;
  said = Some s.said;
  read_faults = λ _. s.read_faults;
  write_faults = λ _. s.write_faults;
  say_faults = s.write_faults;
  refusals = s.refusals;
}

-- one more call was made
abbrev pub counted : MemoryState → MemoryState
counted s = record s { calls = raised s.calls }

-- the number of the next call is among those that are to fail
abbrev pub FailsNext : MemoryState → Type 0
FailsNext s = Contains s.fails (raised s.calls)

-- After a read: nothing but the calls and, where it failed, the read faults. It takes no memory.
abbrev pub AfterRead : MemoryState → MemoryState → Result ℕ FolderFault → Type 0
AfterRead old new (Ok count) = new ≡ counted old
AfterRead old new (Err Failed) = new ≡ counted (record old { read_faults = raised old.read_faults })
AfterRead old new (Err NoMemory) = ⊥

-- After a call that was to make `done` of the folder: all of it, or nothing but one fault or refusal more.
abbrev pub AfterWrite : MemoryState → MemoryState → MemoryState → Result (Unit {0}) FolderFault → Type 0
AfterWrite old new done (Ok nothing) = new ≡ counted done
AfterWrite old new done (Err Failed) = new ≡ counted (record old { write_faults = raised old.write_faults })
AfterWrite old new done (Err NoMemory) = new ≡ counted (record old { refusals = raised old.refusals })
