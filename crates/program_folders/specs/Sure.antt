-- What a sure folder keeps, what it stands for, and what its calls leave.
use Rattle.std.specs.Prelude.{◌≡◌, ℕ, List, true, Some, refl, Result, Ok, Err}
use Rattle.std.specs.FinMap as finite
use Rattle.std.specs.Coded.{Coded, code_by, coded×, coded_ℕ, coded_list}
use Rattle.outside_calls.specs.Folder.{Files, FolderState, raised}
use Rattle.outside_calls.specs.declared.folder.FolderFault.{FolderFault}
use Rattle.outside_calls.specs.declared.folder.FolderFault.TheVariants.{Failed, NoMemory}

-- The files, what was said, how many calls were made, and how many of them found no memory.
pub record SureState : Type 0 where
  pub held : Files
  pub said : List ℕ
  pub calls : ℕ
  pub refusals : ℕ

-- it is stored as the tuple of its fields
abbrev pub sure_code : Coded SureState
sure_code = code_by
    (Files × (List ℕ × (ℕ × ℕ)))
    (coded× (finite.code (coded_list coded_ℕ) (coded_list coded_ℕ)) (coded× (coded_list coded_ℕ) (coded× coded_ℕ coded_ℕ)))
    (λ s. (s.held, (s.said, (s.calls, s.refusals))))
    (λ p. record { held = p.0; said = p.1.0; calls = p.1.1.0; refusals = p.1.1.1 })
    (λ _. refl)

-- it tells every name, and no fault is ever counted
abbrev pub sure_folder : SureState → FolderState
sure_folder s = record {
  held = s.held;
  tells = λ _. true;
  said = Some s.said;
  read_faults = λ _. 0;
  write_faults = λ _. 0;
  say_faults = 0;
  refusals = s.refusals;
}

-- one more call was made
abbrev pub counted : SureState → SureState
counted s = record s { calls = raised s.calls }

-- After a call that was to make `done` of the folder: all of it, or nothing but one refusal more. It never fails.
abbrev pub AfterSureWrite : SureState → SureState → SureState → Result (Unit {0}) FolderFault → Type 0
AfterSureWrite old new done (Ok nothing) = new ≡ counted done
AfterSureWrite old new done (Err Failed) = ⊥
AfterSureWrite old new done (Err NoMemory) = new ≡ counted (record old { refusals = raised old.refusals })
