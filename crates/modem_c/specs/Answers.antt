-- What a call answers at a handle, and what the handle leads to then.
use Rattle.std.specs.Prelude.{◌≡◌, ℕ, zero, suc, ℤ, Bool, true, false, Option, Some, None, IsSomeAnd}
use Rattle.std.specs.Option.{MatchOption}
use Rattle.modem_c.specs.CodeNumbers as codes
use Rattle.modem_c.specs.declared.machine.Machine.{Machine}

-- the code at a handle that doesn't lead where the call wants it to
abbrev pub astray : Option Machine → ℤ
astray None = codes.empty
astray (Some machine) = codes.wrong_kind

-- A call that wants one kind of machine. At a handle that leads to no such machine it answers `astray`, the handle stays as it is, and so much holds
-- besides; at any other the handle leads to such a machine before and after it, of which this holds.
abbrev pub AnswersOf : {T : Type 0} → (Option Machine → Option T) → Option Machine → Option Machine → ℤ → Type 0 → (T → T → Type 0) → Type 0
AnswersOf kind old new code besides answers =
    MatchOption (kind old) ((code ≡ astray old) × (new ≡ old) × besides) (λ it. IsSomeAnd (kind new) (answers it))

-- what an octet says that is 0 or 1
abbrev pub flag_of : ℕ → Option Bool
flag_of zero = Some false
flag_of (suc zero) = Some true
flag_of (suc (suc n)) = None
