-- Which codes come of what a handle leads to, and of arguments.
use Rattle.std.specs.Prelude.{◌≡◌, ◌≢◌, ◌⊎◌, ℕ, ℤ, List, ◌++◌, length, drop, Option, Some, None, MatchOption}
use Rattle.modem_c.specs.declared.machine.Machine.{Machine}
use Rattle.modem_c.specs.declared.codes.TheConstants.{DONE, NO_MEMORY, EMPTY, WRONG_KIND, BAD_ARGUMENT}

-- the handle doesn't lead to what the call is for: it is empty, or leads to something else, and stays as it was
abbrev pub Missing : Option Machine → Option Machine → ℤ → Type 0
Missing old new code = (new ≡ old) × MatchOption old (code ≡ EMPTY) (λ _. code ≡ WRONG_KIND)

-- A call on what the handle leads to: of the kind that it is for, it says for itself what it answers, with none of these codes.
abbrev pub Answered : {X : Type 0} → Option X → Option Machine → Option Machine → ℤ → (X → Type 0) → Type 0
Answered found old new code own = MatchOption found (Missing old new code) own

-- an argument is out of its range: the handle stays as it was
abbrev pub Refused : Option Machine → Option Machine → ℤ → Type 0
Refused old new code = (new ≡ old) × (code ≡ BAD_ARGUMENT)

-- a thing is made, and the handle leads to it, or there is no memory, and it stays as it was
abbrev pub Made : Option Machine → Option Machine → ℤ → (Option Machine → Type 0) → Type 0
Made old new code is = ((code ≡ DONE) × is new) ⊎ ((code ≡ NO_MEMORY) × (new ≡ old))

-- So it is where the argument means something, or both do.
abbrev pub MadeOf : {A : Type 0} → Option A → Option Machine → Option Machine → ℤ → (A → Option Machine → Type 0) → Type 0
MadeOf None old new code is = Refused old new code
MadeOf (Some a) old new code is = Made old new code (is a)

abbrev pub MadeOfBoth : {A B : Type 0} → Option A → Option B → Option Machine → Option Machine → ℤ → (A → B → Option Machine → Type 0) → Type 0
MadeOfBoth None second old new code is = Refused old new code
MadeOfBoth (Some a) second old new code is = MadeOf second old new code (is a)

-- EMPTY where the handle leads nowhere, WRONG_KIND where it leads to something else, and neither where it leads to what the call is for
abbrev pub AnswersKind : {M : Type 0} → Option Machine → Option M → ℤ → Type 0
AnswersKind None it code = code ≡ EMPTY
AnswersKind (Some machine) None code = code ≡ WRONG_KIND
AnswersKind (Some machine) (Some it) code = (code ≢ EMPTY) × (code ≢ WRONG_KIND)

-- the room where these octets were written at its beginning: behind them it is as it was
abbrev pub room_with : List ℕ → List ℕ → List ℕ
room_with octets room = octets ++ drop (length octets) room

-- these octets, so many, are written into what was the room before, and nothing else
pub record Puts (octets before after : List ℕ) (count : ℕ) : Type 0 where
  pub count_is : count ≡ length octets
  pub written : after ≡ room_with octets before
