use Rattle.lapm_link.proofs.Names.{◌≡◌, ◌≤◌, ℕ, false, if◌then◌else◌, List, length, Option, Some, None, refl, subst, nat_lt, arith}
use Rattle.lapm_link.proofs.Names.{nat_tests, StandsFor, AnyEnd}
use Rattle.std.specs.Prelude.{slice_index_or}
use Rattle.lapm_link.proofs.any_end.AnyEnd.given_break.Goals as goal

not-less : (n : ℕ) → nat_lt n n ≡ false
not-less n = grind (arith, nat_tests)

-- once all are told, none waits
all-told : (given : Option ℕ) (lengths : List ℕ) → given ≡ None
    → given ≡ (if nat_lt (length lengths) (length lengths) then Some (slice_index_or lengths (length lengths) 0) else None)
all-told given lengths e = rw (e, not-less (length lengths)) refl

pub returns-in-Connected-clause-account : goal.returns-in-Connected-clause-account
returns-in-Connected-clause-account c = λ a h.
    let l = subst (λ (v : AnyEnd). StandsFor v a) c.in-Connected.is h in
    let all : length a.their_breaks.lengths ≤ length a.their_breaks.lengths = omega arith in
    let none : c.take.new.self ≡ None = grind arith in
    assumption (all, all-told _ a.their_breaks.lengths none)

pub returns-in-Connected-clause-given : goal.returns-in-Connected-clause-given
returns-in-Connected-clause-given c = grind arith
