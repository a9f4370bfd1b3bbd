-- A break that comes again is given once.
use Rattle.std.proofs.Common.{◌≡◌, ◌+◌, ◌%◌, Bool, true, false, [], ◌∷◌, ◌++◌, length, nat_eq, refl, arith, None}
use Rattle.std.proofs.lemmas.Grind.{common_steps}
use Rattle.std.proofs.lemmas.Bool.Decides.{nat_tests}
use Rattle.break_signals.specs.Breaks.{GivesOnce, gives, after_break}

pub gives_once_always : GivesOnce
gives_once_always number first again b = at (nat_eq number (length b.lengths % 2)) refl
  where
    at : (t : Bool) → nat_eq number (length b.lengths % 2) ≡ t → gives number again (after_break number first b) ≡ None
    at true e =
        let longer : length (b.lengths ++ first ∷ []) ≡ length b.lengths + 1 = grind (arith, common_steps) in
        let other : nat_eq number (length (b.lengths ++ first ∷ []) % 2) ≡ false = grind (arith, nat_tests, e, longer) in
        rw (e, other) refl
    at false e = rw (e, e) refl
