-- What is written is read back, and what is read is written so.
use Rattle.std.proofs.Common.{◌≡◌, ℕ, Bool, true, false, cond, ◌||◌, List, [], ◌∷◌, nat_eq, nat_lt, refl, subst, arith, Ok, Err}
use Rattle.std.proofs.lemmas.Bool.Decides.{nat_tests}
use Rattle.break_signals.specs.Words.{IsReadBack, IsSpelledBack, spelled, word_behind}
use Rattle.break_signals.specs.declared.word.BreakWord.{BreakWord}
use Rattle.break_signals.specs.declared.word.BreakWord.TheVariants.{Brk, Ack}
use Rattle.break_signals.specs.declared.fault.BreakFault.{BreakFault}
use Rattle.break_signals.specs.declared.fault.BreakFault.TheVariants.{Kind, Number, Length}

pub is_read_back_always : IsReadBack
is_read_back_always (Brk number length_octet) few = let t : nat_lt number 2 ≡ true = grind (arith, nat_tests) in rw t refl
is_read_back_always (Ack number length_octet) few = let t : nat_lt number 2 ≡ true = grind (arith, nat_tests) in rw t refl

-- of three octets, by the tests of the first two
three : (kind number units : ℕ) (word : BreakWord) (a b c : Bool) → nat_eq kind 64 ≡ a → nat_eq kind 96 ≡ b → nat_lt number 2 ≡ c
    → cond (a || b) (cond c (Ok (cond a (Brk number units) (Ack number units))) (Err (Number number))) (Err (Kind kind)) ≡ Ok word
    → spelled word ≡ kind ∷ number ∷ units ∷ []
three kind number units word true b true is_a is_b is_c e =
    let is : Brk number units ≡ word = cc in
    let k : kind ≡ 64 = grind (arith, nat_tests, is_a) in
    subst (λ w. spelled w ≡ kind ∷ number ∷ units ∷ []) is (rw k refl)
three kind number units word false true true is_a is_b is_c e =
    let is : Ack number units ≡ word = cc in
    let k : kind ≡ 96 = grind (arith, nat_tests, is_b) in
    subst (λ w. spelled w ≡ kind ∷ number ∷ units ∷ []) is (rw k refl)
three kind number units word true b false is_a is_b is_c e = cc
three kind number units word false true false is_a is_b is_c e = cc
three kind number units word false false c is_a is_b is_c e = cc

-- fewer or more octets are no word
none : (kind : ℕ) (rest : List ℕ) (word : BreakWord) (t : Bool) (fault : BreakFault) → word_behind kind rest ≡ Err fault
    → cond t (word_behind kind rest) (Err (Kind kind)) ≡ Ok word → ⊥
none kind rest word true fault is e = cc
none kind rest word false fault is e = cc

pub is_spelled_back_always : IsSpelledBack
is_spelled_back_always [] word e = cc
is_spelled_back_always (kind ∷ []) word e = absurd (none kind [] word _ (Length 1) refl e)
is_spelled_back_always (kind ∷ number ∷ []) word e = absurd (none kind (number ∷ []) word _ (Length 2) refl e)
is_spelled_back_always (kind ∷ number ∷ units ∷ []) word e = three kind number units word _ _ _ refl refl refl e
is_spelled_back_always (kind ∷ number ∷ units ∷ more ∷ rest) word e = absurd (none kind (number ∷ units ∷ more ∷ rest) word _ _ refl e)
