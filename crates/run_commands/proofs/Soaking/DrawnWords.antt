-- What a seed draws, word by word.
use Rattle.run_commands.proofs.Names.{◌≡◌, ℕ, zero, suc, ◌+◌, ◌*◌, [], ◌++◌, length, refl, arith, length-append, Result, word_octets}
use Rattle.std.proofs.Common.{IfOk}
use Rattle.run_commands.specs.Soaking.Drawing.{drawn_word, drawn_octets}

pub drawn-none : (seed from : ℕ) → drawn_octets seed from 0 ≡ []
unfolding drawn_octets
drawn-none seed from = refl

drawn-suc : (seed from n : ℕ) → drawn_octets seed from (suc n) ≡ drawn_octets seed from n ++ word_octets (drawn_word seed (from + n))
unfolding drawn_octets
drawn-suc seed from n = refl

pub drawn-more : (seed from n : ℕ) → drawn_octets seed from (n + 1) ≡ drawn_octets seed from n ++ word_octets (drawn_word seed (from + n))
drawn-more seed from n = let e : n + 1 ≡ suc n = omega arith in rw e (drawn-suc seed from n)

pub length-drawn : (seed from n : ℕ) → length (drawn_octets seed from n) ≡ 4 * n
length-drawn seed from zero = rw (drawn-none seed from) refl
length-drawn seed from (suc n) =
    rw (drawn-suc seed from n) (omega
    (arith, length-append {A = ℕ} (drawn_octets seed from n) (word_octets (drawn_word seed (from + n))), length-drawn seed from n))

pub if-ok : {A E : Type 0} (P Q : A → Type 0) → ((a : A) → P a → Q a) → (r : Result A E) → IfOk r P → IfOk r Q
if-ok P Q f r h = grind (arith)
