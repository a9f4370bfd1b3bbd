-- The two generators as the code writes them, and the register at first.
use Rattle.frame_check.proofs.Names.{◌≡◌, ℕ, zero, suc, ◌-◌, ◌^◌, ◌<◌, inl, inr, Bool, true, false, List, nat_eq, slice_index_or, arith}
use Rattle.frame_check.proofs.Names.{refl, lit<, cases_lt, false≢true, bit_at, number, coefficient, all_ones, generator_of, Mirrors, Holds}
use Rattle.frame_check.proofs.Names.{Divides, AreFours, Sixteen, ThirtyTwo}
use Rattle.std.proofs.Common.{◌&&◌}
use borrow.Author.Tests.{eqb-true}
use Rattle.frame_check.specs.Register.{after_zeros}
use Rattle.frame_check.specs.declared.register.TheConstants.{SIXTEEN, THIRTY_TWO}

-- whether each number below n passes
abbrev pub each_below : ℕ → (ℕ → Bool) → Bool
each_below zero test = true
each_below (suc n) test = test n && each_below n test

both : (a b : Bool) → (a && b) ≡ true → (a ≡ true) × (b ≡ true)
both true true h = (refl, refl)
both true false h = absurd (false≢true h)
both false b h = absurd (false≢true h)

pub at_each : (n : ℕ) (test : ℕ → Bool) → each_below n test ≡ true → (i : ℕ) → i < n → test i ≡ true
at_each zero test h i l = absurd (omega arith)
at_each (suc n) test h i l = let b = both (test n) (each_below n test) h in
    elim (cases_lt i n) [ inl less ↦ at_each n test b.1 i less | inr last ↦ let e : i ≡ n = omega arith in rw e b.0 ]

-- whether a register has a polynomial's coefficients, mirrored
abbrev is_mirror : ℕ → ℕ → List Bool → ℕ → Bool
is_mirror width register p power = nat_eq (bit_at register (width - 1 - power)) (number (coefficient p power))

mirrors : (width register : ℕ) (p : List Bool) → register < 2 ^ width → each_below width (is_mirror width register p) ≡ true
    → Mirrors width register p
mirrors width register p low h =
    record {
      low = low;
      each =
          λ j l. eqb-true (bit_at register (width - 1 - j)) (number (coefficient p j)) (at_each width (is_mirror width register p) h j l);
    }

are_fours : (reversed : ℕ) (fours : List ℕ)
    → each_below 16 (λ low. nat_eq (slice_index_or fours low 0) (after_zeros 4 reversed low)) ≡ true → AreFours reversed fours
are_fours reversed fours h low l =
    eqb-true (slice_index_or fours low 0) (after_zeros 4 reversed low)
    (at_each 16 (λ low. nat_eq (slice_index_or fours low 0) (after_zeros 4 reversed low)) h low l)

pub divides16 : Divides 16 SIXTEEN (generator_of Sixteen)
unfolding after_zeros
divides16 = record {
  positive = lit< tt;
  small = omega arith;
  wide = refl;
  top = refl;
  reversed = 0x8408;
  mirrors = mirrors 16 0x8408 (generator_of Sixteen) (lit< tt) refl;
  are_fours = are_fours 0x8408 SIXTEEN refl;
}

pub divides32 : Divides 32 THIRTY_TWO (generator_of ThirtyTwo)
unfolding after_zeros
divides32 = record {
  positive = lit< tt;
  small = omega arith;
  wide = refl;
  top = refl;
  reversed = 0xedb88320;
  mirrors = mirrors 32 0xedb88320 (generator_of ThirtyTwo) (lit< tt) refl;
  are_fours = are_fours 0xedb88320 THIRTY_TWO refl;
}

pub starts16 : Holds 16 0xffff (all_ones 16)
starts16 = record { wide = refl; mirrors = mirrors 16 0xffff (all_ones 16) (lit< tt) refl }

pub starts32 : Holds 32 0xffffffff (all_ones 32)
starts32 = record { wide = refl; mirrors = mirrors 32 0xffffffff (all_ones 32) (lit< tt) refl }
