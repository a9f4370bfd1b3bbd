use Rattle.scramblers.proofs.Names.{◌≡◌, true, refl, arith, nat_tests, bit_at}
use Rattle.std.proofs.Common.{nat_lt}
use Rattle.scramblers.proofs.scrambler.Scrambler.new.Goals as goal

no-bit : (i : _) → bit_at 0 i ≡ 0
no-bit i = grind arith

pub returns : goal.returns
returns g c = record {
  scrambled = record { lengths = refl; each = λ i h. absurd (omega (arith, h)) };
  holds = record {
    recent = λ places low high.
        let past : nat_lt 0 places ≡ true = grind (arith, nat_tests, low) in
        rw past (no-bit _);
  };
}
