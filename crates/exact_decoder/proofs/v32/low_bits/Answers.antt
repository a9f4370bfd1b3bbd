use Rattle.std.proofs.Common.{◌≡◌, ℕ, ◌-◌, ◌%◌, ◌^◌, ap, ◌∙◌, arith, replicate, Fits, w8}
use lib.Bits.{bit_and, and_le_r}
use Rattle.std.proofs.lemmas.Simd.{Each1-zip2, Each2-splat, Each1-all}
use Rattle.std.proofs.lemmas.Nat.{and_mask}
use Rattle.exact_decoder.proofs.Vectors.{eight}
use Rattle.exact_decoder.proofs.v32.low_bits.Goals as goal

pub overflow_cast-result : goal.overflow_cast-result
overflow_cast-result c =
    let m = c.args.mask in
    Each1-zip2 bit_and (λ j. Fits w8 j) c.args.lanes (replicate 8 m)
    (Each2-splat (λ a b. Fits w8 (bit_and a b)) c.args.lanes 8 m
    (Each1-all (λ a. Fits w8 (bit_and a m)) (λ a. record { fits = omega (arith, and_le_r a m, c.requires.few) }) c.args.lanes))

masked : (a m k : ℕ) → m ≡ 2 ^ k - 1 → bit_and a m ≡ a % 2 ^ k
masked a m k e = ap (bit_and a) e ∙ and_mask a k

pub returns : goal.returns
returns v k a b c d e f g h em el =
    let m = v.args.mask in grind (arith, eight, masked)
