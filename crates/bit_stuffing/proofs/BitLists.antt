-- Bits that are gathered to a number.
use Rattle.bit_stuffing.proofs.Names.{◌≡◌, ℕ, zero, suc, ◌+◌, ◌*◌, ◌/◌, ◌%◌, ◌^◌, ◌<◌, ◌≤◌, Bool, true, false, [], ◌∷◌, ◌++◌, nat_eq, arith}
use Rattle.bit_stuffing.proofs.Names.{refl, ap, low_bits, number}
use Rattle.std.proofs.Math.Nat.{pow-suc, pow-le-pow_right}

twice : (k : ℕ) → 2 ^ suc k ≡ 2 * 2 ^ k
twice k = omega (arith, pow-suc 2 k)

-- a number of k bits with one more bit above them
pub bits-more : (k n : ℕ) (b : Bool) → n < 2 ^ k → low_bits (k + 1) (n + number b * 2 ^ k) ≡ low_bits k n ++ b ∷ []
bits-more zero n true h = let e : n ≡ 0 = omega arith in rw e refl
bits-more zero n false h = let e : n ≡ 0 = omega arith in rw e refl
bits-more (suc k) n b h =
    let e : suc k + 1 ≡ suc (k + 1) = omega arith in
    let sum : n + number b * 2 ^ suc k ≡ n + 2 * (number b * 2 ^ k) = each b in
    let odd : (n + 2 * (number b * 2 ^ k)) % 2 ≡ n % 2 = omega arith in
    let halves : (n + 2 * (number b * 2 ^ k)) / 2 ≡ n / 2 + number b * 2 ^ k = omega arith in
    let half : n / 2 < 2 ^ k = omega (arith, twice k, h) in
    rw (e, sum, odd, halves) (ap (λ l. nat_eq (n % 2) 1 ∷ l) (bits-more k (n / 2) b half))
  where
    each : (b : Bool) → n + number b * 2 ^ suc k ≡ n + 2 * (number b * 2 ^ k)
    each b = grind (arith, twice)

pub more-lt : (k n : ℕ) (b : Bool) → n < 2 ^ k → n + number b * 2 ^ k < 2 ^ (k + 1)
more-lt k n true h = let e : k + 1 ≡ suc k = omega arith in rw e (omega (arith, twice k))
more-lt k n false h = let e : k + 1 ≡ suc k = omega arith in rw e (omega (arith, twice k))

pub pow-lt : (k : ℕ) → k < 8 → 2 ^ k < 256
pow-lt k h = let p : 0 < 2 = omega arith in let q : k ≤ 7 = omega arith in omega (arith, pow-le-pow_right p q)

-- the bit at its place
pub added : (k : ℕ) (b : Bool) (n : ℕ) → k < 8 → n ≡ number b → n * 2 ^ k % 256 ≡ number b * 2 ^ k
added k b n h e = grind (arith, pow-lt)
