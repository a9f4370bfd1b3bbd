-- Bits are joined to octets.
use Rattle.signal_commands.proofs.Names.{◌≡◌, ◌∙◌, ℕ, zero, suc, ◌+◌, ◌-◌, ◌*◌, ◌/◌, ◌%◌, ◌^◌, ◌<◌, ◌≤◌, Bool, List, [], ◌∷◌, ◌++◌, refl}
use Rattle.signal_commands.proofs.Names.{sym, ap, subst, arith, append-nil, append_assoc, nat_eq, flat_map-append, All-push, low_bits}
use Rattle.signal_commands.proofs.Names.{octet_bits, bits_of, bits_in, OctetsJoined, Bits}
use Rattle.std.proofs.Math.Nat.{pow-suc, pow-le-pow_right}
use Rattle.std.proofs.lemmas.Nat.{pow-add}

twice : (k : ℕ) → 2 ^ suc k ≡ 2 * 2 ^ k
twice k = omega (arith, pow-suc 2 k)

doubled : (a b : ℕ) → a * (2 * b) ≡ 2 * (a * b)
doubled a b = grind arith

-- a number of some bits with those of another above them
pub record IsAbove (count more low high : ℕ) : Type 0 where
  pub bits : low_bits count low ++ low_bits more high ≡ low_bits (count + more) (low + high * 2 ^ count)
  pub small : low + high * 2 ^ count < 2 ^ (count + more)

pub above : (count more low high : ℕ) → low < 2 ^ count → high < 2 ^ more → IsAbove count more low high
above zero more low high l h =
    let none : low + high * 2 ^ 0 ≡ high = omega (arith, l) in
    let size : 0 + more ≡ more = omega arith in
    record { bits = rw (size, none) refl; small = rw (size, none) h }
above (suc count) more low high l h =
    let product : high * 2 ^ suc count ≡ 2 * (high * 2 ^ count) = ap (λ n. high * n) (twice count) ∙ doubled high (2 ^ count) in
    let first : (low + high * 2 ^ suc count) % 2 ≡ low % 2 = omega (arith, product) in
    let others : (low + high * 2 ^ suc count) / 2 ≡ low / 2 + high * 2 ^ count = omega (arith, product) in
    let rest = above count more (low / 2) high (omega (arith, l, twice count)) h in
    let size : suc count + more ≡ suc (count + more) = omega arith in
    record {
      bits = rw (size, first, others) (ap (λ l. nat_eq (low % 2) 1 ∷ l) rest.bits);
      small = rw size (omega (arith, rest.small, twice (count + more), product));
    }

-- they have room in 16 bits
pub not-wrapped : (count more low high : ℕ) → count < 8 → more ≤ 8 → low < 2 ^ count → high < 2 ^ more
    → high * 2 ^ count % 65536 ≡ high * 2 ^ count
not-wrapped count more low high few few_more l h =
    let base : 0 < 2 = omega arith in
    let most : count + more ≤ 15 = omega arith in
    omega (arith, (above count more low high l h).small, pow-le-pow_right base most)

-- what is above an octet
pub rest-small : (count number : ℕ) → number < 2 ^ (8 + count) → number / 256 < 2 ^ count
rest-small count number h = let power : 2 ^ (8 + count) ≡ 256 * 2 ^ count = pow-add 2 8 count in omega (arith, h, power)

pub octet-behind : (octets : List ℕ) (octet : ℕ) → bits_of octets ++ octet_bits octet ≡ bits_of (octets ++ octet ∷ [])
octet-behind octets octet = grind (arith, append-nil, flat_map-append)

-- the lowest octet of a number, and the bits above it
lowest-octet : (count n : ℕ) → n < 2 ^ (8 + count) → low_bits (8 + count) n ≡ octet_bits (n % 256) ++ low_bits count (n / 256)
lowest-octet count n small =
    let parts : n % 256 + n / 256 * 2 ^ 8 ≡ n = omega arith in
    ap (low_bits (8 + count)) (sym parts) ∙ sym (above 8 count (n % 256) (n / 256) (omega arith) (rest-small count n small)).bits

-- bits behind those that wait, which are those of a number
bits-behind : (waiting bits : Bits) (before : List Bool) (octets : List ℕ) (n : ℕ)
    → bits_in waiting ++ bits_in bits ≡ low_bits (waiting.count + bits.count) n
    → OctetsJoined waiting before octets → before ++ bits_in bits ≡ bits_of octets ++ low_bits (waiting.count + bits.count) n
bits-behind waiting bits before octets n e j = grind (arith, append_assoc)

-- an octet is whole with them
pub joined-octet : (waiting bits : Bits) (before : List Bool) (octets : List ℕ) (n : ℕ)
    → bits_in waiting ++ bits_in bits ≡ low_bits (waiting.count + bits.count) n
    → n < 2 ^ (waiting.count + bits.count) → bits.count ≤ 8 → 8 ≤ waiting.count + bits.count → OctetsJoined waiting before octets
    → OctetsJoined (record { count = waiting.count + bits.count - 8; number = n / 256 }) (before ++ bits_in bits) (octets ++ n % 256 ∷ [])
joined-octet waiting bits before octets n e small most many j =
    let count : ℕ = waiting.count + bits.count - 8 in
    let rest : List Bool = low_bits count (n / 256) in
    let size : waiting.count + bits.count ≡ 8 + count = omega arith in
    let parts : low_bits (waiting.count + bits.count) n ≡ octet_bits (n % 256) ++ rest =
    ap (λ (k : ℕ). low_bits k n) size ∙ lowest-octet count n (subst (λ (k : ℕ). n < 2 ^ k) size small) in
    record {
      bits_are = bits-behind waiting bits before octets n e j ∙ ap (λ xs. bits_of octets ++ xs) parts
          ∙ sym (append_assoc (bits_of octets) (octet_bits (n % 256)) rest) ∙ ap (λ xs. xs ++ rest) (octet-behind octets (n % 256));
      few = omega (arith, most, j.few);
      small = All-push (λ octet. octet < 256) octets (n % 256) j.small (omega arith);
    }
