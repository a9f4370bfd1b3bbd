-- The bits of octets, and the octets of bits.
use Rattle.frame_check.proofs.Names.{◌≡◌, ℕ, zero, suc, ◌+◌, ◌-◌, ◌*◌, ◌/◌, ◌%◌, ◌^◌, ◌<◌, ◌≤◌, inl, inr, Bool, true, false, List, [], ◌∷◌}
use Rattle.frame_check.proofs.Names.{◌++◌, All, length, take, drop, get_or, nat_eq, lit<, arith, length-append, refl, sym, ◌∙◌, ap}
use Rattle.frame_check.proofs.Names.{pow-succ', cases_lt, nat_tests, common_steps, same_lists, bit_at_lowest, bit_at-suc, bit_at, low_bits}
use Rattle.frame_check.proofs.Names.{octet_bits, bits_of, number}
use Rattle.std.proofs.lemmas.List.{get_or_append_left, get_or-append_right, take-append-drop}
use Rattle.std.proofs.lemmas.List.Concat.{flat_map-append}
use Rattle.std.proofs.lemmas.List.Elements.{All-cons}
use Rattle.std.proofs.lemmas.Nat.{shr_split}
use Rattle.std.proofs.lemmas.Nat.Bits.{bit_at-lt, bit_at_cat_low, bit_at_cat_high, same_from_bits_below}
use Rattle.std.proofs.Math.Nat.{pow-le-pow_right}
use Rattle.frame_check.specs.Bits.{number_of, octets_of}

-- the bits of a number

pub length-low_bits : (k n : ℕ) → length (low_bits k n) ≡ k
length-low_bits zero n = refl
length-low_bits (suc k) n = omega (arith, length-low_bits k (n / 2))

pub get_or-low_bits : (k n i : ℕ) (d : Bool) → i < k → get_or (low_bits k n) i d ≡ nat_eq (bit_at n i) 1
get_or-low_bits zero n i d h = absurd (omega arith)
get_or-low_bits (suc k) n zero d h = ap (λ x. nat_eq x 1) (sym (bit_at_lowest n))
get_or-low_bits (suc k) n (suc i) d h = get_or-low_bits k (n / 2) i d (omega arith) ∙ ap (λ x. nat_eq x 1) (sym (bit_at-suc n i))

-- bits of this number at these places are the list
pub low_bits-by_place : (k n : ℕ) (bits : List Bool) → length bits ≡ k
    → ((i : ℕ) (d : Bool) → i < k → nat_eq (bit_at n i) 1 ≡ get_or bits i d) → low_bits k n ≡ bits
low_bits-by_place k n bits wide each = same_lists (low_bits k n) bits (length-low_bits k n ∙ sym wide)
    (λ i d l. let within : i < k = omega (arith, length-low_bits k n) in get_or-low_bits k n i d within ∙ each i d within)

odd_is : (b : Bool) (n : ℕ) → nat_eq ((number b + 2 * n) % 2) 1 ≡ b
odd_is true n = let e : (1 + 2 * n) % 2 ≡ 1 = omega arith in rw e refl
odd_is false n = let e : (0 + 2 * n) % 2 ≡ 0 = omega arith in rw e refl

half_is : (b : Bool) (n : ℕ) → (number b + 2 * n) / 2 ≡ n
half_is true n = omega arith
half_is false n = omega arith

-- the bits of the number with these bits
pub low_bits-number_of : (bits : List Bool) → low_bits (length bits) (number_of bits) ≡ bits
low_bits-number_of [] = refl
low_bits-number_of (b ∷ bits) = rw (odd_is b (number_of bits), half_is b (number_of bits), low_bits-number_of bits) refl

number_of-less : (bits : List Bool) → number_of bits < 2 ^ length bits
number_of-less [] = omega arith
number_of-less (true ∷ bits) = rw (pow-succ' 2 (length bits)) (omega (arith, number_of-less bits))
number_of-less (false ∷ bits) = rw (pow-succ' 2 (length bits)) (omega (arith, number_of-less bits))

-- the bits of octets

pub bits_of-snoc : (octets : List ℕ) (n : ℕ) → bits_of (octets ++ n ∷ []) ≡ bits_of octets ++ octet_bits n
bits_of-snoc octets n = flat_map-append octet_bits octets (n ∷ [])

pub bits_of-append : (octets more : List ℕ) → bits_of (octets ++ more) ≡ bits_of octets ++ bits_of more
bits_of-append octets more = flat_map-append octet_bits octets more

pub length-bits_of : (octets : List ℕ) → length (bits_of octets) ≡ 8 * length octets
length-bits_of [] = refl
length-bits_of (n ∷ octets) = omega (arith, length-bits_of octets)

bit_is : (n m i : ℕ) → nat_eq (bit_at n i) 1 ≡ nat_eq (bit_at m i) 1 → bit_at n i ≡ bit_at m i
bit_is n m i e = grind (arith, nat_tests, bit_at-lt n i, bit_at-lt m i)

-- an octet is given by its bits
same_octet : (n m : ℕ) → n < 256 → m < 256 → octet_bits n ≡ octet_bits m → n ≡ m
same_octet n m low_n low_m e =
    same_from_bits_below 8 n m low_n low_m
    (λ i l. bit_is n m i (sym (get_or-low_bits 8 n i false l) ∙ ap (λ bits. get_or bits i false) e ∙ get_or-low_bits 8 m i false l))

-- octets are given by their bits
pub same_octets : (octets others : List ℕ) → All (λ n. n < 256) octets → All (λ n. n < 256) others → bits_of octets ≡ bits_of others
    → octets ≡ others
same_octets [] [] low_n low_m e = refl
same_octets [] (m ∷ others) low_n low_m e = absurd (omega (arith, ap length e, length-bits_of others))
same_octets (n ∷ octets) [] low_n low_m e = absurd (omega (arith, ap length e, length-bits_of octets))
same_octets (n ∷ octets) (m ∷ others) low_n low_m e =
    let first : n ≡ m = same_octet n m (low_n 0 0 (omega arith)) (low_m 0 0 (omega arith)) (ap (take 8) e) in
    let rest : octets ≡ others =
    same_octets octets others (λ k d h. low_n (suc k) d (omega arith)) (λ k d h. low_m (suc k) d (omega arith)) (ap (drop 8) e) in
    rw (first, rest) refl

-- the octets of bits

pub length-octets_of : (count : ℕ) (bits : List Bool) → length (octets_of count bits) ≡ count
length-octets_of zero bits = refl
length-octets_of (suc count) bits = omega (arith, length-octets_of count (drop 8 bits))

pub octets_of-are_octets : (count : ℕ) (bits : List Bool) → All (λ n. n < 256) (octets_of count bits)
octets_of-are_octets zero bits = λ k d h. absurd (omega arith)
octets_of-are_octets (suc count) bits =
    let less : number_of (take 8 bits) < 2 ^ length (take 8 bits) = number_of-less (take 8 bits) in
    let short : length (take 8 bits) ≤ 8 = grind (arith, common_steps) in
    let most : 2 ^ length (take 8 bits) ≤ 2 ^ 8 = pow-le-pow_right (lit< tt) short in
    All-cons (λ n. n < 256) (number_of (take 8 bits)) (octets_of count (drop 8 bits)) (omega arith)
    (octets_of-are_octets count (drop 8 bits))

pub bits_of-octets_of : (count : ℕ) (bits : List Bool) → length bits ≡ 8 * count → bits_of (octets_of count bits) ≡ bits
bits_of-octets_of zero [] wide = refl
bits_of-octets_of zero (b ∷ bits) wide = absurd (omega arith)
bits_of-octets_of (suc count) bits wide =
    let eight : length (take 8 bits) ≡ 8 = grind (arith, common_steps) in
    let first : octet_bits (number_of (take 8 bits)) ≡ take 8 bits = rw eight at (low_bits-number_of (take 8 bits)) in
    let shorter : length (drop 8 bits) ≡ 8 * count = grind (arith, common_steps) in
    let rest : bits_of (octets_of count (drop 8 bits)) ≡ drop 8 bits = bits_of-octets_of count (drop 8 bits) shorter in
    ap (λ x. x ++ bits_of (octets_of count (drop 8 bits))) first ∙ ap (λ x. take 8 bits ++ x) rest ∙ take-append-drop 8 bits

-- the low octets of a number

octet_bits-rem : (n : ℕ) → octet_bits (n % 256) ≡ octet_bits n
octet_bits-rem n = low_bits-by_place 8 (n % 256) (octet_bits n) (length-low_bits 8 n)
    (λ i d l. ap (λ x. nat_eq x 1) (bit_at-rem i l) ∙ sym (get_or-low_bits 8 n i d l))
  where
    bit_at-rem : (i : ℕ) → i < 8 → bit_at (n % 256) i ≡ bit_at n i
    bit_at-rem i l = sym (ap (λ x. bit_at x i) (sym (shr_split n 8)) ∙ bit_at_cat_low (n / 256) 8 (n % 256) i l)

-- the bits of a number are those of its lowest octet, and the others
low_bits-octet : (k n : ℕ) → low_bits (8 + k) n ≡ octet_bits n ++ low_bits k (n / 256)
low_bits-octet k n = low_bits-by_place (8 + k) n (octet_bits n ++ low_bits k (n / 256)) wide each
  where
    wide : length (octet_bits n ++ low_bits k (n / 256)) ≡ 8 + k
    wide = omega (arith, length-append (octet_bits n) (low_bits k (n / 256)), length-low_bits k (n / 256))

    high : (i : ℕ) → 8 ≤ i → bit_at n i ≡ bit_at (n / 256) (i - 8)
    high i h = ap (λ x. bit_at x i) (sym (shr_split n 8)) ∙ bit_at_cat_high (n / 256) 8 (n % 256) i (omega arith) h

    each : (i : ℕ) (d : Bool) → i < 8 + k → nat_eq (bit_at n i) 1 ≡ get_or (octet_bits n ++ low_bits k (n / 256)) i d
    each i d l = elim (cases_lt i 8) [
      | inl low ↦ sym (get_or_append_left (octet_bits n) (low_bits k (n / 256)) d i low ∙ get_or-low_bits 8 n i d low)
      | inr h ↦ ap (λ x. nat_eq x 1) (high i h)
          ∙ sym (get_or-append_right (octet_bits n) (low_bits k (n / 256)) 8 i d refl h
          ∙ get_or-low_bits k (n / 256) (i - 8) d (omega arith))
    ]

-- an octet in front of the others
bits_of-low : (k n : ℕ) (rest : List ℕ) → bits_of rest ≡ low_bits k (n / 256) → bits_of (n % 256 ∷ rest) ≡ low_bits (8 + k) n
bits_of-low k n rest e = ap (λ x. x ++ bits_of rest) (octet_bits-rem n) ∙ ap (λ x. octet_bits n ++ x) e ∙ sym (low_bits-octet k n)

pub bits_of-two : (n : ℕ) → bits_of (n % 256 ∷ (n / 256 % 256) ∷ []) ≡ low_bits 16 n
bits_of-two n = bits_of-low 8 n (n / 256 % 256 ∷ []) (bits_of-low 0 (n / 256) [] refl)

pub bits_of-four : (n : ℕ) → bits_of (n % 256 ∷ (n / 256 % 256) ∷ (n / 65536 % 256) ∷ (n / 16777216 % 256) ∷ []) ≡ low_bits 32 n
bits_of-four n =
    let third : n / 65536 ≡ n / 256 / 256 = omega arith in
    let fourth : n / 16777216 ≡ n / 256 / 256 / 256 = omega arith in
    let same : bits_of (n % 256 ∷ (n / 256 % 256) ∷ (n / 65536 % 256) ∷ (n / 16777216 % 256) ∷ []) ≡ bits_of
    (n % 256 ∷ (n / 256 % 256) ∷ (n / 256 / 256 % 256) ∷ (n / 256 / 256 / 256 % 256) ∷ []) =
    ap (λ x. bits_of (n % 256 ∷ (n / 256 % 256) ∷ x % 256 ∷ (n / 16777216 % 256) ∷ [])) third
    ∙ ap (λ x. bits_of (n % 256 ∷ (n / 256 % 256) ∷ (n / 256 / 256 % 256) ∷ x % 256 ∷ [])) fourth in
    same ∙ bits_of-low 24 n (n / 256 % 256 ∷ (n / 256 / 256 % 256) ∷ (n / 256 / 256 / 256 % 256) ∷ [])
    (bits_of-low 16 (n / 256) (n / 256 / 256 % 256 ∷ (n / 256 / 256 / 256 % 256) ∷ [])
    (bits_of-low 8 (n / 256 / 256) (n / 256 / 256 / 256 % 256 ∷ []) (bits_of-low 0 (n / 256 / 256 / 256) [] refl)))
