-- Labels that are packed, and read again.
use Rattle.std.proofs.Common.{◌≡◌, ℕ, zero, suc, ◌+◌, ◌*◌, ◌-◌, ◌/◌, ◌%◌, ◌^◌, ◌<◌, ◌≤◌, List, [], ◌∷◌, ◌++◌, length, length-append}
use Rattle.std.proofs.Common.{length-set, append_assoc}
use Rattle.std.proofs.Common.{slice_index_or, slice_set, inl, inr, refl, sym, ◌∙◌, ap, subst, mod-lt, arith}
use Rattle.std.proofs.lemmas.Bool.{cases_lt, cases_eq}
use Rattle.std.proofs.lemmas.Nat.{shr_high, pow_pos, pow-add, mod-pow-add}
use Rattle.std.proofs.Math.Nat.{mul-add-mod_self_right, mod-mod, mul-le-mul_right}
use Rattle.std.proofs.Math.Pow.{mod-mod-pow, pow_mono}
use Rattle.std.proofs.lemmas.List.{get_or_append_left, get_or-append_right, get_or-set_same, get_or-set_other}
use Rattle.sample_line.specs.Packed.{quad_at, high_at, label_at, labels_in}

labels-length : (n : ℕ) (quads highs : List ℕ) → length (labels_in n quads highs) ≡ n
unfolding labels_in
labels-length zero quads highs = refl
labels-length (suc n) quads highs =
    let all : length (labels_in n quads highs ++ label_at quads highs n ∷ []) ≡ length (labels_in n quads highs) + 1 =
    length-append (labels_in n quads highs) (label_at quads highs n ∷ []) in
    all ∙ omega (arith, labels-length n quads highs)

-- so there are as many as are counted in what these labels are the view of
pub labels-count : (n : ℕ) (quads highs labels : List ℕ) → labels_in n quads highs ≡ labels → length labels ≡ n
labels-count n quads highs labels view = ap (λ (l : List ℕ). length l) (sym view) ∙ labels-length n quads highs

-- other octets of which the labels are the same one by one give the same ones
pub labels-same : (n : ℕ) (quads highs others higher : List ℕ) → ((i : ℕ) → i < n → label_at others higher i ≡ label_at quads highs i)
    → labels_in n others higher ≡ labels_in n quads highs
unfolding labels_in
labels-same zero quads highs others higher same = refl
labels-same (suc n) quads highs others higher same =
    let front : labels_in n others higher ≡ labels_in n quads highs =
    labels-same n quads highs others higher (λ i low. same i (omega (arith, low))) in
    let last : label_at others higher n ≡ label_at quads highs n = same n (omega arith) in
    rw (front, last) refl

-- the label at a place
pub label-read : (n : ℕ) (quads highs : List ℕ) (i : ℕ) → i < n → slice_index_or (labels_in n quads highs) i 0 ≡ label_at quads highs i
unfolding labels_in
label-read zero quads highs i within = omega (arith, within)
label-read (suc n) quads highs i within = elim (cases_lt i n) [
  | inl low ↦ get_or_append_left (labels_in n quads highs) (label_at quads highs n ∷ []) 0 i
      (omega (arith, low, labels-length n quads highs))
      ∙ label-read n quads highs i low
  | inr high ↦
      let last : i ≡ n = omega (arith, within, high) in
      let gone : i - n ≡ 0 = omega (arith, last) in
      get_or-append_right (labels_in n quads highs) (label_at quads highs n ∷ []) n i 0 (labels-length n quads highs) high
      ∙ rw (gone, last) refl
]

-- that label by the octet of eight high bits in which its own is
pub eight-label : (quads highs : List ℕ) (group k : ℕ) → k < 8
    → slice_index_or quads (4 * group + k / 2) 0 / 2 ^ (4 * (k % 2)) % 16 + 16 * (slice_index_or highs group 0 / 2 ^ k % 2)
    ≡ label_at quads highs (8 * group + k)
eight-label quads highs group k few =
    let quad : (8 * group + k) / 2 ≡ 4 * group + k / 2 = omega arith in
    let half : (8 * group + k) % 2 ≡ k % 2 = omega arith in
    let high : (8 * group + k) / 8 ≡ group = omega (arith, few) in
    let bit : (8 * group + k) % 8 ≡ k = omega (arith, few) in
    rw (quad, half, high, bit) refl

-- ---- bits at a place of an octet

-- an octet with bits from a place on, and its own below it
abbrev pub put : ℕ → ℕ → ℕ → ℕ
put octet place bits = bits * 2 ^ place + octet % 2 ^ place

-- there is room for those that are few enough
pub room-for : (bits place width : ℕ) → bits < 2 ^ width → width + place ≤ 8 → bits * 2 ^ place + 2 ^ place ≤ 256
room-for bits place width few within =
    let most : (bits + 1) * 2 ^ place ≤ 2 ^ width * 2 ^ place = mul-le-mul_right (2 ^ place) (omega (arith, few)) in
    let all : 2 ^ width * 2 ^ place ≡ 2 ^ (width + place) = sym (pow-add 2 width place) in
    let octet : 2 ^ (width + place) ≤ 256 = pow_mono {j = 8} within in
    omega (arith, most, all, octet)

-- and no sum or shift overflows
pub put-fits : (octet place bits : ℕ) → place < 8 → bits * 2 ^ place + 2 ^ place ≤ 256
    → bits * 2 ^ place % 256 + octet % (1 * 2 ^ place % 256) < 256
put-fits octet place bits low room =
    let power : 2 ^ place ≤ 128 = pow_mono {j = 7} (omega (arith, low)) in
    let rest : octet % 2 ^ place < 2 ^ place = mod-lt octet (pow_pos place) in
    let one : 1 * 2 ^ place % 256 ≡ 2 ^ place = omega (arith, power) in
    let own : octet % (1 * 2 ^ place % 256) < 2 ^ place = subst (λ (p : ℕ). octet % p < 2 ^ place) (sym one) rest in
    omega (arith, own, room, pow_pos place)

-- they are those that were put there
pub put-same : (octet place bits : ℕ) → put octet place bits / 2 ^ place ≡ bits
put-same octet place bits = shr_high bits place (octet % 2 ^ place) (mod-lt octet (pow_pos place))

-- a field of a number, by the number's own low bits
field-low : (n at width : ℕ) → n / 2 ^ at % 2 ^ width ≡ (n % 2 ^ (width + at)) / 2 ^ at
field-low n at width =
    let parts : n % 2 ^ (width + at) ≡ (n / 2 ^ at % 2 ^ width) * 2 ^ at + n % 2 ^ at = mod-pow-add n width at in
    sym (ap (λ (m : ℕ). m / 2 ^ at) parts ∙ shr_high (n / 2 ^ at % 2 ^ width) at (n % 2 ^ at) (mod-lt n (pow_pos at)))

-- below the place nothing changes
put-low : (octet place bits low : ℕ) → low ≤ place → put octet place bits % 2 ^ low ≡ octet % 2 ^ low
put-low octet place bits low below =
    let rest : ℕ = place - low in
    let whole : rest + low ≡ place = omega (arith, below) in
    let same : put octet place bits % 2 ^ place ≡ octet % 2 ^ place =
    mul-add-mod_self_right bits (2 ^ place) (octet % 2 ^ place) ∙ mod-mod octet (2 ^ place) in
    let same_parts : put octet place bits % 2 ^ (rest + low) ≡ octet % 2 ^ (rest + low) =
    subst (λ (p : ℕ). put octet place bits % 2 ^ p ≡ octet % 2 ^ p) (sym whole) same in
    sym (mod-mod-pow (put octet place bits) rest low) ∙ ap (λ (m : ℕ). m % 2 ^ low) same_parts ∙ mod-mod-pow octet rest low

-- those below stay
put-below : (octet place bits at width : ℕ) → width + at ≤ place → put octet place bits / 2 ^ at % 2 ^ width ≡ octet / 2 ^ at % 2 ^ width
put-below octet place bits at width below =
    field-low (put octet place bits) at width ∙ ap (λ (m : ℕ). m / 2 ^ at) (put-low octet place bits (width + at) below)
    ∙ sym (field-low octet at width)

-- and so do all of the other octets
pub field-kept : (octets : List ℕ) (here place bits there at width : ℕ) → here < length octets → (there ≡ here → width + at ≤ place)
    → slice_index_or (slice_set octets here (put (slice_index_or octets here 0) place bits)) there 0 / 2 ^ at % 2 ^ width
    ≡ slice_index_or octets there 0 / 2 ^ at % 2 ^ width
field-kept octets here place bits there at width within below = elim (cases_eq there here) [
  | inl same ↦
      let written : slice_index_or (slice_set octets here (put (slice_index_or octets here 0) place bits)) here 0 ≡ put
      (slice_index_or octets here 0) place bits =
      get_or-set_same octets here (put (slice_index_or octets here 0) place bits) 0 within in
      rw (same, written) (put-below (slice_index_or octets here 0) place bits at width (below same))
  | inr other ↦ rw (get_or-set_other octets here there (put (slice_index_or octets here 0) place bits) 0 other) refl
]

-- what was put is read
pub field-put : (octets : List ℕ) (here place bits : ℕ) → here < length octets
    → slice_index_or (slice_set octets here (put (slice_index_or octets here 0) place bits)) here 0 / 2 ^ place ≡ bits
field-put octets here place bits within =
    ap (λ (octet : ℕ). octet / 2 ^ place) (get_or-set_same octets here (put (slice_index_or octets here 0) place bits) 0 within)
    ∙ put-same (slice_index_or octets here 0) place bits

-- ---- a label behind the others

pub pushed : (quads highs : List ℕ) (n label : ℕ) → n / 2 < length quads → n / 8 < length highs → label < 32
    → labels_in (n + 1) (slice_set quads (n / 2) (put (slice_index_or quads (n / 2) 0) (4 * (n % 2)) (label % 16)))
    (slice_set highs (n / 8) (put (slice_index_or highs (n / 8) 0) (n % 8) (label / 16)))
    ≡ labels_in n quads highs ++ label ∷ []
unfolding labels_in
pushed quads highs n label low high small =
    let others : List ℕ = slice_set quads (n / 2) (put (slice_index_or quads (n / 2) 0) (4 * (n % 2)) (label % 16)) in
    let higher : List ℕ = slice_set highs (n / 8) (put (slice_index_or highs (n / 8) 0) (n % 8) (label / 16)) in
    let next : n + 1 ≡ suc n = omega arith in
    let front : labels_in n others higher ≡ labels_in n quads highs = labels-same n quads highs others higher (λ i before.
    let quad : quad_at others i ≡ quad_at quads i =
    field-kept quads (n / 2) (4 * (n % 2)) (label % 16) (i / 2) (4 * (i % 2)) 4 low (λ same. omega (arith, before, same)) in
    let one : high_at higher i ≡ high_at highs i =
    field-kept highs (n / 8) (n % 8) (label / 16) (i / 8) (i % 8) 1 high (λ same. omega (arith, before, same)) in
    rw (quad, one) refl) in
    let quad : slice_index_or others (n / 2) 0 / 2 ^ (4 * (n % 2)) ≡ label % 16 =
    field-put quads (n / 2) (4 * (n % 2)) (label % 16) low in
    let one : slice_index_or higher (n / 8) 0 / 2 ^ (n % 8) ≡ label / 16 =
    field-put highs (n / 8) (n % 8) (label / 16) high in
    let last : label_at others higher n ≡ label = rw (quad, one) (omega (arith, small)) in
    ap (λ (m : ℕ). labels_in m others higher) next ∙ rw (front, last) refl

-- ---- two labels behind an even number of others

set-set : (xs : List ℕ) (i a b : ℕ) → slice_set (slice_set xs i a) i b ≡ slice_set xs i b
set-set [] i a b = refl
set-set (x ∷ xs) zero a b = refl
set-set (x ∷ xs) (suc i) a b = ap (λ (l : List ℕ). x ∷ l) (set-set xs i a b)

-- a bit behind another
put-both : (octet place one other : ℕ) → place < 8 → place % 2 ≡ 0 → one < 2 → other < 2
    → put (put octet place one) (place + 1) other ≡ put octet place (one + 2 * other)
put-both octet zero one other low even a b = omega (arith, a, b)
put-both octet (suc zero) one other low even a b = absurd (omega (arith, even))
put-both octet (suc (suc zero)) one other low even a b = omega (arith, a, b)
put-both octet (suc (suc (suc zero))) one other low even a b = absurd (omega (arith, even))
put-both octet (suc (suc (suc (suc zero)))) one other low even a b = omega (arith, a, b)
put-both octet (suc (suc (suc (suc (suc zero))))) one other low even a b = absurd (omega (arith, even))
put-both octet (suc (suc (suc (suc (suc (suc zero)))))) one other low even a b = omega (arith, a, b)
put-both octet (suc (suc (suc (suc (suc (suc (suc place))))))) one other low even a b =
    let last : place ≡ 0 = omega (arith, low) in
    absurd (omega (arith, even, last))

pub pushed-two : (quads highs : List ℕ) (n first second : ℕ) → n % 2 ≡ 0 → n / 2 < length quads → n / 8 < length highs → first < 32
    → second < 32
    → labels_in (n + 2) (slice_set quads (n / 2) (first % 16 + 16 * (second % 16)))
    (slice_set highs (n / 8) (put (slice_index_or highs (n / 8) 0) (n % 8) (first / 16 + 2 * (second / 16))))
    ≡ labels_in n quads highs ++ first ∷ second ∷ []
pushed-two quads highs n first second even low high small other =
    let next : n + 1 + 1 ≡ n + 2 = omega arith in
    let two = pushed quads_one highs_one (n + 1) second (omega (arith, half, low, length-set quads (n / 2) quad))
    (omega (arith, eighth, high, length-set highs (n / 8) bit)) other in
    sym (ap (λ (m : ℕ). labels_in m quads_all highs_all) next) ∙ sym (ap (λ (l : List ℕ). labels_in (n + 1 + 1) l highs_all) quads_same)
    ∙ sym (ap (labels_in (n + 1 + 1) (slice_set quads_one ((n + 1) / 2) (put (slice_index_or quads_one ((n + 1) / 2) 0)
    (4 * ((n + 1) % 2)) (second % 16)))) highs_same)
    ∙ two ∙ ap (λ (l : List ℕ). l ++ second ∷ []) (pushed quads highs n first low high small)
    ∙ append_assoc (labels_in n quads highs) (first ∷ []) (second ∷ [])
  where
    quad : ℕ
    quad = put (slice_index_or quads (n / 2) 0) (4 * (n % 2)) (first % 16)

    bit : ℕ
    bit = put (slice_index_or highs (n / 8) 0) (n % 8) (first / 16)

    quads_one : List ℕ
    quads_one = slice_set quads (n / 2) quad

    highs_one : List ℕ
    highs_one = slice_set highs (n / 8) bit

    quads_all : List ℕ
    quads_all = slice_set quads (n / 2) (first % 16 + 16 * (second % 16))

    highs_all : List ℕ
    highs_all = slice_set highs (n / 8) (put (slice_index_or highs (n / 8) 0) (n % 8) (first / 16 + 2 * (second / 16)))

    half : (n + 1) / 2 ≡ n / 2
    half = omega (arith, even)

    odd : (n + 1) % 2 ≡ 1
    odd = omega (arith, even)

    eighth : (n + 1) / 8 ≡ n / 8
    eighth = omega (arith, even)

    behind : (n + 1) % 8 ≡ n % 8 + 1
    behind = omega (arith, even)

    quads_same : slice_set quads_one ((n + 1) / 2) (put (slice_index_or quads_one ((n + 1) / 2) 0) (4 * ((n + 1) % 2)) (second % 16))
        ≡ quads_all
    quads_same =
        let both : put quad 4 (second % 16) ≡ first % 16 + 16 * (second % 16) =
        ap (λ (r : ℕ). put (put (slice_index_or quads (n / 2) 0) (4 * r) (first % 16)) 4 (second % 16)) even ∙ omega arith in
        ap (λ (i : ℕ). slice_set quads_one i (put (slice_index_or quads_one i 0) (4 * ((n + 1) % 2)) (second % 16))) half
        ∙ ap (λ (r : ℕ). slice_set quads_one (n / 2) (put (slice_index_or quads_one (n / 2) 0) (4 * r) (second % 16))) odd
        ∙ ap (λ (o : ℕ). slice_set quads_one (n / 2) (put o 4 (second % 16))) (get_or-set_same quads (n / 2) quad 0 low)
        ∙ set-set quads (n / 2) quad (put quad 4 (second % 16)) ∙ ap (slice_set quads (n / 2)) both

    highs_same : slice_set highs_one ((n + 1) / 8) (put (slice_index_or highs_one ((n + 1) / 8) 0) ((n + 1) % 8) (second / 16)) ≡ highs_all
    highs_same =
        ap (λ (i : ℕ). slice_set highs_one i (put (slice_index_or highs_one i 0) ((n + 1) % 8) (second / 16))) eighth
        ∙ ap (λ (r : ℕ). slice_set highs_one (n / 8) (put (slice_index_or highs_one (n / 8) 0) r (second / 16))) behind
        ∙ ap (λ (o : ℕ). slice_set highs_one (n / 8) (put o (n % 8 + 1) (second / 16))) (get_or-set_same highs (n / 8) bit 0 high)
        ∙ set-set highs (n / 8) bit (put bit (n % 8 + 1) (second / 16))
        ∙ ap (slice_set highs (n / 8)) (put-both (slice_index_or highs (n / 8) 0) (n % 8) (first / 16) (second / 16) (omega arith)
        (omega (arith, even)) (omega (arith, small)) (omega (arith, other)))
