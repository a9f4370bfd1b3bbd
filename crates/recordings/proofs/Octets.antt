-- The bits of an octet more, in two fours.
use Rattle.std.proofs.Common.{◌≡◌, ◌∙◌, ℕ, ◌+◌, ◌/◌, ◌%◌, ◌<◌, Bool, List, [], ◌∷◌, ◌++◌, length, refl, sym, ap, arith, append-nil}
use Rattle.std.proofs.Common.{append_assoc, length-append}
use Rattle.std.specs.List.{flat_map}
use Rattle.std.proofs.lemmas.Grind.{flat_map-append}
use Rattle.frame_check.specs.Bits.{low_bits, octet_bits, bits_of}
use Rattle.symbol_map.specs.declared.sample.Sample.{Sample}
use Rattle.recordings.specs.Recording.{sample_octets}

-- eight bits are the low four and the high four
two-fours : (octet : ℕ) → octet < 256 → low_bits 4 (octet % 16) ++ low_bits 4 (octet / 16) ≡ octet_bits octet
two-fours octet h =
    let a : octet % 16 % 2 ≡ octet % 2 = omega arith in
    let b : octet % 16 / 2 % 2 ≡ octet / 2 % 2 = omega arith in
    let c : octet % 16 / 2 / 2 % 2 ≡ octet / 2 / 2 % 2 = omega arith in
    let d : octet % 16 / 2 / 2 / 2 % 2 ≡ octet / 2 / 2 / 2 % 2 = omega arith in
    let e : octet / 16 % 2 ≡ octet / 2 / 2 / 2 / 2 % 2 = omega arith in
    let f : octet / 16 / 2 % 2 ≡ octet / 2 / 2 / 2 / 2 / 2 % 2 = omega arith in
    let i : octet / 16 / 2 / 2 % 2 ≡ octet / 2 / 2 / 2 / 2 / 2 / 2 % 2 = omega arith in
    let j : octet / 16 / 2 / 2 / 2 % 2 ≡ octet / 2 / 2 / 2 / 2 / 2 / 2 / 2 % 2 = omega arith in
    rw (a, b, c, d, e, f, i, j) refl

pub bits-more : (octets : List ℕ) (octet : ℕ) → octet < 256
    → (bits_of octets ++ low_bits 4 (octet % 16)) ++ low_bits 4 (octet / 16) ≡ bits_of (octets ++ octet ∷ [])
bits-more octets octet h =
    append_assoc (bits_of octets) (low_bits 4 (octet % 16)) (low_bits 4 (octet / 16))
    ∙ ap (λ bits. bits_of octets ++ bits) (two-fours octet h ∙ sym (append-nil (octet_bits octet)))
    ∙ sym (flat_map-append octet_bits octets (octet ∷ []))

-- eight bits are four twos
four-twos : (octet : ℕ) → octet < 256
    → ((low_bits 2 (octet % 4) ++ low_bits 2 (octet / 4 % 4)) ++ low_bits 2 (octet / 16 % 4)) ++ low_bits 2 (octet / 64) ≡ octet_bits octet
four-twos octet h =
    let a : octet % 4 % 2 ≡ octet % 2 = omega arith in
    let b : octet % 4 / 2 % 2 ≡ octet / 2 % 2 = omega arith in
    let c : octet / 4 % 4 % 2 ≡ octet / 2 / 2 % 2 = omega arith in
    let d : octet / 4 % 4 / 2 % 2 ≡ octet / 2 / 2 / 2 % 2 = omega arith in
    let e : octet / 16 % 4 % 2 ≡ octet / 2 / 2 / 2 / 2 % 2 = omega arith in
    let f : octet / 16 % 4 / 2 % 2 ≡ octet / 2 / 2 / 2 / 2 / 2 % 2 = omega arith in
    let i : octet / 64 % 2 ≡ octet / 2 / 2 / 2 / 2 / 2 / 2 % 2 = omega arith in
    let j : octet / 64 / 2 % 2 ≡ octet / 2 / 2 / 2 / 2 / 2 / 2 / 2 % 2 = omega arith in
    rw (a, b, c, d, e, f, i, j) refl

pub bits-by-twos : (octets : List ℕ) (octet : ℕ) → octet < 256
    → (((bits_of octets ++ low_bits 2 (octet % 4)) ++ low_bits 2 (octet / 4 % 4)) ++ low_bits 2 (octet / 16 % 4)) ++ low_bits 2
    (octet / 64) ≡ bits_of (octets ++ octet ∷ [])
bits-by-twos octets octet h =
    let a : List Bool = low_bits 2 (octet % 4) in
    let b : List Bool = low_bits 2 (octet / 4 % 4) in
    let c : List Bool = low_bits 2 (octet / 16 % 4) in
    let d : List Bool = low_bits 2 (octet / 64) in
    ap (λ xs. (xs ++ c) ++ d) (append_assoc (bits_of octets) a b)
    ∙ ap (λ xs. xs ++ d) (append_assoc (bits_of octets) (a ++ b) c)
    ∙ append_assoc (bits_of octets) ((a ++ b) ++ c) d
    ∙ ap (λ bits. bits_of octets ++ bits) (four-twos octet h ∙ sym (append-nil (octet_bits octet)))
    ∙ sym (flat_map-append octet_bits octets (octet ∷ []))

-- one sample more
pub sample-more : {X : Type 0} (octets_of : X → List ℕ) (samples : List X) (x : X) (recorded one : List ℕ)
    → recorded ≡ flat_map octets_of samples → one ≡ octets_of x →
    recorded ++ one ≡ flat_map octets_of (samples ++ x ∷ [])
sample-more octets_of samples x recorded one r e =
    (λ i. r i ++ e i) ∙ ap (λ ys. flat_map octets_of samples ++ ys) (sym (append-nil (octets_of x)))
    ∙ sym (flat_map-append octets_of samples (x ∷ []))

pub count-more : {X : Type 0} (samples : List X) (x : X) → length (samples ++ x ∷ []) ≡ length samples + 1
count-more samples x = length-append samples (x ∷ [])

pub length-more : (octets : List ℕ) (octet : ℕ) → length (octets ++ octet ∷ []) ≡ length octets + 1
length-more octets octet = length-append octets (octet ∷ [])

-- two samples more, behind octets that are behind others
pub two-more : (samples : List Sample) (a b : Sample) (recorded out : List ℕ) → recorded ++ out ≡ flat_map sample_octets samples
    → recorded ++ (out ++ (sample_octets a ++ sample_octets b)) ≡ flat_map sample_octets ((samples ++ a ∷ []) ++ b ∷ [])
two-more samples a b recorded out r =
    sym (append_assoc recorded out (sample_octets a ++ sample_octets b))
    ∙ sym (append_assoc (recorded ++ out) (sample_octets a) (sample_octets b))
    ∙ sample-more sample_octets (samples ++ a ∷ []) b ((recorded ++ out) ++ sample_octets a) (sample_octets b)
    (sample-more sample_octets samples a (recorded ++ out) (sample_octets a) r refl) refl
