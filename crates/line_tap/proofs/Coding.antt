-- Bits and the samples that they become: each tells the other, the first of one the first of the other; and samples as octets.
use Rattle.line_tap.proofs.Cited.{◌≡◌, ◌∙◌, ◌*◌, ◌<◌, ◌≤◌, ℕ, suc, Bool, true, false, nat_eq, List, [], ◌∷◌, ◌++◌, length, take, map, refl}
use Rattle.line_tap.proofs.Cited.{sym, ap, subst, arith, All, length-append, take-append_seam, eqb-true, All-head, All-tail, Demodulates}
use Rattle.line_tap.proofs.Cited.{Modulates, samples_in, carried, Descrambles_once, each_below, at_each, PointsDiffer, NoDistanceIsEqual}
use Rattle.line_tap.proofs.Cited.{point_of, Sample, next_state}
use Rattle.std.proofs.Common.{◌&&◌}
use Rattle.std.specs.List.{flat_map}
use Rattle.symbol_map.specs.Distance.{distance_of}
use Rattle.trellis_tables.specs.V32Laws.{v32_bounded}
use Rattle.trellis_tables.proofs.Sequences.{Leads-below}
use Rattle.line_coding.specs.Demodulates.{line_of}
use Rattle.sample_line.proofs.Once.{modulates-take}
use Rattle.recordings.specs.Recording.{sample_octets}
use Rattle.recordings.proofs.Samples.{samples_in-append}

pub small : (tap : ℕ) (bits : List Bool) (samples : List Sample) → (h : Modulates tap bits samples) → All (λ label. label < 32) h.labels
small tap bits samples h = Leads-below next_state 8 32 0 h.labels h.end v32_bounded h.encoded.leads

pub points-tell : PointsDiffer → (a b : List ℕ) → All (λ label. label < 32) a → All (λ label. label < 32) b
    → map point_of a ≡ map point_of b → a ≡ b
points-tell differ [] [] h k e = refl
points-tell differ [] (y ∷ b) h k e = absurd cc
points-tell differ (x ∷ a) [] h k e = absurd cc
points-tell differ (x ∷ a) (y ∷ b) h k e =
    let first : point_of x ≡ point_of y = cc in
    let others : map point_of a ≡ map point_of b = cc in
    let same : x ≡ y = differ x y (All-head (λ label. label < 32) x a h) (All-head (λ label. label < 32) y b k) first in
    let rest : a ≡ b =
    points-tell differ a b (All-tail (λ label. label < 32) x a h) (All-tail (λ label. label < 32) y b k) others in
    rw (same, rest) refl

-- samples are those of one list of bits
pub samples-tell : PointsDiffer → (tap : ℕ) (a b : List Bool) (samples : List Sample) → Modulates tap a samples → Modulates tap b samples
    → a ≡ b
samples-tell differ tap a b samples h k =
    let labels : h.labels ≡ k.labels =
    points-tell differ h.labels k.labels (small tap a samples h) (small tap b samples k) (sym h.points ∙ k.points) in
    Descrambles_once tap (line_of k.labels) a b (subst (λ (xs : List ℕ). Demodulates tap xs a) labels (carried tap a samples h))
    (carried tap b samples k)

-- the samples of the first bits are the first samples
pub modulates-front : (tap n : ℕ) (bits more : List Bool) (samples : List Sample) → 1 ≤ tap → length bits ≡ 4 * n
    → Modulates tap (bits ++ more) samples → Modulates tap bits (take n samples)
modulates-front tap n bits more samples low e h =
    subst (λ (xs : List Bool). Modulates tap xs (take n samples))
    (ap (λ m. take m (bits ++ more)) (sym e) ∙ take-append_seam bits more) (modulates-take tap n (bits ++ more) samples low h)

-- ---- octets

abbrev pub is_one : List Sample → Sample → Bool
is_one [] point = false
is_one (s ∷ []) point = nat_eq (distance_of s point) 0
is_one (s ∷ t ∷ rest) point = false

abbrev reads_back : ℕ → Bool
reads_back label =
    nat_eq (length (sample_octets (point_of label))) 4 && is_one (samples_in (sample_octets (point_of label))) (point_of label)

reads_back-test : each_below 32 reads_back ≡ true
reads_back-test = refl

both : (a b : Bool) → (a && b) ≡ true → (a ≡ true) × (b ≡ true)
both a b e = grind (arith)

pub the-one : NoDistanceIsEqual → (xs : List Sample) (point : Sample) → is_one xs point ≡ true → xs ≡ point ∷ []
the-one none xs point e = grind (arith)

point-back : NoDistanceIsEqual → (label : ℕ) → label < 32
    → (length (sample_octets (point_of label)) ≡ 4) × (samples_in (sample_octets (point_of label)) ≡ point_of label ∷ [])
point-back none label low =
    let t = both (nat_eq (length (sample_octets (point_of label))) 4)
    (is_one (samples_in (sample_octets (point_of label))) (point_of label)) (at_each 32 reads_back reads_back-test label low) in (
      eqb-true (length (sample_octets (point_of label))) 4 t.0,
      the-one none (samples_in (sample_octets (point_of label))) (point_of label) t.1,
    )

pub record ReadsBack (samples : List Sample) : Type 0 where
  pub count : length (flat_map sample_octets samples) ≡ 4 * length samples
  pub same : samples_in (flat_map sample_octets samples) ≡ samples

points-back : NoDistanceIsEqual → (labels : List ℕ) → All (λ label. label < 32) labels → ReadsBack (map point_of labels)
points-back none [] h = record { count = refl; same = refl }
points-back none (label ∷ labels) h =
    let one = point-back none label (All-head (λ l. l < 32) label labels h) in
    let rest = points-back none labels (All-tail (λ l. l < 32) label labels h) in
    let octets : List ℕ = sample_octets (point_of label) in
    let others : List ℕ = flat_map sample_octets (map point_of labels) in
    record {
      count = length-append {A = ℕ} octets others
          ∙ (let more : length (map point_of (label ∷ labels)) ≡ suc (length (map point_of labels)) = refl in
          omega (arith, one.0, rest.count, more));
      same = samples_in-append octets others (omega (arith, one.0)) ∙ ap (λ xs. xs ++ samples_in others) one.1
          ∙ ap (λ xs. point_of label ∷ xs) rest.same;
    }

-- samples that bits became are read back from their octets
pub recorded-back : NoDistanceIsEqual → (tap : ℕ) (bits : List Bool) (samples : List Sample) → Modulates tap bits samples
    → ReadsBack samples
recorded-back none tap bits samples h = subst ReadsBack (sym h.points) (points-back none h.labels (small tap bits samples h))
