-- Samples that are points, one after another.
use Rattle.line_tap.proofs.Cited.{◌≡◌, ◌∙◌, inl, inr, ℕ, zero, suc, ◌+◌, ◌-◌, ◌*◌, ◌<◌, ◌≤◌, Bool, List, [], ◌∷◌, ◌++◌, length, take, map}
use Rattle.line_tap.proofs.Cited.{Some, slice_index, refl, sym, ap, subst, arith, cases_lt, append_assoc, map-append, take-map, length-map}
use Rattle.line_tap.proofs.Cited.{take_more, All-append, All-cons, All-nil, All-take, line_bits, low_bits, DemodulatorStands, Demodulator}
use Rattle.line_tap.proofs.Cited.{AreLabels, NoStep, ReadsLabels, samples_in, sample_at, sample_of, Mode, PointsDiffer, point_of, Sample}
use Rattle.line_tap.proofs.Cited.{Leads_once, Leads, next_state}
use Rattle.std.proofs.Common.{get_or}
use Rattle.std.proofs.lemmas.List.{length_push, same_from_push, flat_map_more}
use Rattle.trellis_tables.proofs.Sequences.{Leads-front, Leads-snoc, Leads-take}
use Rattle.line_tap.specs.Labels.{NoSequence}
use Rattle.line_tap.proofs.Coding.{points-tell}

-- ---- the label of a sample, by a sum over all labels

-- of so many labels one, if any, is the sample's, and it stands in the sum with one more
pub record SumsUp (count number : ℕ) (sample : Sample) : Type 0 where
  pub few : number ≤ count
  pub point : 0 < number → point_of (number - 1) ≡ sample
  pub only : (label : ℕ) → label < count → point_of label ≡ sample → number ≡ label + 1

pub sums-none : (sample : Sample) → SumsUp 0 0 sample
sums-none sample = grind (arith)

-- a label that is not the sample's
sums-past : (n number : ℕ) (sample : Sample) → SumsUp n number sample → (point_of n ≡ sample → ⊥) → SumsUp (n + 1) number sample
sums-past n number sample h none = record {
  few = omega (arith, h.few);
  point = h.point;
  only = λ label low e. elim (cases_lt label n) [
    | inl less ↦ h.only label less e
    | inr more ↦ (let same : label ≡ n = omega (arith, low, more) in absurd (none (ap point_of (sym same) ∙ e)))
  ];
}

-- and the one that is
sums-here : PointsDiffer → (n number : ℕ) (sample : Sample) → n < 32 → SumsUp n number sample → point_of n ≡ sample
    → SumsUp (n + 1) (number + (n + 1)) sample
sums-here differ n (suc number) sample low h here =
    let back : number ≡ suc number - 1 = omega arith in
    let same : number ≡ n = differ number n (omega (arith, h.few, low)) low (ap point_of back ∙ h.point (omega arith) ∙ sym here) in
    absurd (omega (arith, same, h.few))
sums-here differ n zero sample low h here = record {
  few = omega arith;
  point = λ some. let back : zero + (n + 1) - 1 ≡ n = omega arith in ap point_of back ∙ here;
  only = λ label within e.
      let same : label ≡ n = differ label n (omega (arith, within, low)) low (e ∙ sym here) in omega (arith, same);
}

pub sums-more : PointsDiffer → (n number share : ℕ) (sample : Sample) → n < 32 → SumsUp n number sample
    → (0 < share → (point_of n ≡ sample) × (share ≡ n + 1)) → (share ≡ 0 → point_of n ≡ sample → ⊥) → SumsUp (n + 1) (number + share) sample
sums-more differ n number zero sample low h is none =
    let same : number ≡ number + zero = omega arith in
    subst (λ m. SumsUp (n + 1) m sample) same (sums-past n number sample h (none refl))
sums-more differ n number (suc share) sample low h is none =
    let here = is (omega arith) in
    subst (λ m. SumsUp (n + 1) (number + m) sample) (sym here.1) (sums-here differ n number sample low h here.0)

-- ---- labels and bits, one more of each

pub labels-on : (labels : List ℕ) (samples : List Sample) (label : ℕ) (sample : Sample) → label < 32 → point_of label ≡ sample
    → AreLabels labels samples → AreLabels (labels ++ label ∷ []) (samples ++ sample ∷ [])
labels-on labels samples label sample low e are = (
  All-append (λ l. l < 32) labels (label ∷ []) are.0 (All-cons (λ l. l < 32) label [] low (All-nil (λ l. l < 32))),
  map-append point_of labels (label ∷ []) ∙ ap (λ xs. xs ++ point_of label ∷ []) are.1 ∙ ap (λ s. samples ++ s ∷ []) e,
)

pub reads-more : (old mid new : Demodulator) (from state to : ℕ) (samples : List Sample) (quads labels : List ℕ) (sample : Sample)
    (label quad : ℕ) → label < 32 → point_of label ≡ sample → next_state state label ≡ Some to
    → ((mode : Mode) (before : List ℕ) (bits : List Bool) → DemodulatorStands mode mid before bits
    → DemodulatorStands mode new (before ++ label ∷ []) (bits ++ low_bits 4 quad)) → ReadsLabels old mid from state samples quads labels
    → ReadsLabels old new from to (samples ++ sample ∷ []) (quads ++ quad ∷ []) (labels ++ label ∷ [])
reads-more old mid new from state to samples quads labels sample label quad low e next push h = record {
  are = labels-on labels samples label sample low e h.are;
  leads = Leads-snoc next_state from labels state label to h.leads next;
  count = length_push quads quad ∙ ap (λ n. n + 1) h.count ∙ sym (length_push samples sample);
  stands = λ mode before bits k. subst (λ (ls : List ℕ). DemodulatorStands mode new ls (bits ++ line_bits (quads ++ quad ∷ [])))
      (append_assoc before labels (label ∷ []))
      (subst (λ (xs : List Bool). DemodulatorStands mode new ((before ++ labels) ++ label ∷ []) xs)
      (flat_map_more (low_bits 4) bits quads quad) (push mode (before ++ labels) (bits ++ line_bits quads) (h.stands mode before bits k)));
}

-- the samples of whole octets, and each of them
pub count-samples : (n : ℕ) (octets : List ℕ) → length octets ≡ 4 * n → length (samples_in octets) ≡ n
count-samples zero [] e = refl
count-samples zero (a ∷ octets) e = absurd (omega (arith, e))
count-samples (suc n) [] e = absurd (omega (arith, e))
count-samples (suc n) (a ∷ []) e = absurd (omega (arith, e))
count-samples (suc n) (a ∷ b ∷ []) e = absurd (omega (arith, e))
count-samples (suc n) (a ∷ b ∷ c ∷ []) e = absurd (omega (arith, e))
count-samples (suc n) (a ∷ b ∷ c ∷ d ∷ octets) e = ap suc (count-samples n octets (omega (arith, e)))

next-at : (a b c d n : ℕ) (octets : List ℕ) → sample_at (a ∷ b ∷ c ∷ d ∷ octets) (suc n) ≡ sample_at octets n
next-at a b c d n octets =
    let all : List ℕ = a ∷ b ∷ c ∷ d ∷ octets in
    let zeroth : 4 * suc n ≡ suc (suc (suc (suc (4 * n)))) = omega arith in
    let one : 4 * suc n + 1 ≡ suc (suc (suc (suc (4 * n + 1)))) = omega arith in
    let two : 4 * suc n + 2 ≡ suc (suc (suc (suc (4 * n + 2)))) = omega arith in
    let three : 4 * suc n + 3 ≡ suc (suc (suc (suc (4 * n + 3)))) = omega arith in
    λ i. sample_of (slice_index all (zeroth i)) (slice_index all (one i)) (slice_index all (two i)) (slice_index all (three i))

pub one-more : (n : ℕ) (octets : List ℕ) → 4 * n + 4 ≤ length octets
    → take (n + 1) (samples_in octets) ≡ take n (samples_in octets) ++ sample_at octets n ∷ []
one-more n [] h = absurd (omega (arith, h))
one-more n (a ∷ []) h = absurd (omega (arith, h))
one-more n (a ∷ b ∷ []) h = absurd (omega (arith, h))
one-more n (a ∷ b ∷ c ∷ []) h = absurd (omega (arith, h))
one-more zero (a ∷ b ∷ c ∷ d ∷ octets) h = refl
one-more (suc n) (a ∷ b ∷ c ∷ d ∷ octets) h =
    let m : suc n + 1 ≡ suc (n + 1) = omega arith in
    ap (λ k. take k (sample_of a b c d ∷ samples_in octets)) m
    ∙ ap (λ xs. sample_of a b c d ∷ xs) (one-more n octets (omega (arith, h)))
    ∙ ap (λ s. sample_of a b c d ∷ (take n (samples_in octets) ++ s ∷ [])) (sym (next-at a b c d n octets))

-- ---- where no label of the next sample goes on from the state, the samples are none of a code sequence

samples-long : (octets : List ℕ) (n : ℕ) → 4 * n ≤ length octets → n ≤ length (samples_in octets)
samples-long octets zero h = omega arith
samples-long [] (suc n) h = absurd (omega (arith, h))
samples-long (a ∷ []) (suc n) h = absurd (omega (arith, h))
samples-long (a ∷ b ∷ []) (suc n) h = absurd (omega (arith, h))
samples-long (a ∷ b ∷ c ∷ []) (suc n) h = absurd (omega (arith, h))
samples-long (a ∷ b ∷ c ∷ d ∷ octets) (suc n) h = omega (arith, samples-long octets n (omega (arith, h)))

pub no-sequence : PointsDiffer → (n from state : ℕ) (octets done : List ℕ) → 4 * n + 4 ≤ length octets
    → AreLabels done (take n (samples_in octets)) → Leads next_state from done state
    → NoStep state (sample_at octets n) → NoSequence from (samples_in octets)
no-sequence differ n from state octets done room are leads none labels to k h =
    let samples : List Sample = samples_in octets in
    let long : n + 1 ≤ length samples = samples-long octets (n + 1) (omega (arith, room)) in
    let count : length labels ≡ length samples = sym (length-map labels point_of) ∙ ap length k.1 in
    let label : ℕ = get_or labels n 0 in
    let low : label < 32 = k.0 n 0 (omega (arith, count, long)) in
    let split : take (n + 1) labels ≡ take n labels ++ label ∷ [] = take_more labels n 0 (omega (arith, count, long)) in
    let points : map point_of (take n labels) ++ point_of label ∷ [] ≡ take n samples ++ sample_at octets n ∷ [] =
    sym (map-append point_of (take n labels) (label ∷ [])) ∙ ap (map point_of) (sym split) ∙ sym (take-map point_of (n + 1) labels)
    ∙ ap (take (n + 1)) k.1 ∙ one-more n octets room in
    let parts = same_from_push (map point_of (take n labels)) (take n samples) (point_of label) (sample_at octets n) points in
    let front : take n labels ≡ done =
    points-tell differ (take n labels) done (All-take (λ l. l < 32) n labels k.0) are.0 (parts.0 ∙ sym are.1) in
    let upto = Leads-take next_state (n + 1) from labels to h in
    let last = Leads-front next_state from (take n labels) label upto.0 (subst (λ ls. Leads next_state from ls upto.0) split upto.1) in
    let mid : last.0 ≡ state =
    Leads_once next_state from done last.0 state (subst (λ ls. Leads next_state from ls last.0) front last.1) leads in
    none label upto.0 low parts.1 (subst (λ s. next_state s label ≡ Some upto.0) mid last.2)
