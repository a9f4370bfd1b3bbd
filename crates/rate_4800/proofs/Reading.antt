-- What the decoder of the four-point code makes of samples: all that is heard is released, each sample by itself.
use Rattle.std.proofs.Common.{◌≡◌, ◌∙◌, ℕ, zero, suc, ◌+◌, ◌*◌, ◌<◌, ◌≤◌, ◌&&◌, List, [], ◌∷◌, ◌++◌, length, length-append, Some, nat_lt}
use Rattle.std.proofs.Common.{refl, sym, ap, subst, inl, inr, arith, append-nil}
use Rattle.std.proofs.lemmas.Bool.{lt-ltb, eqb-true, cases_eq}
use Rattle.symbol_map.specs.declared.sample.Sample.{Sample}
use Rattle.symbol_map.specs.Distance.{distance_of}
use Rattle.symbol_map.proofs.Distances.{near_is_near, distance_of-swap}
use Rattle.trellis_tables.specs.Sequences.{Leads, cost}
use Rattle.trellis_tables.proofs.Sequences.{Leads-split, Leads-append}
use Rattle.exact_decoder.specs.Surviving.Trellises.{IsSequence, HasLaws}
use Rattle.exact_decoder.specs.Surviving.Survivors.{IsSurvivor, IsCommon, IsReleased}
use Rattle.exact_decoder.proofs.Surviving.Existence.{some-survives, ends-within}
use Rattle.exact_decoder.proofs.Surviving.Release.{survivor-one}
use Rattle.exact_decoder.proofs.Surviving.Fronts.{released-once}
use Rattle.exact_decoder.proofs.Surviving.Bellman.{least_cost}
use Rattle.rate_4800.specs.Code.{next_state, point_of}
use Rattle.rate_4800.specs.CodeLaws.{some_if, bounded, within, enters_once, reaches, points_lie_apart}
use Rattle.rate_4800.specs.Laws.{quarters}

pub quarters_have_laws : HasLaws quarters 1 4 1
quarters_have_laws = record {
  bounded = bounded;
  within = within;
  enters_once = enters_once;
  some_steps = omega arith;
  reaches = reaches;
  start = 0;
  starts_there = refl;
  starts_within = λ state e. let zero_is : state ≡ 0 = eqb-true state 0 e in omega (arith, zero_is);
}

-- a released list survives
record Survives (samples : List Sample) (front : List ℕ) : Type 0 where
  pub end : ℕ
  pub survivor : IsSurvivor quarters samples front end

released-survives : (samples : List Sample) (front : List ℕ) → IsReleased quarters samples front → Survives samples front
released-survives samples front released =
    let s = some-survives quarters 1 4 1 samples quarters_have_laws in
    let one : (state : ℕ) (labels : List ℕ) → IsSurvivor quarters samples labels state → s.0 ≡ labels = λ state labels h.
    let low : state < 1 = ends-within quarters 1 4 1 samples labels state quarters_have_laws h.sequence in
    let also : s.1 < 1 = ends-within quarters 1 4 1 samples s.0 s.1 quarters_have_laws s.2.sequence in
    let same : state ≡ s.1 = omega (arith, low, also) in
    survivor-one quarters samples s.0 labels s.1 s.2 (subst (λ e. IsSurvivor quarters samples labels e) same h) in
    let common : IsCommon quarters samples s.0 = λ state labels h. ([], append-nil s.0 ∙ one state labels h) in
    let alone : IsReleased quarters samples s.0 = record { common = common; longest = λ other h. h s.1 s.0 s.2 } in
    let is : s.0 ≡ front = released-once quarters samples s.0 front alone released in
    record { end = s.1; survivor = subst (λ l. IsSurvivor quarters samples l s.1) is s.2 }

pub all-released : (samples : List Sample) (front : List ℕ) → IsReleased quarters samples front → length front ≡ length samples
all-released samples front released = (released-survives samples front released).survivor.sequence.same_length

-- a list in front of a place, what stands there, and what stands behind it
record Cut (labels : List ℕ) (place : ℕ) : Type 0 where
  pub earlier : List ℕ
  pub here : ℕ
  pub later : List ℕ
  pub parts : labels ≡ earlier ++ here ∷ later
  pub long : length earlier ≡ place

cut : (labels : List ℕ) (place : ℕ) → place < length labels → Cut labels place
cut [] place low = absurd (omega arith)
cut (x ∷ labels) zero low = record { earlier = []; here = x; later = labels; parts = refl; long = refl }
cut (x ∷ labels) (suc place) low =
    let c = cut labels place (omega arith) in
    record { earlier = x ∷ c.earlier; here = c.here; later = c.later; parts = ap (λ l. x ∷ l) c.parts; long = ap suc c.long }

abbrev far : ℕ → Sample → ℕ
far label sample = distance_of (point_of label) sample

cost-append : (labels more : List ℕ) (before after : List Sample) → length labels ≡ length before
    → cost far (labels ++ more) (before ++ after) ≡ cost far labels before + cost far more after
cost-append [] more [] after e = omega arith
cost-append [] more (s ∷ before) after e = absurd (omega arith)
cost-append (x ∷ labels) more [] after e = absurd (omega arith)
cost-append (x ∷ labels) more (s ∷ before) after e =
    let rest = cost-append labels more before after (omega arith) in
    let sum : cost far ((x ∷ labels) ++ more) ((s ∷ before) ++ after) ≡ far x s + cost far (labels ++ more) (before ++ after) = refl in
    let own : cost far (x ∷ labels) (s ∷ before) ≡ far x s + cost far labels before = refl in
    omega (arith, rest, sum, own)

-- each label may stand at each place
leads-on : (from : ℕ) (earlier : List ℕ) (here : ℕ) (later : List ℕ) (label to : ℕ) → label < 4
    → Leads next_state from (earlier ++ here ∷ later) to → Leads next_state from (earlier ++ label ∷ later) to
leads-on from earlier here later label to low leads =
    let s = Leads-split next_state from earlier (here ∷ later) to leads in
    let mid = s.0 in
    let step = s.2 in
    let state = (bounded mid here step.0 step.1).0 in
    let zero_is : mid ≡ 0 = omega (arith, state) in
    let there : 0 ≡ step.0 = (some_if (nat_lt mid 1 && nat_lt here 4) 0 step.0 step.1).1 in
    let moves : next_state mid label ≡ Some step.0 = rw (zero_is, lt-ltb label 4 low) (ap Some there) in
    Leads-append next_state from earlier (label ∷ later) mid to s.1 (step.0, moves, step.2)

-- what is nearer than half the way to one point is farther from each other one
nearer : (label here : ℕ) (sample : Sample) → label < 4 → here < 4 → (label ≡ here → ⊥) → far label sample < 20971520
    → far label sample < far here sample
nearer label here sample in_label in_here differ near =
    let wide : 83886080 ≤ distance_of (point_of label) (point_of here) = points_lie_apart label here in_label in_here differ in
    let both : distance_of (point_of label) (point_of here) ≤ 2 * distance_of (point_of label) sample + 2 * distance_of sample
    (point_of here) = near_is_near (point_of label) sample (point_of here) in
    let swap : distance_of sample (point_of here) ≡ far here sample = distance_of-swap sample (point_of here) in
    omega (arith, wide, both, swap, near)

pub near-read : (before after : List Sample) (sample : Sample) (label : ℕ) (front : List ℕ) → label < 4
    → distance_of (point_of label) sample < 20971520
    → IsReleased quarters (before ++ sample ∷ after) front
    → (earlier : List ℕ) × (later : List ℕ) × (front ≡ earlier ++ label ∷ later) × (length earlier ≡ length before)
near-read before after sample label front low near released = elim (cases_eq label c.here) [
  | inl same ↦ (c.earlier, c.later, c.parts ∙ ap (λ x. c.earlier ++ x ∷ c.later) (sym same), c.long)
  | inr differ ↦ absurd (beaten differ)
]
  where
    samples : List Sample
    samples = before ++ sample ∷ after

    s : Survives samples front
    s = released-survives samples front released

    long : length front ≡ length samples
    long = s.survivor.sequence.same_length

    count : length samples ≡ length before + suc (length after)
    count = length-append before (sample ∷ after)

    c : Cut front (length before)
    c = cut front (length before) (omega (arith, long, count))

    other : List ℕ
    other = c.earlier ++ label ∷ c.later

    leads : Leads next_state s.survivor.sequence.code_sequence.from (c.earlier ++ c.here ∷ c.later) s.end
    leads = subst (λ l. Leads next_state s.survivor.sequence.code_sequence.from l s.end) c.parts s.survivor.sequence.code_sequence.leads

    in_here : c.here < 4
    in_here = let parts = Leads-split next_state s.survivor.sequence.code_sequence.from c.earlier (c.here ∷ c.later) s.end leads in
        (bounded parts.0 c.here parts.2.0 parts.2.1).1

    as_long : length other ≡ length samples
    as_long =
        let a : length other ≡ length c.earlier + suc (length c.later) = length-append c.earlier (label ∷ c.later) in
        let b : length (c.earlier ++ c.here ∷ c.later) ≡ length c.earlier + suc (length c.later) =
        length-append c.earlier (c.here ∷ c.later) in
        let d : length front ≡ length (c.earlier ++ c.here ∷ c.later) = ap length c.parts in
        omega (arith, a, b, d, long)

    sequence : IsSequence quarters samples other s.end
    sequence = record {
      code_sequence = record {
        from = s.survivor.sequence.code_sequence.from;
        starts_there = s.survivor.sequence.code_sequence.starts_there;
        leads = leads-on s.survivor.sequence.code_sequence.from c.earlier c.here c.later label s.end low leads;
      };
      same_length = as_long;
    }

    beaten : (label ≡ c.here → ⊥) → ⊥
    beaten differ =
        let least : cost far front samples ≤ cost far other samples =
        least_cost quarters samples front other (s.survivor.best other sequence) in
        let own : cost far front samples ≡ cost far c.earlier before + cost far (c.here ∷ c.later) (sample ∷ after) =
        ap (λ l. cost far l samples) c.parts ∙ cost-append c.earlier (c.here ∷ c.later) before (sample ∷ after) c.long in
        let others : cost far other samples ≡ cost far c.earlier before + cost far (label ∷ c.later) (sample ∷ after) =
        cost-append c.earlier (label ∷ c.later) before (sample ∷ after) c.long in
        let a : cost far (c.here ∷ c.later) (sample ∷ after) ≡ far c.here sample + cost far c.later after = refl in
        let b : cost far (label ∷ c.later) (sample ∷ after) ≡ far label sample + cost far c.later after = refl in
        let less : far label sample < far c.here sample = nearer label c.here sample low in_here differ near in
        omega (arith, least, own, others, a, b, less)
