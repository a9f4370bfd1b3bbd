-- The decoder after more samples.
use Rattle.exact_decoder.proofs.Names.{◌≡◌, ℕ, ◌+◌, ◌-◌, ◌<◌, ◌≤◌, inl, inr, Bool, List, [], ◌∷◌, ◌++◌, length, take, Option, Some, None}
use Rattle.exact_decoder.proofs.Names.{option_map, arith, append_assoc, length-append, sym, ◌∙◌, ap, subst, cases_lt, append-nil}
use Rattle.exact_decoder.proofs.Names.{take-append-le, take_all, SteppedEach, branch_of, sums_at, branches_at, new_sums_at}
use Rattle.exact_decoder.proofs.Names.{tail_at, Decoding, DecoderStands, heard, Kept, IsParted, KeepsSurvivors, Stepped, Released}
use Rattle.exact_decoder.proofs.Names.{Keeps, GoesOn, IsSurvivor, IsCommon, IsReleased, IsOver, IsLost, LostIs, Trellis}
use Rattle.exact_decoder.proofs.Names.{trellis_of, IsPrefixOf, Sample, IsBounded, EntersOnce}
use Rattle.std.proofs.Math.Seq.{take-append-add}
use Rattle.exact_decoder.proofs.Surviving.Columns.{Keeps-more, kept, known}
use Rattle.exact_decoder.proofs.Surviving.Release.{survivor-one, prefix-parted}
use Rattle.exact_decoder.proofs.Surviving.Fronts.{released-once, stays-prefix, over-before, lost-stays}
use Rattle.exact_decoder.specs.Memory.{opened}

pub none-some : {P : Type 0} (symbol : ℕ) → ◌≡◌ {A = Option ℕ} None (Some symbol) → P
none-some symbol e = cc

-- the paths and sums may be written otherwise
keeps-paths : {X : Type 0} (c : Trellis X) (samples : List X) (base : ℕ) (sums : ℕ → Option ℕ) (paths other : ℕ → List ℕ)
    → ((s m : ℕ) → sums s ≡ Some m → paths s ≡ other s) → Keeps c samples base sums paths → Keeps c samples base sums other
keeps-paths {X} c samples base sums paths other same k = grind (arith)

keeps-sums : {X : Type 0} (c : Trellis X) (samples : List X) (base : ℕ) (sums other : ℕ → Option ℕ) (paths : ℕ → List ℕ)
    → ((s : ℕ) → other s ≡ sums s) → Keeps c samples base sums paths → Keeps c samples base other paths
keeps-sums c samples base sums other paths same k = grind (arith)

-- sums that are lowered by one number are those of a base that is higher by it
keeps-lowered : {X : Type 0} (c : Trellis X) (samples : List X) (base n : ℕ) (sums : ℕ → Option ℕ) (paths : ℕ → List ℕ)
    → ((s m : ℕ) → sums s ≡ Some m → n ≤ m) → Keeps c samples base sums paths
    → Keeps c samples (base + n) (λ s. option_map (λ m. m - n) (sums s)) paths
keeps-lowered {X} c samples base n sums paths low k = grind (arith)

-- where no first label is common to all tails, the front is what is released
pub released-of : {X : Type 0} (c : Trellis X) (samples : List X) (base : ℕ) (sums : List (Option ℕ)) (tails : List (List ℕ))
    (front : List ℕ) → Keeps c samples base (sums_at sums) (λ s. front ++ tail_at tails s) → IsParted sums tails
    → IsReleased c samples front
released-of {X} c samples base sums tails front k parted = record {
  common = grind (arith, survivor-one, mine);
  longest = λ other every. longest other every parted;
}
  where
    mine : (s : ℕ) (labels : List ℕ) (o : Option ℕ) → sums_at sums s ≡ o → IsSurvivor c samples labels s
        → IsSurvivor c samples (front ++ tail_at tails s) s
    mine s labels o e v = let w = kept c samples base (λ s. front ++ tail_at tails s) s labels (sums_at sums s) v.sequence (k.knows s) in
        w.2.0

    stands : (s m : ℕ) → sums_at sums s ≡ Some m → IsSurvivor c samples (front ++ tail_at tails s) s
    stands s m e = (known c samples base (sums_at sums) (λ s. front ++ tail_at tails s) s m k e).0

    longest : (other : List ℕ) → IsCommon c samples other → IsParted sums tails → IsPrefixOf other front
    longest other every (inl (s, m, e, empty)) = grind (arith, front, append-nil, stands)
    longest other every (inr a) = prefix-parted _ _ _ _ _ _ a.apart
        (subst (IsPrefixOf other) (ap (λ l. front ++ l) a.s_begins) (every a.s (front ++ tail_at tails a.s) (stands _ _ a.s_reached)))
        (subst (IsPrefixOf other) (ap (λ l. front ++ l) a.t_begins) (every a.t (front ++ tail_at tails a.t) (stands _ _ a.t_reached)))

-- the survivors of one sample more, before any release
pub keeps-stepped : (table : ℕ → ℕ → Option ℕ) (points : ℕ → Sample) (states labels : ℕ) (starts : ℕ → Bool) (sample : Sample)
    (k new : Kept) (samples : List Sample) (front : List ℕ) → IsBounded table states labels → EntersOnce table states labels
    → Stepped table points sample k new → KeepsSurvivors (trellis_of table points starts) k samples front
    → KeepsSurvivors (trellis_of table points starts) new (samples ++ sample ∷ []) front
keeps-stepped table points states labels starts sample k new samples front bounded once p h = record {
  base = h.base + p.lowered;
  keeps = keeps-sums c (samples ++ sample ∷ []) _ (λ s. option_map (λ n. n - p.lowered) (new_sums_at p.entries s)) _
      (λ s. front ++ tail_at new.tails s) p.sums (keeps-lowered c (samples ++ sample ∷ []) _ _ _ (λ s. front ++ tail_at new.tails s)
      p.least (Keeps-more c samples sample _ _ _ (λ s. front ++ tail_at k.tails s) (λ s. front ++ tail_at new.tails s) _ always h.keeps
      (p.chosen starts) goes));
  long = omega (arith, h.long, p.longer_by_one, length-append {A = Sample} samples (sample ∷ []));
}
  where
    c : Trellis Sample
    c = trellis_of table points starts

    always : (s t label to : ℕ) → table s label ≡ Some to → table t label ≡ Some to → s ≡ t
    always s t label to e f = let a = bounded s label to e in let b = bounded t label to f in once s t label to a.0 b.0 a.1 e f

    goes : GoesOn (λ s. front ++ tail_at k.tails s) (branches_at p.entries) (λ s. front ++ tail_at new.tails s)
    goes to b e = grind (arith, branch_of, front, append_assoc)

-- the same survivors, and what they release
pub keeps-released : {X : Type 0} (c : Trellis X) (k new : Kept) (samples : List X) (taken pending more labels : List ℕ)
    → more ≡ pending ++ labels → Released k new labels → KeepsSurvivors c k samples (taken ++ pending)
    → KeepsSurvivors c new samples (taken ++ more) × IsReleased c samples (taken ++ more)
keeps-released {X} c k new samples taken pending more labels pending_is r h = (
  record { base = h.base; keeps = keeps; long = omega (arith, h.long, r.count, l) },
  released-of c samples h.base new.sums new.tails (taken ++ more) keeps r.parted,
)
  where
    front : taken ++ more ≡ (taken ++ pending) ++ labels
    front = ap (λ l. taken ++ l) pending_is ∙ sym (append_assoc taken pending labels)

    l : length (taken ++ more) ≡ length (taken ++ pending) + length labels
    l = ap length front ∙ length-append {A = ℕ} (taken ++ pending) labels

    keeps : Keeps c samples h.base (sums_at new.sums) (λ s. (taken ++ more) ++ tail_at new.tails s)
    keeps = keeps-paths c samples _ _ (λ s. (taken ++ pending) ++ tail_at k.tails s) (λ s. (taken ++ more) ++ tail_at new.tails s)
        (λ s m e. ap (λ l. (taken ++ pending) ++ l) (r.moved s m e) ∙ sym (append_assoc (taken ++ pending) labels (tail_at new.tails s))
        ∙ ap (λ l. l ++ tail_at new.tails s) (sym front)) (keeps-sums c samples _ _ _ (λ s. (taken ++ pending) ++ tail_at k.tails s)
        (λ s. ap (λ l. sums_at l s) r.sums_stay) h.keeps)

-- after the last sample the line is lost where more labels than the depth are unreleased then
over-last : {X : Type 0} (c : Trellis X) (depth : ℕ) (samples : List X) (front : List ℕ) (unreleased n : ℕ) → IsReleased c samples front
    → length front + unreleased ≡ length samples → n ≡ length samples → IsOver c depth samples n → depth < unreleased
over-last {X} c depth samples front unreleased n r l last h =
    let whole : take n samples ≡ samples = take_all n samples (omega arith) in
    let one : h.front ≡ front = released-once c samples h.front front (subst (λ s. IsReleased c s h.front) whole h.released) r in
    omega (arith, ap length one, h.over)

prefix-short : (front later : List ℕ) → IsPrefixOf front later → length front ≤ length later
prefix-short front later p = omega (arith, ap length p.1, length-append {A = ℕ} front p.0)

-- Where the line isn't lost, and the samples that follow have room beside the labels that are unreleased, at most the last one loses it.
module _ {X : Type 0} (c : Trellis X) (depth held unreleased : ℕ) (samples more : List X) (first front : List ℕ)
    (before : LostIs c depth samples None) (known : IsReleased c samples first) (long : length first + held ≡ length samples)
    (room : held + length more ≤ depth + 1) (r : IsReleased c (samples ++ more) front)
    (l : length front + unreleased ≡ length (samples ++ more)) where
  quiet : (n : ℕ) → n < length (samples ++ more) → IsOver c depth (samples ++ more) n → ⊥
  quiet n low o = elim (cases_lt (length samples) n) [
    | inl behind ↦
        let k = n - length samples in
        let there : take n (samples ++ more) ≡ samples ++ take k more =
        ap (λ m. take m (samples ++ more)) (omega (arith, behind)) ∙ take-append-add samples more k in
        let p = stays-prefix c samples (take k more) first o.front known (subst (λ s. IsReleased c s o.front) there o.released) in
        omega (arith, prefix-short first o.front p, o.over, long, room, low, behind, length-append {A = X} samples more)
    | inr within ↦ before n within (over-before c depth samples more n within o)
  ]

  pub lost-none : unreleased ≤ depth → LostIs c depth (samples ++ more) None
  lost-none few n within o = elim (cases_lt n (length (samples ++ more))) [
    | inl low ↦ quiet n low o
    | inr last ↦
        let e : n ≡ length (samples ++ more) = omega arith in
        omega (arith, over-last c depth (samples ++ more) front unreleased n r l e o)
  ]

  pub lost-some : (symbol : ℕ) → symbol + 1 ≡ length (samples ++ more) → depth < unreleased → IsLost c depth (samples ++ more) symbol
  lost-some symbol last many =
      let whole : take (symbol + 1) (samples ++ more) ≡ samples ++ more = take_all (symbol + 1) (samples ++ more) (omega arith) in
      record {
        within = omega arith;
        over = record { front = front; released = subst (λ s. IsReleased c s front) (sym whole) r; over = omega arith };
        first = λ n low o. quiet n (omega arith) o;
      }

-- what the parts of a push make together
pub record Pushed (table : ℕ → ℕ → Option ℕ) (points : ℕ → Sample) (states reach : ℕ) (more : List Sample) (old new : Decoding)
    : Type 0 where
  pub between : Kept
  pub stepped : SteppedEach table points states reach more (opened old.memory) between
  pub labels : List ℕ
  pub released : Released between (opened new.memory) labels
  pub pending_is : new.pending ≡ old.pending ++ labels
  pub count : new.count ≡ old.count + length more

module _ (table : ℕ → ℕ → Option ℕ) (points : ℕ → Sample) (states reach depth : ℕ) (starts : ℕ → Bool) (more : List Sample)
    (old new : Decoding) (samples : List Sample) (taken : List ℕ) (runs : old.lost ≡ None)
    (room : (opened old.memory).unreleased + length more ≤ depth + 1) (p : Pushed table points states reach more old new)
    (h : DecoderStands table points starts depth old samples taken) where
  keeps : KeepsSurvivors (trellis_of table points starts) (opened new.memory) (samples ++ more) (taken ++ new.pending)
      × IsReleased (trellis_of table points starts) (samples ++ more) (taken ++ new.pending)
  keeps = keeps-released (trellis_of table points starts) p.between (opened new.memory) (samples ++ more) taken old.pending new.pending
      p.labels p.pending_is p.released (p.stepped.keeps starts samples (taken ++ old.pending) (h.keeps runs))

  counted : old.count ≡ length samples
  counted = h.counted ∙ ap (λ o. length (heard o samples)) runs

  first : IsReleased (trellis_of table points starts) samples (taken ++ old.pending)
  first = subst (λ o. IsReleased (trellis_of table points starts) (heard o samples) (taken ++ old.pending)) runs h.released

  before : LostIs (trellis_of table points starts) depth samples None
  before = subst (LostIs (trellis_of table points starts) depth samples) runs h.lost

  pub stands-goes_on : new.lost ≡ None → (opened new.memory).unreleased ≤ depth
      → DecoderStands table points starts depth new (samples ++ more) taken
  stands-goes_on f few =
      let c = trellis_of table points starts in
      let all : heard new.lost (samples ++ more) ≡ samples ++ more = ap (λ o. heard o (samples ++ more)) f in
      record {
        counted = omega (arith, p.count, counted, length-append {A = Sample} samples more, ap length all);
        lost = subst (LostIs c depth (samples ++ more)) (sym f)
            (lost-none c depth (opened old.memory).unreleased (opened new.memory).unreleased samples more (taken ++ old.pending)
            (taken ++ new.pending) before first (h.keeps runs).long room keeps.1 keeps.0.long few);
        released = subst (λ s. IsReleased c s (taken ++ new.pending)) (sym all) keeps.1;
        keeps = λ _. keeps.0;
      }

  pub stands-lost : (symbol : ℕ) → symbol + 1 ≡ new.count → new.lost ≡ Some symbol → depth < (opened new.memory).unreleased
      → DecoderStands table points starts depth new (samples ++ more) taken
  stands-lost symbol last f many =
      let c = trellis_of table points starts in
      let all_are : symbol + 1 ≡ length (samples ++ more) = grind (arith, counted, length-append) in
      let whole : take (symbol + 1) (samples ++ more) ≡ samples ++ more = take_all (symbol + 1) (samples ++ more) (omega arith) in
      let all : heard new.lost (samples ++ more) ≡ samples ++ more = ap (λ o. heard o (samples ++ more)) f ∙ whole in
      record {
        counted = omega (arith, p.count, counted, length-append {A = Sample} samples more, ap length all);
        lost = subst (LostIs c depth (samples ++ more)) (sym f)
            (lost-some c depth (opened old.memory).unreleased (opened new.memory).unreleased samples more (taken ++ old.pending)
            (taken ++ new.pending) before first (h.keeps runs).long room keeps.1 keeps.0.long symbol all_are many);
        released = subst (λ s. IsReleased c s (taken ++ new.pending)) (sym all) keeps.1;
        keeps = λ g. none-some symbol (sym g ∙ f);
      }

-- a lost line stays so
pub stands-stays : (table : ℕ → ℕ → Option ℕ) (points : ℕ → Sample) (depth : ℕ) (starts : ℕ → Bool) (more : List Sample) (d : Decoding)
    (samples : List Sample) (taken : List ℕ) (symbol : ℕ) → d.lost ≡ Some symbol
    → DecoderStands table points starts depth d samples taken → DecoderStands table points starts depth d (samples ++ more) taken
stands-stays table points depth starts more d samples taken symbol e h = grind (arith, lost-stays, none-some, heard, take-append-le)
