-- What the laws of any code's table make of its survivors, whatever the states that sequences start in.
use Rattle.exact_decoder.proofs.Names.{◌≡◌, ℕ, zero, suc, ◌+◌, ◌<◌, ◌≤◌, ◌⊎◌, inl, inr, nat_lt, Bool, true, false, ◌&&◌, List, [], ◌∷◌}
use Rattle.exact_decoder.proofs.Names.{◌++◌, length, map, take, drop, arith, length-append, append_assoc, refl, sym, ◌∙◌, ap, subst, Option}
use Rattle.exact_decoder.proofs.Names.{Some, None, cases_lt, cases_eq, lt-ltb, ltb-true, and_parts, take-take, take-append-drop}
use Rattle.exact_decoder.proofs.Names.{take-append-le, take_all, length-take-le, heard, Beats, IsSurvivor, IsReleased, IsLost, LostIs}
use Rattle.exact_decoder.proofs.Names.{Trellis, trellis_of, IsSequence, HasLaws, IsPrefixOf, distance_of, Sample, IsBounded, StaysWithin}
use Rattle.exact_decoder.proofs.Names.{EntersOnce, Reaches, Leads, cost}
use Rattle.std.proofs.lemmas.Bool.{and_from}
use Rattle.symbol_map.proofs.Distances.{equal_from_no_distance, no_distance_from_equal}
use Rattle.trellis_tables.specs.Sequences.{IsCodeSequence}
use Rattle.trellis_tables.specs.Codes.{PointsDiffer}
use Rattle.trellis_tables.proofs.Sequences.{Leads-take}
use Rattle.exact_decoder.proofs.Surviving.Fronts.{stays-prefix, released-once, lost-once, lost-stays, over-before}
use Rattle.exact_decoder.proofs.Surviving.Least.{some-released, released-is_least}
use Rattle.exact_decoder.specs.Laws.{AreStarts, IsOnlyLeast, OnlySentIsLeast, ReleasesSent, DecoderReleasesLeast, DecoderReleasesStay}
use Rattle.exact_decoder.specs.Laws.{DecodersAgree, FewUnreleased}

-- what a code's laws say of its table
pub record IsCodeTable (table : ℕ → ℕ → Option ℕ) (states labels steps : ℕ) : Type 0 where
  pub bounded : IsBounded table states labels
  pub within : StaysWithin table states labels
  pub enters_once : EntersOnce table states labels
  pub some_steps : 1 ≤ steps
  pub reaches : Reaches table states labels steps

pub has-laws : (table : ℕ → ℕ → Option ℕ) (points : ℕ → Sample) (states labels steps : ℕ) → IsCodeTable table states labels steps
    → (starts : ℕ → Bool) → AreStarts states starts → HasLaws (trellis_of table points starts) states labels steps
has-laws table points states labels steps code starts are = grind (arith)

-- labels cost nothing against their own points, and no others do
cost-own : (points : ℕ → Sample) (labels : List ℕ) → cost (λ label sample. distance_of (points label) sample) labels (map points labels) ≡ 0
cost-own points [] = refl
cost-own points (x ∷ labels) = omega (arith, no_distance_from_equal (points x) (points x) refl, cost-own points labels)

no-cost : (table : ℕ → ℕ → Option ℕ) (points : ℕ → Sample) (states few s t u v : ℕ) (a b : List ℕ) → IsBounded table states few
    → PointsDiffer points few → Leads table s a u → Leads table t b v → length a ≡ length b
    → cost (λ label sample. distance_of (points label) sample) a (map points b) ≡ 0 → a ≡ b
no-cost table points states few s t u v [] [] bounded differ p q h e = refl
no-cost table points states few s t u v [] (y ∷ b) bounded differ p q h e = absurd (omega arith)
no-cost table points states few s t u v (x ∷ a) [] bounded differ p q h e = absurd (omega arith)
no-cost table points states few s t u v (x ∷ a) (y ∷ b) bounded differ (m, i, p) (n, j, q) h e =
    let none : distance_of (points x) (points y) ≡ 0 = omega (arith, e) in
    let rest : cost (λ label sample. distance_of (points label) sample) a (map points b) ≡ 0 = omega (arith, e) in
    let same : length a ≡ length b = omega arith in
    let one : x ≡ y = differ x y (bounded s x m i).1 (bounded t y n j).1 (equal_from_no_distance (points x) (points y) none) in
    let tails : a ≡ b = no-cost table points states few m n u v a b bounded differ p q same rest in grind (arith)

length-points : (points : ℕ → Sample) (labels : List ℕ) → length (map points labels) ≡ length labels
length-points points [] = refl
length-points points (x ∷ labels) = omega (arith, length-points points labels)

take-points : (points : ℕ → Sample) (n : ℕ) (labels : List ℕ) → take n (map points labels) ≡ map points (take n labels)
take-points points zero labels = refl
take-points points (suc n) [] = refl
take-points points (suc n) (x ∷ labels) = ap (λ l. points x ∷ l) (take-points points n labels)

-- sent labels survive at their end
sent-survives : (table : ℕ → ℕ → Option ℕ) (points : ℕ → Sample) (states few : ℕ) (starts : ℕ → Bool) (labels : List ℕ) (end : ℕ)
    → IsBounded table states few → PointsDiffer points few → IsCodeSequence table starts labels end
    → IsSurvivor (trellis_of table points starts) (map points labels) labels end
sent-survives table points states few starts labels end bounded differ q = record {
  sequence = record { code_sequence = q; same_length = sym (length-points points labels) };
  best = λ other o. against other o (cases_eq (cost (λ label sample. distance_of (points label) sample) other (map points labels)) 0);
}
  where
    against : (other : List ℕ) → IsSequence (trellis_of table points starts) (map points labels) other end
        → (cost (λ label sample. distance_of (points label) sample) other (map points labels) ≡ 0)
        ⊎ (cost (λ label sample. distance_of (points label) sample) other (map points labels) ≡ 0 → ⊥)
        → (other ≡ labels) ⊎ Beats (λ label sample. distance_of (points label) sample) (map points labels) labels other
    against other o (inl none) = inl (no-cost _ _ _ _ _ _ _ _ _ _ bounded differ o.code_sequence.leads q.leads
        (o.same_length ∙ length-points _ _) none)
    against other o (inr some) = grind (arith, cases_lt, cost-own)

pub only-sent : (table : ℕ → ℕ → Option ℕ) (points : ℕ → Sample) (states few : ℕ) → IsBounded table states few → PointsDiffer points few
    → OnlySentIsLeast table points
only-sent table points states few bounded differ starts labels samples h =
    subst (λ k. IsOnlyLeast (trellis_of table points starts) k labels) (sym h.exact) (record {
      least = record { end = h.end; sequence = mine; least = λ other other_end o. omega (arith, cost-own points labels) };
      only = λ other l.
          let none : cost (λ label sample. distance_of (points label) sample) other (map points labels) ≡ 0 =
          omega (arith, l.least labels h.end mine, cost-own points labels) in
          no-cost table points states few l.sequence.code_sequence.from h.code_sequence.from l.end h.end other labels bounded differ
          l.sequence.code_sequence.leads h.code_sequence.leads (l.sequence.same_length ∙ length-points points labels) none;
    })
  where
    mine : IsSequence (trellis_of table points starts) (map points labels) labels h.end
    mine = record { code_sequence = h.code_sequence; same_length = sym (length-points points labels) }

pub releases-sent : (table : ℕ → ℕ → Option ℕ) (points : ℕ → Sample) (states few : ℕ) → IsBounded table states few → PointsDiffer points few
    → ReleasesSent table points
releases-sent table points states few bounded differ starts labels samples n front h r =
    let part : take n samples ≡ map points (take n labels) = ap (take n) h.exact ∙ take-points points n labels in
    let l = Leads-take table n h.code_sequence.from labels h.end h.code_sequence.leads in
    let first : IsCodeSequence table starts (take n labels) l.0 = grind (arith) in
    let p = (subst (λ k. IsReleased (trellis_of table points starts) k front) part r).common l.0 (take n labels)
    (sent-survives table points states few starts (take n labels) l.0 bounded differ first) in
    (p.0 ++ drop n labels, sym (append_assoc front p.0 (drop n labels)) ∙ ap (λ k. k ++ drop n labels) p.1 ∙ take-append-drop n labels)

-- the same survivors have the same prefix released
released-along : (table : ℕ → ℕ → Option ℕ) (points : ℕ → Sample) (a b : ℕ → Bool) (samples : List Sample) (front : List ℕ)
    → ((labels : List ℕ) (end : ℕ) → IsSequence (trellis_of table points a) samples labels end
    → IsSequence (trellis_of table points b) samples labels end)
    → ((labels : List ℕ) (end : ℕ) → IsSequence (trellis_of table points b) samples labels end
    → IsSequence (trellis_of table points a) samples labels end)
    → IsReleased (trellis_of table points a) samples front → IsReleased (trellis_of table points b) samples front
released-along table points a b samples front to back r = record {
  common = grind (arith);
  longest = λ other every. r.longest other
      (λ state labels v. every state labels
      (record { sequence = to labels state v.sequence; best = λ more o. v.best more (back more state o) }));
}

-- the starts that are states
abbrev among : ℕ → (ℕ → Bool) → ℕ → Bool
among states starts state = starts state && nat_lt state states

some-start : (starts : ℕ → Bool) (n : ℕ) → ((s : ℕ) × (s < n) × (starts s ≡ true)) ⊎ ((s : ℕ) → s < n → starts s ≡ true → ⊥)
some-start starts zero = inr (λ s l e. absurd (omega arith))
some-start starts (suc n) = next (starts n) refl (some-start starts n)
  where
    next : (b : Bool) → starts n ≡ b → ((s : ℕ) × (s < n) × (starts s ≡ true)) ⊎ ((s : ℕ) → s < n → starts s ≡ true → ⊥)
        → ((s : ℕ) × (s < suc n) × (starts s ≡ true)) ⊎ ((s : ℕ) → s < suc n → starts s ≡ true → ⊥)
    next b e (inl (s, l, f)) = inl (s, omega arith, f)
    next true e (inr none) = inl (n, omega arith, e)
    next false e (inr none) = grind (arith)

-- a sequence of some labels starts in a state of the code
starts-among : (table : ℕ → ℕ → Option ℕ) (points : ℕ → Sample) (states few : ℕ) (starts : ℕ → Bool) (samples : List Sample)
    (labels : List ℕ) (end : ℕ) → IsBounded table states few → 1 ≤ length samples
    → (q : IsSequence (trellis_of table points starts) samples labels end) → q.code_sequence.from < states
starts-among table points states few starts samples labels end bounded some q =
    first labels (omega (arith, q.same_length)) q.code_sequence.leads
  where
    first : (l : List ℕ) → 1 ≤ length l → Leads table q.code_sequence.from l end → q.code_sequence.from < states
    first [] many leads = absurd (omega arith)
    first (x ∷ l) many (mid, e, leads) = (bounded q.code_sequence.from x mid e).0

-- at most one label more than the depth is unreleased once the line is lost
few-lost : (table : ℕ → ℕ → Option ℕ) (points : ℕ → Sample) (states labels steps depth : ℕ) (starts : ℕ → Bool) (samples : List Sample)
    (symbol : ℕ) (front : List ℕ) → IsCodeTable table states labels steps
    → IsLost (trellis_of table points starts) depth samples symbol
    → IsReleased (trellis_of table points starts) (take (symbol + 1) samples) front → symbol + 1 ≤ length front + (depth + 1)
few-lost table points states labels steps depth starts samples symbol front code lost r = elim (cases_eq symbol 0) [
  | inl none ↦ omega arith
  | inr some ↦ elim (some-start starts states) [
    | inl (s, l, e) ↦ before s l e some
    | inr never ↦ absurd (nothing never)
  ]
]
  where
    c : Trellis Sample
    c = trellis_of table points starts

    inner : Trellis Sample
    inner = trellis_of table points (among states starts)

    up : (xs : List Sample) (labels : List ℕ) (end : ℕ) → IsSequence (trellis_of table points (among states starts)) xs labels end
        → IsSequence (trellis_of table points starts) xs labels end
    up xs l end q = grind (arith)

    down : (xs : List Sample) → 1 ≤ length xs → (labels : List ℕ) (end : ℕ) → IsSequence (trellis_of table points starts) xs labels end
        → IsSequence (trellis_of table points (among states starts)) xs labels end
    down xs many l end q = record {
      code_sequence = record {
        from = q.code_sequence.from;
        starts_there = and_from (starts q.code_sequence.from) (nat_lt q.code_sequence.from states) q.code_sequence.starts_there
            (lt-ltb q.code_sequence.from states (starts-among table points states labels starts xs l end code.bounded many q));
        leads = q.code_sequence.leads;
      };
      same_length = q.same_length;
    }

    before : (s : ℕ) → s < states → starts s ≡ true → (symbol ≡ 0 → ⊥) → symbol + 1 ≤ length front + (depth + 1)
    before s l e some =
        let starts_in : AreStarts states (among states starts) =
        record {
          start = s;
          starts_there = and_from (starts s) (nat_lt s states) e (lt-ltb s states l);
          within = λ t f. ltb-true t states (and_parts (starts t) (nat_lt t states) f).1;
        } in
        let xs : List Sample = take symbol samples in
        let long : length xs ≡ symbol = length-take-le symbol samples (omega (arith, lost.within)) in
        let many : 1 ≤ length xs = grind (arith) in
        let one = some-released (trellis_of table points (among states starts)) _ _ _ xs (has-laws _ _ _ _ _ code _ starts_in) in
        let old = released-along _ _ _ _ _ _ (up _) (down _ many) one.1 in
        let cut : take (symbol + 1) samples ≡ xs ++ drop symbol (take (symbol + 1) samples) =
        sym (ap (λ l. l ++ drop symbol (take (symbol + 1) samples)) (sym (take-take symbol (symbol + 1) samples (omega arith)))
        ∙ take-append-drop symbol (take (symbol + 1) samples)) in
        let p = stays-prefix (trellis_of table points starts) xs (drop symbol (take (symbol + 1) samples)) _ _ old
        (subst (λ k. IsReleased (trellis_of table points starts) k front) cut r) in
        let grown : length front ≡ length one.0 + length p.0 = ap length (sym p.1) ∙ length-append {A = ℕ} one.0 p.0 in
        elim (cases_lt (length one.0 + depth) symbol) [
          | inl over ↦ absurd (lost.first symbol (omega arith) (record { front = one.0; released = old; over = over }))
          | inr few ↦ omega arith
        ]

    -- without a start no list is the longest that is common
    nothing : ((s : ℕ) → s < states → starts s ≡ true → ⊥) → ⊥
    nothing never =
        let many : 1 ≤ length (take (symbol + 1) samples) =
        omega (arith, length-take-le (symbol + 1) samples (omega (arith, lost.within))) in
        let p = r.longest (0 ∷ front) (λ state l v.
        absurd (never v.sequence.code_sequence.from (starts-among _ _ _ _ _ _ _ _ code.bounded many v.sequence)
        v.sequence.code_sequence.starts_there)) in
        let e : length ((0 ∷ front) ++ p.0) ≡ length front = ap length p.1 in
        omega (arith, e, length-append {A = ℕ} (0 ∷ front) p.0)

pub few-unreleased : (table : ℕ → ℕ → Option ℕ) (points : ℕ → Sample) (states labels steps : ℕ) → IsCodeTable table states labels steps
    → FewUnreleased table points
few-unreleased table points states labels steps code starts depth d samples taken h = each d.lost refl
  where
    each : (o : Option ℕ) → d.lost ≡ o → length (heard d.lost samples) ≤ length (taken ++ d.pending) + (depth + 1)
    each None e =
        let all : heard d.lost samples ≡ samples = ap (λ o. heard o samples) e in
        let lost : LostIs (trellis_of table points starts) depth samples None =
        subst (LostIs (trellis_of table points starts) depth samples) e h.lost in
        let r = subst (λ k. IsReleased (trellis_of table points starts) k (taken ++ d.pending)) (all
        ∙ sym (take_all (length samples) samples (omega arith))) h.released in
        elim (cases_lt (length (taken ++ d.pending) + depth) (length samples)) [
          | inl over ↦ absurd (lost (length samples) (omega arith) (record { front = taken ++ d.pending; released = r; over = over }))
          | inr few ↦ omega (arith, ap length all)
        ]
    each (Some symbol) e =
        let all : heard d.lost samples ≡ take (symbol + 1) samples = ap (λ o. heard o samples) e in
        let lost : IsLost (trellis_of table points starts) depth samples symbol =
        subst (LostIs (trellis_of table points starts) depth samples) e h.lost in
        let few = few-lost table points states labels steps depth starts samples symbol (taken ++ d.pending) code lost
        (subst (λ k. IsReleased (trellis_of table points starts) k (taken ++ d.pending)) all h.released) in
        omega (arith, few, ap length all, length-take-le (symbol + 1) samples (omega (arith, lost.within)))

pub releases-least : (table : ℕ → ℕ → Option ℕ) (points : ℕ → Sample) (states labels steps : ℕ) → IsCodeTable table states labels steps
    → DecoderReleasesLeast table points states
releases-least table points states labels steps code starts depth d samples taken are h =
    released-is_least (trellis_of table points starts) _ _ _ (heard d.lost samples) _ (has-laws _ _ _ _ _ code _ are) h.released

pub decoders-agree : (table : ℕ → ℕ → Option ℕ) (points : ℕ → Sample) → DecodersAgree table points
decoders-agree table points starts depth d other samples taken other_taken h k =
    let same : d.lost ≡ other.lost = lost-once (trellis_of table points starts) depth samples d.lost other.lost h.lost k.lost in (
      released-once (trellis_of table points starts) (heard other.lost samples) (taken ++ d.pending) (other_taken ++ other.pending)
          (subst (λ o. IsReleased (trellis_of table points starts) (heard o samples) (taken ++ d.pending)) same h.released) k.released,
      same,
    )

pub releases-stay : (table : ℕ → ℕ → Option ℕ) (points : ℕ → Sample) → DecoderReleasesStay table points
releases-stay table points starts depth d later samples more taken later_taken h k = each d.lost refl later.lost refl
  where
    front : List ℕ
    front = taken ++ d.pending

    with-more : (rest : List Sample) → heard later.lost (samples ++ more) ≡ heard d.lost samples ++ rest
        → IsPrefixOf (taken ++ d.pending) (later_taken ++ later.pending)
    with-more rest e = stays-prefix (trellis_of table points starts) (heard d.lost samples) rest (taken ++ d.pending)
        (later_taken ++ later.pending) h.released
        (subst (λ s. IsReleased (trellis_of table points starts) s (later_taken ++ later.pending)) e k.released)

    nil : (xs : List Sample) → xs ≡ xs ++ []
    nil [] = refl
    nil (x ∷ xs) = ap (λ l. x ∷ l) (nil xs)

    each : (o : Option ℕ) → d.lost ≡ o → (p : Option ℕ) → later.lost ≡ p → IsPrefixOf (taken ++ d.pending) (later_taken ++ later.pending)
    each None e None f = with-more more (ap (λ o. heard o (samples ++ more)) f ∙ ap (λ s. s ++ more) (sym (ap (λ o. heard o samples) e)))
    each None e (Some n) f =
        let lost : IsLost (trellis_of table points starts) depth (samples ++ more) n =
        subst (LostIs (trellis_of table points starts) depth (samples ++ more)) f k.lost in
        let runs : LostIs (trellis_of table points starts) depth samples None =
        subst (LostIs (trellis_of table points starts) depth samples) e h.lost in
        elim (cases_lt n (length samples)) [
          | inl less ↦ absurd (runs (n + 1) (omega arith)
              (over-before (trellis_of table points starts) depth samples more (n + 1) (omega arith) lost.over))
          | inr more_than ↦
              let cut : take (length samples) (take (n + 1) (samples ++ more)) ≡ samples =
              take-take (length samples) (n + 1) (samples ++ more) (omega arith)
              ∙ take-append-le (length samples) samples more (omega arith) ∙ take_all (length samples) samples (omega arith) in
              with-more (drop (length samples) (take (n + 1) (samples ++ more)))
              (ap (λ o. heard o (samples ++ more)) f ∙ sym (take-append-drop (length samples) (take (n + 1) (samples ++ more)))
              ∙ ap (λ s. s ++ drop (length samples) (take (n + 1) (samples ++ more))) (cut ∙ sym (ap (λ o. heard o samples) e)))
        ]
    each (Some m) e p f =
        let lost : IsLost (trellis_of table points starts) depth samples m =
        subst (LostIs (trellis_of table points starts) depth samples) e h.lost in
        let stays : IsLost (trellis_of table points starts) depth (samples ++ more) m =
        lost-stays (trellis_of table points starts) depth samples more m lost in
        let same : later.lost ≡ Some m =
        lost-once (trellis_of table points starts) depth (samples ++ more) later.lost (Some m) k.lost stays in
        with-more [] (ap (λ o. heard o (samples ++ more)) same ∙ take-append-le (m + 1) samples more (omega (arith, lost.within))
        ∙ sym (ap (λ o. heard o samples) e) ∙ nil (heard d.lost samples))
