-- The sums and paths of all states, sample by sample.
use Rattle.exact_decoder.proofs.Names.{◌≡◌, ℕ, ◌+◌, ◌<◌, ◌≤◌, ◌⊎◌, inl, inr, Bool, true, false, if◌then◌else◌, List, [], ◌∷◌, ◌++◌, length}
use Rattle.exact_decoder.proofs.Names.{arith, refl, sym, ◌∙◌, ap, subst, Option, Some, None, eq-or-lt_of_le, nil_from_length, length_push}
use Rattle.exact_decoder.proofs.Names.{Branch, KnowsState, Keeps, GoesOn, Enters, Chooses, IsSurvivor, Trellis, IsSequence, Leads-front}
use Rattle.exact_decoder.proofs.Names.{cost-snoc, cost}
use Rattle.exact_decoder.proofs.Surviving.Snoc.{snoc_of}
use Rattle.exact_decoder.proofs.Surviving.Release.{survivor-one}
use Rattle.exact_decoder.proofs.Surviving.Bellman.{Candidate, survivor-more}

-- a sequence's state has a survivor
pub kept : {X : Type 0} (c : Trellis X) (samples : List X) (base : ℕ) (paths : ℕ → List ℕ) (state : ℕ) (labels : List ℕ) (sum : Option ℕ)
    → IsSequence c samples labels state → KnowsState c samples base paths state sum
    → (n : ℕ) × (sum ≡ Some n) × KnowsState c samples base paths state (Some n)
kept c samples base paths state labels sum q k = grind (arith)

pub known : {X : Type 0} (c : Trellis X) (samples : List X) (base : ℕ) (sums : ℕ → Option ℕ) (paths : ℕ → List ℕ) (state n : ℕ)
    → Keeps c samples base sums paths → sums state ≡ Some n → KnowsState c samples base paths state (Some n)
known c samples base sums paths state n k e = subst (KnowsState c samples base paths state) e (k.knows state)

-- one more sample
pub Keeps-more : {X : Type 0} (c : Trellis X) (samples : List X) (sample : X) (base : ℕ) (sums next_sums : ℕ → Option ℕ)
    (paths next_paths : ℕ → List ℕ) (column : ℕ → Option Branch)
    → ((s t label to : ℕ) → c.next s label ≡ Some to → c.next t label ≡ Some to → s ≡ t)
    → Keeps c samples base sums paths → ((to : ℕ) → Chooses c sample sums to (column to) (next_sums to)) → GoesOn paths column next_paths
    → Keeps c (samples ++ sample ∷ []) base next_sums next_paths
Keeps-more {X} c samples sample base sums next_sums paths next_paths column once k chosen on =
    record { knows = λ to. each to (column to) (next_sums to) refl (chosen to) }
  where
    against : {to : ℕ} (a : Candidate c samples to) (sum : ℕ) (d : Candidate c samples to)
        → cost c.distance a.labels samples + c.distance a.label sample ≡ base + sum
        → ((e : Branch) (n : ℕ) → Enters c sample sums to e n → (sum < n) ⊎ ((sum ≡ n) × (a.label ≤ e.label)))
        → (a.label ≡ d.label)
        ⊎ (cost c.distance a.labels samples + c.distance a.label sample < cost c.distance d.labels samples + c.distance d.label sample)
        ⊎ ((cost c.distance a.labels samples + c.distance a.label sample ≡ cost c.distance d.labels samples + c.distance d.label sample)
        × (a.label < d.label))
    against {to} a sum d is best =
        let t = kept c samples base paths d.before d.labels (sums d.before) d.survivor.sequence (k.knows d.before) in
        let same : d.labels ≡ paths d.before = survivor-one c samples d.labels (paths d.before) d.before d.survivor t.2.0 in
        let price : cost c.distance d.labels samples ≡ base + t.0 = ap (λ l. cost c.distance l samples) same ∙ t.2.1 in
        elim (best (record { before = d.before; label = d.label }) (t.0 + c.distance d.label sample)
        (record { leads = d.branch; known = t.0; reached = t.1; sum_is = refl })) [
          | inl less ↦ inr (inl (omega arith))
          | inr tied ↦ elim (eq-or-lt_of_le tied.1) [ inl one ↦ inl one | inr first ↦ inr (inr (omega (arith, tied.0), first)) ]
        ]

    each : (to : ℕ) (b : Option Branch) (sum : Option ℕ) → column to ≡ b → Chooses c sample sums to b sum
        → KnowsState c (samples ++ sample ∷ []) base next_paths to sum
    each to None None e none = λ labels q.
        let cut = snoc_of _ _ (q.same_length ∙ length_push samples sample) in
        let here = subst (λ l. IsSequence c (samples ++ sample ∷ []) l to) cut.2 q in
        let parts = Leads-front _ _ _ _ _ here.code_sequence.leads in
        let n : length cut.0 ≡ length samples = omega (arith, here.same_length, length_push cut.0 cut.1, length_push samples sample) in
        let front : IsSequence c samples cut.0 parts.0 =
        record {
          code_sequence = record { from = here.code_sequence.from; starts_there = here.code_sequence.starts_there; leads = parts.1 };
          same_length = n;
        } in
        let s = kept c samples _ paths _ _ _ front (k.knows parts.0) in
        none _ _ (record { leads = parts.2; known = s.0; reached = s.1; sum_is = refl })
    each to None (Some sum) e h = absurd h
    each to (Some b) None e h = absurd h
    each to (Some b) (Some sum) e h =
        let s = known c samples base sums paths b.before h.0.known k h.0.reached in
        let a : Candidate c samples to =
        record { before = b.before; labels = paths b.before; label = b.label; survivor = s.0; branch = h.0.leads } in
        let path = on to b e in
        let goes = survivor-more c samples sample to a (λ u v label l m. once u v label to l m)
        (λ state labels q. let t = kept c samples base paths state labels (sums state) q (k.knows state) in (paths state, t.2.0))
        (record { best = λ d. against a sum d (omega (arith, s.1, h.0.sum_is)) h.1 }) in
        let price = cost-snoc c.distance (paths b.before) samples b.label sample s.0.sequence.same_length in (
          subst (λ l. IsSurvivor c (samples ++ sample ∷ []) l to) (sym path) goes,
          ap (λ l. cost c.distance l (samples ++ sample ∷ [])) path ∙ price ∙ omega (arith, s.1, h.0.sum_is),
        )

-- before the first sample
pub Keeps-start : {X : Type 0} (c : Trellis X) (sums : ℕ → Option ℕ) (paths : ℕ → List ℕ) → ((s : ℕ) → paths s ≡ [])
    → ((s : ℕ) → sums s ≡ (if c.starts s then Some 0 else None)) → Keeps c [] 0 sums paths
Keeps-start {X} c sums paths empty starts =
    record { knows = λ s. subst (KnowsState c [] 0 paths s) (sym (starts s)) (each s (c.starts s) refl) }
  where
    none : (labels : List ℕ) (s : ℕ) → c.starts s ≡ false → labels ≡ [] → IsSequence c [] labels s → ⊥
    none labels s e n q = grind (arith)

    each : (s : ℕ) (b : Bool) → c.starts s ≡ b → KnowsState c [] 0 paths s (if b then Some 0 else None)
    each s true e = (
      record {
        sequence = grind (arith);
        best = λ other o. inl (nil_from_length other o.same_length ∙ sym (empty s));
      },
      ap (λ l. cost c.distance l []) (empty s),
    )
    each s false e = λ labels q. none labels s e (nil_from_length labels q.same_length) q
