-- The front of a survivor survives, and the best branch from the survivors before makes the survivor.
use Rattle.exact_decoder.proofs.Names.{◌≡◌, ℕ, ◌+◌, ◌<◌, ◌≤◌, ◌⊎◌, inl, inr, List, [], ◌∷◌, ◌++◌, length, arith, refl, sym, ◌∙◌, ap, subst}
use Rattle.exact_decoder.proofs.Names.{Some, cases_lt, append_cancel_right, length_push, Beats, IsSurvivor, Trellis, IsSequence}
use Rattle.exact_decoder.proofs.Names.{Leads-front, cost-snoc, cost}
use Rattle.trellis_tables.proofs.Sequences.{Leads-snoc}
use Rattle.exact_decoder.proofs.Surviving.Snoc.{Less-last, Less-front, Less-of_front, snoc_of}

pub sequence-more : {X : Type 0} (c : Trellis X) (samples : List X) (sample : X) (labels : List ℕ) (mid label to : ℕ)
    → IsSequence c samples labels mid → c.next mid label ≡ Some to → IsSequence c (samples ++ sample ∷ []) (labels ++ label ∷ []) to
sequence-more c samples sample labels mid label to h e = record {
  code_sequence = record {
    from = h.code_sequence.from;
    starts_there = h.code_sequence.starts_there;
    leads = Leads-snoc c.next h.code_sequence.from labels mid label to h.code_sequence.leads e;
  };
  same_length = length_push labels label ∙ ap (λ n. n + 1) h.same_length ∙ sym (length_push samples sample);
}

-- the front of a survivor is the survivor of the state before
pub survivor-front : {X : Type 0} (c : Trellis X) (samples : List X) (sample : X) (labels : List ℕ) (label mid to : ℕ)
    → IsSequence c samples labels mid → c.next mid label ≡ Some to → IsSurvivor c (samples ++ sample ∷ []) (labels ++ label ∷ []) to
    → IsSurvivor c samples labels mid
survivor-front c samples sample labels label mid to h e s = record {
  sequence = h;
  best = λ other o. decided other o (s.best (other ++ label ∷ []) (sequence-more c samples sample other mid label to o e));
}
  where
    decided : (other : List ℕ) → IsSequence c samples other mid
        → ((other ++ label ∷ [] ≡ labels ++ label ∷ [])
        ⊎ Beats c.distance (samples ++ sample ∷ []) (labels ++ label ∷ []) (other ++ label ∷ []))
        → (other ≡ labels) ⊎ Beats c.distance samples labels other
    decided other o (inl same) = inl (append_cancel_right other labels (label ∷ []) same)
    decided other o (inr (inl less)) = grind (arith, cost-snoc, labels, label)
    decided other o (inr (inr (equal, less))) = grind (arith, cost-snoc, labels, label, Less-of_front)

-- a survivor's last label, and the survivor before it
pub record Cut {X : Type 0} (c : Trellis X) (samples : List X) (labels : List ℕ) : Type 0 where
  pub front : List ℕ
  pub label : ℕ
  pub mid : ℕ
  pub joined : labels ≡ front ++ label ∷ []
  pub survivor : IsSurvivor c samples front mid

pub survivor-cut : {X : Type 0} (c : Trellis X) (samples : List X) (sample : X) (state : ℕ) (labels : List ℕ)
    → IsSurvivor c (samples ++ sample ∷ []) labels state → Cut c samples labels
survivor-cut c samples sample state labels s =
    let cut = snoc_of labels (length samples) (s.sequence.same_length ∙ length_push samples sample) in
    let here = subst (λ l. IsSurvivor c (samples ++ sample ∷ []) l state) cut.2 s in
    let parts = Leads-front c.next here.sequence.code_sequence.from cut.0 cut.1 state here.sequence.code_sequence.leads in
    let n : length cut.0 ≡ length samples = omega (arith, here.sequence.same_length, length_push cut.0 cut.1, length_push samples sample) in
    let h : IsSequence c samples cut.0 parts.0 =
    record {
      code_sequence =
          record { from = here.sequence.code_sequence.from; starts_there = here.sequence.code_sequence.starts_there; leads = parts.1 };
      same_length = n;
    } in
    record {
      front = cut.0;
      label = cut.1;
      mid = parts.0;
      joined = cut.2;
      survivor = survivor-front c samples sample cut.0 cut.1 parts.0 state h parts.2 here;
    }

-- a branch into a state, with the survivor of the state before it
pub record Candidate {X : Type 0} (c : Trellis X) (samples : List X) (to : ℕ) : Type 0 where
  pub before : ℕ
  pub labels : List ℕ
  pub label : ℕ
  pub survivor : IsSurvivor c samples labels before
  pub branch : c.next before label ≡ Some to

-- a candidate that beats each other one, by the sum and then by the label
pub record IsChosen {X : Type 0} (c : Trellis X) (samples : List X) (sample : X) (to : ℕ) (a : Candidate c samples to) : Type 0 where
  pub best : (b : Candidate c samples to) → (a.label ≡ b.label)
      ⊎ (cost c.distance a.labels samples + c.distance a.label sample < cost c.distance b.labels samples + c.distance b.label sample)
      ⊎ ((cost c.distance a.labels samples + c.distance a.label sample ≡ cost c.distance b.labels samples + c.distance b.label sample)
      × (a.label < b.label))

-- a survivor costs no more than another sequence to its state
pub least_cost : {X : Type 0} (c : Trellis X) (samples : List X) (p q : List ℕ) → (q ≡ p) ⊎ Beats c.distance samples p q
    → cost c.distance p samples ≤ cost c.distance q samples
least_cost c samples p q given = grind (arith)

-- another sequence is the chosen one, or is beaten by it
abbrev Decided : {X : Type 0} → Trellis X → List X → List ℕ → List ℕ → Type 0
Decided c samples labels other = (other ≡ labels) ⊎ Beats c.distance samples labels other

-- the chosen candidate goes on as a survivor
pub survivor-more : {X : Type 0} (c : Trellis X) (samples : List X) (sample : X) (to : ℕ) (a : Candidate c samples to)
    → ((s t label : ℕ) → c.next s label ≡ Some to → c.next t label ≡ Some to → s ≡ t)
    → ((state : ℕ) (labels : List ℕ) → IsSequence c samples labels state → (kept : List ℕ) × IsSurvivor c samples kept state)
    → IsChosen c samples sample to a → IsSurvivor c (samples ++ sample ∷ []) (a.labels ++ a.label ∷ []) to
survivor-more {X} c samples sample to a once kept chosen = assumption (
  sequence-more c samples sample a.labels a.before a.label to a.survivor.sequence a.branch,
  against,
)
  where
    cost_a : cost c.distance (a.labels ++ a.label ∷ [])
        (samples ++ sample ∷ []) ≡ cost c.distance a.labels samples + c.distance a.label sample
    cost_a = cost-snoc c.distance a.labels samples a.label sample a.survivor.sequence.same_length

    same_label : (q : List ℕ) (l : ℕ) → length q ≡ length samples → a.label ≡ l → (q ≡ a.labels) ⊎ Beats c.distance samples a.labels q
        → Decided c (samples ++ sample ∷ []) (a.labels ++ a.label ∷ []) (q ++ l ∷ [])
    same_label q l n e (inl same) = inl (rw (same, e) refl)
    same_label q l n e (inr (inl less)) = grind (arith, cost_a, cost-snoc)
    same_label q l n e (inr (inr (equal, less))) = let d : c.distance a.label sample ≡ c.distance l sample = grind (arith) in
        inr (inr (omega (arith, cost_a, cost-snoc c.distance q samples l sample n), rw e (Less-front a.labels q l less)))

    cheaper : (p q : List ℕ) (l : ℕ) → length q ≡ length samples
        → cost c.distance a.labels samples + c.distance a.label sample < cost c.distance p samples + c.distance l sample
        → cost c.distance p samples ≤ cost c.distance q samples
        → Decided c (samples ++ sample ∷ []) (a.labels ++ a.label ∷ []) (q ++ l ∷ [])
    cheaper p q l n less most = inr (inl (omega (arith, cost_a, cost-snoc c.distance q samples l sample n)))

    tied : (p q : List ℕ) (l : ℕ) → length q ≡ length samples
        → cost c.distance a.labels samples + c.distance a.label sample ≡ cost c.distance p samples + c.distance l sample → a.label < l
        → cost c.distance p samples ≤ cost c.distance q samples
        → Decided c (samples ++ sample ∷ []) (a.labels ++ a.label ∷ []) (q ++ l ∷ [])
    tied p q l n equal less most = elim (cases_lt (cost c.distance p samples) (cost c.distance q samples)) [
      | inl more ↦ inr (inl (omega (arith, cost_a, cost-snoc c.distance q samples l sample n)))
      | inr no_more ↦ inr (inr (
        omega (arith, cost_a, cost-snoc c.distance q samples l sample n),
        Less-last a.labels q a.label l (a.survivor.sequence.same_length ∙ sym n) less,
      ))
    ]

    against : (other : List ℕ) → IsSequence c (samples ++ sample ∷ []) other to
        → Decided c (samples ++ sample ∷ []) (a.labels ++ a.label ∷ []) other
    against other o =
        let cut = snoc_of other (length samples) (o.same_length ∙ length_push samples sample) in
        let here = subst (λ l. IsSequence c (samples ++ sample ∷ []) l to) cut.2 o in
        let parts = Leads-front c.next here.code_sequence.from cut.0 cut.1 to here.code_sequence.leads in
        let n : length cut.0 ≡ length samples = omega (arith, here.same_length, length_push cut.0 cut.1, length_push samples sample) in
        let q : IsSequence c samples cut.0 parts.0 =
        record {
          code_sequence = record { from = here.code_sequence.from; starts_there = here.code_sequence.starts_there; leads = parts.1 };
          same_length = n;
        } in
        let p = kept parts.0 cut.0 q in
        let most = least_cost c samples p.0 cut.0 (p.1.best cut.0 q) in
        let b : Candidate c samples to = record { before = parts.0; labels = p.0; label = cut.1; survivor = p.1; branch = parts.2 } in
        subst (Decided c (samples ++ sample ∷ []) (a.labels ++ a.label ∷ [])) (sym cut.2) (elim (chosen.best b) [
          | inl e ↦
              let same : parts.0 ≡ a.before = once parts.0 a.before cut.1 parts.2 (subst (λ l. c.next a.before l ≡ Some to) e a.branch) in
              same_label cut.0 cut.1 n e (a.survivor.best cut.0 (subst (λ s. IsSequence c samples cut.0 s) same q))
          | inr (inl less) ↦ cheaper p.0 cut.0 cut.1 n less most
          | inr (inr (equal, less)) ↦ tied p.0 cut.0 cut.1 n equal less most
        ])
