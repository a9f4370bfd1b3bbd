-- Each state that a sequence leads to has a survivor.
use Rattle.exact_decoder.proofs.Names.{◌≡◌, ℕ, zero, suc, ◌+◌, ◌<◌, ◌≤◌, ◌⊎◌, inl, inr, Bool, true, false, List, [], ◌∷◌, ◌++◌, length}
use Rattle.exact_decoder.proofs.Names.{arith, append_assoc, refl, sym, ◌∙◌, ap, subst, Option, Some, None, eq-or-lt_of_le, cases_lt}
use Rattle.exact_decoder.proofs.Names.{cases_eq, append-nil, nil_from_length, length_push, IsSurvivor, Trellis, IsSequence}
use Rattle.exact_decoder.proofs.Names.{HasLaws, Leads-front, Leads, cost}
use Rattle.exact_decoder.proofs.Surviving.Snoc.{snoc_of}
use Rattle.exact_decoder.proofs.Surviving.Bellman.{Candidate, IsChosen, sequence-more, survivor-more}

-- a state has a survivor, or never sequence leads to it
abbrev pub Decided : {X : Type 0} → Trellis X → List X → ℕ → Type 0
Decided c samples state =
    ((labels : List ℕ) × IsSurvivor c samples labels state) ⊎ ((labels : List ℕ) → IsSequence c samples labels state → ⊥)

abbrev price : {X : Type 0} (c : Trellis X) (samples : List X) (sample : X) (to : ℕ) → Candidate c samples to → ℕ
price c samples sample to a = cost c.distance a.labels samples + c.distance a.label sample

enters-once : {X : Type 0} (c : Trellis X) (states labels steps : ℕ) → HasLaws c states labels steps → (s u label to : ℕ)
    → c.next s label ≡ Some to → c.next u label ≡ Some to → s ≡ u
enters-once c states labels steps laws s u label to e f = grind (arith)

-- candidates with one label have one price
one-price : {X : Type 0} (c : Trellis X) (states labels steps : ℕ) (samples : List X) (sample : X) (to : ℕ) → HasLaws c states labels steps
    → (a b : Candidate c samples to) → a.label ≡ b.label
    → cost c.distance a.labels samples + c.distance a.label sample ≡ cost c.distance b.labels samples + c.distance b.label sample
one-price c states labels steps samples sample to laws a b e = grind (arith)

-- the candidate with one label from a state below n
abbrev FoundBelow : {X : Type 0} → Trellis X → List X → ℕ → ℕ → ℕ → Type 0
FoundBelow c samples to label n =
    ((a : Candidate c samples to) × (a.label ≡ label)) ⊎ ((a : Candidate c samples to) → a.label ≡ label → a.before < n → ⊥)

found-below : {X : Type 0} (c : Trellis X) (samples : List X) (to label : ℕ) → ((state : ℕ) → Decided c samples state) → (n : ℕ)
    → FoundBelow c samples to label n
found-below c samples to label decided zero = inr (λ a e l. absurd (omega arith))
found-below {X} c samples to label decided (suc n) = before (found-below c samples to label decided n)
  where
    none : (((a : Candidate c samples to) → a.label ≡ label → a.before < n → ⊥))
        → ((a : Candidate c samples to) → a.label ≡ label → a.before ≡ n → ⊥) → FoundBelow c samples to label (suc n)
    none h k = inr (λ a e l. elim
        (cases_lt a.before n) [ inl less ↦ h a e less | inr more ↦ let same : a.before ≡ n = omega arith in k a e same ])

    branch-at : (a : Candidate c samples to) → a.label ≡ label → a.before ≡ n → c.next n label ≡ Some to
    branch-at a e f = subst (λ s. c.next s label ≡ Some to) f (subst (λ l. c.next a.before l ≡ Some to) e a.branch)

    some-one : (m : ℕ) → Some m ≡ Some to → m ≡ to
    some-one m q = cc

    no-none : None ≡ Some to → ⊥
    no-none q = cc

    state-is : (d : Decided c samples n) → c.next n label ≡ Some to → ((a : Candidate c samples to) → a.label ≡ label → a.before < n → ⊥)
        → FoundBelow c samples to label (suc n)
    state-is (inl s) b h = inl (record { before = n; labels = s.0; label = label; survivor = s.1; branch = b }, refl)
    state-is (inr never) b h = none h (λ a e f. never a.labels (subst (λ s. IsSequence c samples a.labels s) f a.survivor.sequence))

    there : (o : Option ℕ) → c.next n label ≡ o → ((a : Candidate c samples to) → a.label ≡ label → a.before < n → ⊥)
        → FoundBelow c samples to label (suc n)
    there None e h = none h (λ a f g. no-none (sym e ∙ branch-at a f g))
    there (Some m) e h = elim (cases_eq m to) [
      | inl same ↦ state-is (decided n) (e ∙ ap Some same) h
      | inr differ ↦ none h (λ a f g. differ (some-one m (sym e ∙ branch-at a f g)))
    ]

    before : FoundBelow c samples to label n → FoundBelow c samples to label (suc n)
    before (inl a) = inl a
    before (inr h) = there (c.next n label) refl h

-- costs less, or as much and has no greater label
abbrev NoWorse : {X : Type 0} (c : Trellis X) (samples : List X) (sample : X) (to : ℕ) → Candidate c samples to → Candidate c samples to
    → Type 0
NoWorse c samples sample to a b =
    (cost c.distance a.labels samples + c.distance a.label sample < cost c.distance b.labels samples + c.distance b.label sample)
    ⊎ ((cost c.distance a.labels samples + c.distance a.label sample ≡ cost c.distance b.labels samples + c.distance b.label sample)
    × (a.label ≤ b.label))

-- the best candidate with a label below n
abbrev BestBelow : {X : Type 0} → Trellis X → List X → X → ℕ → ℕ → Type 0
BestBelow c samples sample to n =
    ((a : Candidate c samples to) × (a.label < n) × ((b : Candidate c samples to) → b.label < n → NoWorse c samples sample to a b))
    ⊎ ((a : Candidate c samples to) → a.label < n → ⊥)

best-below : {X : Type 0} (c : Trellis X) (states labels steps : ℕ) (samples : List X) (sample : X) (to : ℕ) → HasLaws c states labels steps
    → ((state : ℕ) → Decided c samples state) → (n : ℕ) → BestBelow c samples sample to n
best-below c states labels steps samples sample to laws decided zero = inr (λ a l. absurd (omega arith))
best-below {X} c states labels steps samples sample to laws decided (suc n) =
    next (found-below c samples to n decided states) (best-below c states labels steps samples sample to laws decided n)
  where
    only : (new : Candidate c samples to) → new.label ≡ n → ((a : Candidate c samples to) → a.label < n → ⊥) → (b : Candidate c samples to)
        → b.label < suc n → NoWorse c samples sample to new b
    only new e h b l = elim (cases_lt b.label n) [
      | inl less ↦ absurd (h b less)
      | inr more ↦ inr (one-price c states labels steps samples sample to laws new b (omega (arith, e)), omega (arith, e))
    ]

    cheaper : (new old : Candidate c samples to) → new.label ≡ n
        → ((b : Candidate c samples to) → b.label < n → NoWorse c samples sample to old b)
        → cost c.distance new.labels samples + c.distance new.label sample < cost c.distance old.labels samples + c.distance old.label
        sample
        → (b : Candidate c samples to) → b.label < suc n → NoWorse c samples sample to new b
    cheaper new old e h less b l = elim (cases_lt b.label n) [
      | inl below ↦ elim (h b below) [ inl w ↦ inl (omega arith) | inr w ↦ inl (omega (arith, w.0)) ]
      | inr more ↦ inr (one-price c states labels steps samples sample to laws new b (omega (arith, e)), omega (arith, e))
    ]

    stays : (new old : Candidate c samples to) → new.label ≡ n → old.label < n
        → ((b : Candidate c samples to) → b.label < n → NoWorse c samples sample to old b)
        → cost c.distance old.labels samples + c.distance old.label sample ≤ cost c.distance new.labels samples + c.distance new.label
        sample
        → (b : Candidate c samples to) → b.label < suc n → NoWorse c samples sample to old b
    stays new old e low h most b l = elim (cases_lt b.label n) [
      | inl below ↦ h b below
      | inr more ↦
          let p = one-price c states labels steps samples sample to laws new b (omega (arith, e)) in
          elim (cases_lt (cost c.distance old.labels samples + c.distance old.label sample)
          (cost c.distance b.labels samples + c.distance b.label sample)) [
            | inl less ↦ inl less
            | inr same ↦ inr (omega (arith, p), omega arith)
          ]
    ]

    next : FoundBelow c samples to n states → BestBelow c samples sample to n → BestBelow c samples sample to (suc n)
    next (inr none) (inl (a, low, best)) =
        inl (
          a,
          omega arith,
          λ b l. elim
              (cases_lt b.label n) [
                | inl less ↦ best b less
                | inr more ↦ let e : b.label ≡ n = omega arith in
                    absurd (none b e (laws.bounded b.before b.label to b.branch).0)
              ],
        )
    next (inr none) (inr nothing) =
        inr (λ b l. elim (cases_lt b.label n) [
          | inl less ↦ nothing b less
          | inr more ↦ let e : b.label ≡ n = omega arith in
              none b e (laws.bounded b.before b.label to b.branch).0
        ])
    next (inl (new, e)) (inr nothing) = inl (new, omega arith, only new e nothing)
    next (inl (new, e)) (inl (a, low, best)) =
        elim (cases_lt (cost c.distance new.labels samples + c.distance new.label sample)
        (cost c.distance a.labels samples + c.distance a.label sample)) [
          | inl less ↦ inl (new, omega arith, cheaper new a e best less)
          | inr most ↦ inl (a, omega arith, stays new a e low best most)
        ]

-- one sample more
decided-more : {X : Type 0} (c : Trellis X) (states labels steps : ℕ) (samples : List X) (sample : X) → HasLaws c states labels steps
    → ((state : ℕ) → Decided c samples state) → (to : ℕ) → Decided c (samples ++ sample ∷ []) to
decided-more {X} c states labels steps samples sample laws decided to =
    with-best (best-below c states labels steps samples sample to laws decided labels)
  where
    kept : (d : (state : ℕ) → Decided c samples state) (state : ℕ) (l : List ℕ) → IsSequence c samples l state
        → (k : List ℕ) × IsSurvivor c samples k state
    kept d state l q = elim (d state) [ inl s ↦ s | inr never ↦ absurd (never l q) ]

    chosen : (a : Candidate c samples to) → ((b : Candidate c samples to) → b.label < labels → NoWorse c samples sample to a b)
        → IsChosen c samples sample to a
    chosen a best = record {
      best = λ b. elim (best b (laws.bounded b.before b.label to b.branch).1) [
        | inl less ↦ inr (inl less)
        | inr (equal, most) ↦ elim (eq-or-lt_of_le most) [ inl one ↦ inl one | inr first ↦ inr (inr (equal, first)) ]
      ];
    }

    none : ((a : Candidate c samples to) → a.label < labels → ⊥) → (l : List ℕ) → IsSequence c (samples ++ sample ∷ []) l to → ⊥
    none nothing l q =
        let cut = snoc_of l (length samples) (q.same_length ∙ length_push samples sample) in
        let here = subst (λ l. IsSequence c (samples ++ sample ∷ []) l to) cut.2 q in
        let parts = Leads-front c.next here.code_sequence.from cut.0 cut.1 to here.code_sequence.leads in
        let n : length cut.0 ≡ length samples = omega (arith, here.same_length, length_push cut.0 cut.1, length_push samples sample) in
        let front : IsSequence c samples cut.0 parts.0 = grind (arith) in
        let k = kept decided parts.0 cut.0 front in
        nothing (record { before = parts.0; labels = k.0; label = cut.1; survivor = k.1; branch = parts.2 })
        (laws.bounded parts.0 cut.1 to parts.2).1

    with-best : BestBelow c samples sample to labels → Decided c (samples ++ sample ∷ []) to
    with-best (inl (a, low, best)) = inl (
      a.labels ++ a.label ∷ [],
      survivor-more c samples sample to a (λ s u label e f. enters-once c states labels steps laws s u label to e f)
          (λ state l q. kept decided state l q) (chosen a best),
    )
    with-best (inr nothing) = inr (none nothing)

decided-from : {X : Type 0} (c : Trellis X) (states labels steps : ℕ) (samples more : List X) → HasLaws c states labels steps
    → ((state : ℕ) → Decided c samples state) → (state : ℕ) → Decided c (samples ++ more) state
decided-from c states labels steps samples [] laws decided state = subst (λ l. Decided c l state) (sym (append-nil samples)) (decided state)
decided-from c states labels steps samples (x ∷ more) laws decided state =
    subst (λ l. Decided c l state) (append_assoc samples (x ∷ []) more)
    (decided-from c states labels steps (samples ++ x ∷ []) more laws (λ s. decided-more c _ _ _ samples x laws decided _) state)

-- before the first sample
decided-start : {X : Type 0} (c : Trellis X) (state : ℕ) → Decided c [] state
decided-start {X} c state = each (c.starts state) refl
  where
    no-start : c.starts state ≡ false → (labels : List ℕ) → IsSequence c [] labels state → ⊥
    no-start e labels q =
        let l = subst (λ k. IsSequence c [] k state) (nil_from_length labels q.same_length) q in grind (arith)

    each : (b : Bool) → c.starts state ≡ b → Decided c [] state
    each true e = inl (
      [],
      record {
        sequence = record { code_sequence = record { from = state; starts_there = e; leads = refl }; same_length = refl };
        best = λ other o. inl (nil_from_length other o.same_length);
      },
    )
    each false e = inr (no-start e)

pub decided : {X : Type 0} (c : Trellis X) (states labels steps : ℕ) (samples : List X) → HasLaws c states labels steps → (state : ℕ)
    → Decided c samples state
decided c states labels steps samples laws state = decided-from c states labels steps [] samples laws (λ s. decided-start c s) state

pub reached-survives : {X : Type 0} (c : Trellis X) (states labels steps : ℕ) (samples : List X) (sequence : List ℕ) (end : ℕ)
    → HasLaws c states labels steps → IsSequence c samples sequence end → (survivor : List ℕ) × IsSurvivor c samples survivor end
reached-survives c states labels steps samples sequence end laws q =
    elim (decided c states labels steps samples laws end) [ inl s ↦ s | inr never ↦ absurd (never sequence q) ]

-- a sequence ends in a state of the code
leads-within : (next : ℕ → ℕ → Option ℕ) (states labels : ℕ) → ((s label to : ℕ) → s < states → next s label ≡ Some to → to < states)
    → (from : ℕ) (path : List ℕ) (to : ℕ) → from < states → Leads next from path to → to < states
leads-within next states labels within from [] to low e = subst (λ s. s < states) e low
leads-within next states labels within from (label ∷ path) to low (mid, e, rest) =
    leads-within next states labels within mid path to (within from label mid low e) rest

pub ends-within : {X : Type 0} (c : Trellis X) (states labels steps : ℕ) (samples : List X) (sequence : List ℕ) (end : ℕ)
    → HasLaws c states labels steps → IsSequence c samples sequence end → end < states
ends-within c states labels steps samples sequence end laws q = leads-within c.next states labels
    (λ s label to low e. let b = laws.bounded s label to e in laws.within s label to low b.1 e)
    q.code_sequence.from sequence end (laws.starts_within q.code_sequence.from q.code_sequence.starts_there) q.code_sequence.leads

-- sequences never end
goes-on : {X : Type 0} (c : Trellis X) (states labels steps : ℕ) → HasLaws c states labels steps → (state : ℕ) → state < states
    → (label : ℕ) × (to : ℕ) × (c.next state label ≡ Some to)
goes-on c states labels steps laws state low = let path = laws.reaches state state low low in first path.0 path.1 path.2
  where
    first : (path : List ℕ) → length path ≡ steps → Leads c.next state path state → (label : ℕ) × (to : ℕ) × (c.next state label ≡ Some to)
    first [] e l = absurd (omega (arith, laws.some_steps))
    first (label ∷ rest) e (mid, b, l) = (label, mid, b)

some-from : {X : Type 0} (c : Trellis X) (states labels steps : ℕ) (samples more : List X) → HasLaws c states labels steps
    → ((sequence : List ℕ) × (end : ℕ) × IsSequence c samples sequence end)
    → (sequence : List ℕ) × (end : ℕ) × IsSequence c (samples ++ more) sequence end
some-from c states labels steps samples [] laws (l, s, q) = (l, s, subst (λ k. IsSequence c k l s) (sym (append-nil samples)) q)
some-from c states labels steps samples (x ∷ more) laws (l, s, q) =
    let b = goes-on c _ _ _ laws _ (ends-within c _ _ _ samples _ _ laws q) in
    let r = some-from c states labels steps (samples ++ x ∷ []) more laws (l ++ b.0 ∷ [], b.1, sequence-more c samples x _ _ _ _ q b.2) in
    (r.0, r.1, subst (λ k. IsSequence c k r.0 r.1) (append_assoc samples (x ∷ []) more) r.2)

pub some-survives : {X : Type 0} (c : Trellis X) (states labels steps : ℕ) (samples : List X) → HasLaws c states labels steps
    → (survivor : List ℕ) × (end : ℕ) × IsSurvivor c samples survivor end
some-survives c states labels steps samples laws =
    let start : IsSequence c [] [] laws.start =
    record { code_sequence = record { from = laws.start; starts_there = laws.starts_there; leads = refl }; same_length = refl } in
    let q = some-from c states labels steps [] samples laws ([], laws.start, start) in
    let s = reached-survives c states labels steps samples q.0 q.1 laws q.2 in
    (s.0, q.1, s.1)
