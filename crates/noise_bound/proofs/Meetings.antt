-- Two sequences of one length part for good behind the last state that they share. What the parted symbols cost grows.
use Rattle.noise_bound.proofs.Names.{◌≡◌, ℕ, zero, suc, ◌+◌, ◌*◌, ◌<◌, ◌≤◌, ◌⊎◌, inl, inr, List, [], ◌∷◌, ◌++◌, length, map, arith, Some}
use Rattle.noise_bound.proofs.Names.{refl, sym, ap, subst, cases_eq, point_of, leaves_apart, branch_of, far_from, Leads, cost, next_state}
use Rattle.trellis_tables.proofs.Branches.{differs_within_three}
use Rattle.noise_bound.proofs.NoiselessCosts.{far-is}

-- the two are in different states throughout
abbrev pub Parted : ℕ → List ℕ → ℕ → List ℕ → Type 0
Parted s [] t [] = s ≡ t → ⊥
Parted s [] t (d ∷ c) = ⊥
Parted s (a ∷ q) t [] = ⊥
Parted s (a ∷ q) t (d ∷ c) = (s ≡ t → ⊥) × (u : ℕ) × (v : ℕ) × (next_state s a ≡ Some u) × (next_state t d ≡ Some v) × Parted u q v c

-- behind a shared state: nothing more, or different states throughout
abbrev pub Behind : ℕ → List ℕ → List ℕ → Type 0
Behind mid [] [] = Unit {0}
Behind mid [] (d ∷ c) = ⊥
Behind mid (a ∷ q) [] = ⊥
Behind mid (a ∷ q) (d ∷ c) = (u : ℕ) × (v : ℕ) × (next_state mid a ≡ Some u) × (next_state mid d ≡ Some v) × Parted u q v c

-- the last state that both share
pub record Meeting (s : ℕ) (q : List ℕ) (t : ℕ) (c : List ℕ) : Type 0 where
  pub front : List ℕ
  pub own_front : List ℕ
  pub rest : List ℕ
  pub own_rest : List ℕ
  pub joined : q ≡ front ++ rest
  pub own_joined : c ≡ own_front ++ own_rest
  pub same_length : length front ≡ length own_front
  pub mid : ℕ
  pub leads : Leads next_state s front mid
  pub own_leads : Leads next_state t own_front mid
  pub behind : Behind mid rest own_rest

pub parted-now : (s t : ℕ) (q c : List ℕ) → Parted s q t c → s ≡ t → ⊥
parted-now s t [] [] p = p
parted-now s t [] (d ∷ c) p = absurd p
parted-now s t (a ∷ q) [] p = absurd p
parted-now s t (a ∷ q) (d ∷ c) p = p.0

pub meets : (s t u v : ℕ) (q c : List ℕ) → Leads next_state s q u → Leads next_state t c v → length q ≡ length c
    → Parted s q t c ⊎ Meeting s q t c
meets s t u v [] [] p o h = elim (cases_eq s t) [
  | inr differ ↦ inl differ
  | inl same ↦ inr (record {
    front = [];
    own_front = [];
    rest = [];
    own_rest = [];
    joined = refl;
    own_joined = refl;
    same_length = refl;
    mid = s;
    leads = refl;
    own_leads = sym same;
    behind = tt;
  })
]
meets s t u v [] (d ∷ c) p o h = absurd (omega arith)
meets s t u v (a ∷ q) [] p o h = absurd (omega arith)
meets s t u v (a ∷ q) (d ∷ c) (m, i, p) (n, j, o) h =
    let same : length q ≡ length c = omega arith in
    step (meets m n u v q c p o same)
  where
    now : Parted m q n c → Parted s (a ∷ q) t (d ∷ c) ⊎ Meeting s (a ∷ q) t (d ∷ c)
    now later = elim (cases_eq s t) [
      | inr differ ↦ inl (differ, m, n, i, j, later)
      | inl same ↦ inr (record {
        front = [];
        own_front = [];
        rest = a ∷ q;
        own_rest = d ∷ c;
        joined = refl;
        own_joined = refl;
        same_length = refl;
        mid = s;
        leads = refl;
        own_leads = sym same;
        behind = (m, n, i, subst (λ x. next_state x d ≡ Some n) (sym same) j, later);
      })
    ]

    step : Parted m q n c ⊎ Meeting m q n c → Parted s (a ∷ q) t (d ∷ c) ⊎ Meeting s (a ∷ q) t (d ∷ c)
    step (inl later) = now later
    step (inr k) = inr (record {
      front = a ∷ k.front;
      own_front = d ∷ k.own_front;
      rest = k.rest;
      own_rest = k.own_rest;
      joined = ap (λ l. a ∷ l) k.joined;
      own_joined = ap (λ l. d ∷ l) k.own_joined;
      same_length = omega (arith, k.same_length);
      mid = k.mid;
      leads = (m, i, k.leads);
      own_leads = (n, j, k.own_leads);
      behind = k.behind;
    })

-- three parted symbols cost at least 2
three-cost : (s t a b e d f g : ℕ) (s1 s2 s3 t1 t2 t3 : ℕ) → (s ≡ t → ⊥) → next_state s a ≡ Some s1 → next_state s1 b ≡ Some s2
    → next_state s2 e ≡ Some s3 → next_state t d ≡ Some t1 → next_state t1 f ≡ Some t2 → next_state t2 g ≡ Some t3
    → 8388608 ≤ far_from a (point_of d) + far_from b (point_of f) + far_from e (point_of g)
three-cost s t a b e d f g s1 s2 s3 t1 t2 t3 differ e1 e2 e3 f1 f2 f3 =
    let one = far-is a d (branch_of s a s1 e1).in_labels (branch_of t d t1 f1).in_labels in
    let two = far-is b f (branch_of s1 b s2 e2).in_labels (branch_of t1 f t2 f2).in_labels in
    let three = far-is e g (branch_of s2 e s3 e3).in_labels (branch_of t2 g t3 f3).in_labels in
    elim (differs_within_three s t a b e d f g s3 t3 differ (s1, e1, (s2, e2, (s3, e3, refl))) (t1, f1, (t2, f2, (t3, f3, refl)))) [
      | inl h ↦ omega (arith, one, h)
      | inr (inl h) ↦ omega (arith, two, h)
      | inr (inr h) ↦ omega (arith, three, h)
    ]

-- so do each three in succession
pub parted-cost : (k s t : ℕ) (q c : List ℕ) → Parted s q t c → 3 * k ≤ length q → 8388608 * k ≤ cost far_from q (map point_of c)
parted-cost zero s t q c p h = omega arith
parted-cost (suc k) s t (a ∷ b ∷ e ∷ q) (d ∷ f ∷ g ∷ c) (differ, s1, t1, e1, f1, (_, s2, t2, e2, f2, (_, s3, t3, e3, f3, p))) h =
    let more : 3 * k ≤ length q = omega arith in
    omega (arith, three-cost s t a b e d f g s1 s2 s3 t1 t2 t3 differ e1 e2 e3 f1 f2 f3, parted-cost k s3 t3 q c p more)
parted-cost (suc k) s t [] c p h = absurd (omega arith)
parted-cost (suc k) s t (a ∷ []) c p h = absurd (omega arith)
parted-cost (suc k) s t (a ∷ b ∷ []) c p h = absurd (omega arith)
parted-cost (suc k) s t (a ∷ b ∷ e ∷ q) [] p h = absurd p
parted-cost (suc k) s t (a ∷ b ∷ e ∷ q) (d ∷ []) p h = absurd p.5
parted-cost (suc k) s t (a ∷ b ∷ e ∷ q) (d ∷ f ∷ []) p h = absurd p.5.5

-- one symbol behind a shared state and so many times three more cost at least 4 and so many times 2
pub behind-cost : (k mid : ℕ) (q c : List ℕ) → Behind mid q c → 3 * k < length q → 16777216 + 8388608 * k ≤ cost far_from q (map point_of c)
behind-cost k mid [] c b h = absurd (omega arith)
behind-cost k mid (a ∷ q) [] b h = absurd b
behind-cost k mid (a ∷ q) (d ∷ c) (u, v, e, f, p) h =
    let first = leaves_apart mid a d u v e f (parted-now u v q c p) in
    let many : 3 * k ≤ length q = omega arith in
    omega (arith, first.far, far-is a d (branch_of mid a u e).in_labels (branch_of mid d v f).in_labels, parted-cost k u v q c p many)
