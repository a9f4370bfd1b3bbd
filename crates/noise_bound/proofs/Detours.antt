-- Each state is reached from the sent labels at a cost of at most 18: the last two labels are others.
use Rattle.noise_bound.proofs.Names.{◌≡◌, ℕ, ◌+◌, ◌*◌, ◌<◌, ◌≤◌, List, [], ◌∷◌, ◌++◌, length, map, arith, length-append, Some, refl, sym}
use Rattle.noise_bound.proofs.Names.{◌∙◌, ap, subst, map-append, y_of, point_of, Leads-split, branch_of, far_from, Leads, cost, next_state}
use Rattle.symbol_map.specs.Labels.{y0_of, IsInSubset}
use Rattle.symbol_map.proofs.MapFacts.{subsets_are_near}
use Rattle.trellis_tables.specs.V32Laws.{v32_reaches}
use Rattle.trellis_tables.proofs.Sequences.{Leads-append}
use Rattle.trellis_tables.proofs.Tables.{next_state_from, y_of-lt}
use Rattle.noise_bound.proofs.NoiselessCosts.{far-swap, length-points, cost-append, cost-own}

-- a label near another, by which a state is left as by a third
pub record Near (s label by to bound : ℕ) : Type 0 where
  pub other : ℕ
  pub leads : next_state s other ≡ Some to
  pub near : far_from other (point_of label) ≤ 4194304 * bound

in-subset : (s by to other : ℕ) → next_state s by ≡ Some to → IsInSubset (y0_of by) (y_of by) other → next_state s other ≡ Some to
in-subset s by to other e h = grind (arith, branch_of, next_state_from)

y0_of-lt : (label : ℕ) → y0_of label < 2
y0_of-lt label = omega arith

near-any : (s label by to : ℕ) → label < 32 → next_state s by ≡ Some to → Near s label by to 10
near-any s label by to in_labels e =
    let n = subsets_are_near label (y0_of by) (y_of by) in_labels (y0_of-lt by) (y_of-lt by) in
    record { other = n.0; leads = in-subset s by to n.0 e n.1; near = omega (arith, far-swap n.0 label n.1.below in_labels, n.2) }

near-own : (s label by to : ℕ) → label < 32 → y0_of label ≡ y0_of by → next_state s by ≡ Some to → Near s label by to 8
near-own s label by to in_labels same e =
    let n = subsets_are_near label (y0_of by) (y_of by) in_labels (y0_of-lt by) (y_of-lt by) in
    record { other = n.0; leads = in-subset s by to n.0 e n.1; near = omega (arith, far-swap n.0 label n.1.below in_labels, n.3 same) }

-- a way of two labels to each state, near the two that were sent
pub record Detour (s x y to : ℕ) : Type 0 where
  pub a : ℕ
  pub b : ℕ
  pub leads : Leads next_state s (a ∷ b ∷ []) to
  pub near : far_from a (point_of x) + far_from b (point_of y) ≤ 75497472

pub detour : (s x y u v to : ℕ) → next_state s x ≡ Some u → next_state u y ≡ Some v → to < 8 → Detour s x y to
detour s x y u v to e f in_states = from-path path.0 path.1 path.2
  where
    path : (path : List ℕ) × (length path ≡ 2) × Leads next_state s path to
    path = v32_reaches s to (branch_of s x u e).in_states in_states

    from-path : (path : List ℕ) → length path ≡ 2 → Leads next_state s path to → Detour s x y to
    from-path [] l p = absurd (omega arith)
    from-path (a ∷ []) l p = absurd (omega arith)
    from-path (a ∷ b ∷ c ∷ path) l p = absurd (omega arith)
    from-path (a ∷ b ∷ []) l (m, i, (n, j, last)) =
        let bx = branch_of s x u e in
        let ba = branch_of s a m i in
        let first = near-own s x a m bx.in_labels (bx.half ∙ sym ba.half) i in
        let second = near-any m y b n (branch_of u y v f).in_labels j in
        record {
          a = first.other;
          b = second.other;
          leads = (m, first.leads, (n, second.leads, last));
          near = omega (arith, first.near, second.near);
        }

-- the last two of at least two
pub record EndsInTwo (labels : List ℕ) : Type 0 where
  pub front : List ℕ
  pub x : ℕ
  pub y : ℕ
  pub joined : labels ≡ front ++ x ∷ y ∷ []

pub ends-in-two : (labels : List ℕ) → 2 ≤ length labels → EndsInTwo labels
ends-in-two [] h = absurd (omega arith)
ends-in-two (x ∷ []) h = absurd (omega arith)
ends-in-two (x ∷ y ∷ []) h = record { front = []; x = x; y = y; joined = refl }
ends-in-two (x ∷ y ∷ z ∷ labels) h =
    let r = ends-in-two (y ∷ z ∷ labels) (omega arith) in
    record { front = x ∷ r.front; x = r.x; y = r.y; joined = ap (λ l. x ∷ l) r.joined }

-- another sequence to each state
pub record Other (start to : ℕ) (labels : List ℕ) : Type 0 where
  pub other : List ℕ
  pub leads : Leads next_state start other to
  pub same_length : length other ≡ length labels
  pub cheap : cost far_from other (map point_of labels) ≤ 75497472

pub other-end : (start end to : ℕ) (labels : List ℕ) → Leads next_state start labels end → 2 ≤ length labels → to < 8
    → Other start to labels
other-end start end to labels l many in_states =
    let two = ends-in-two labels many in
    let split = Leads-split next_state start two.front (two.x ∷ two.y ∷ []) end (subst (λ k. Leads next_state start k end) two.joined l) in
    let d = detour split.0 two.x two.y split.2.0 split.2.2.0 to split.2.1 split.2.2.1 in_states in
    let points : map point_of labels ≡ map point_of two.front ++ (point_of two.x ∷ point_of two.y ∷ []) =
    ap (map point_of) two.joined ∙ map-append point_of two.front (two.x ∷ two.y ∷ []) in
    let price = cost-append two.front (d.a ∷ d.b ∷ []) (map point_of two.front) (point_of two.x ∷ point_of two.y ∷ [])
    (sym (length-points two.front)) in
    let whole : cost far_from (two.front ++ d.a ∷ d.b ∷ []) (map point_of labels) ≡ cost far_from (two.front ++ d.a ∷ d.b ∷ [])
    (map point_of two.front ++ (point_of two.x ∷ point_of two.y ∷ [])) = ap (cost far_from (two.front ++ d.a ∷ d.b ∷ [])) points in
    record {
      other = two.front ++ d.a ∷ d.b ∷ [];
      leads = Leads-append next_state start two.front (d.a ∷ d.b ∷ []) split.0 to split.1 d.leads;
      same_length = omega (
        arith,
        length-append {A = ℕ} two.front (d.a ∷ d.b ∷ []),
        length-append {A = ℕ} two.front (two.x ∷ two.y ∷ []),
        ap length two.joined,
      );
      cheap = omega (arith, whole, price, cost-own two.front, d.near);
    }
