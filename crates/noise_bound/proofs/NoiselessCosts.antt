-- What labels cost against the points of others, in units of 2048 squared.
use Rattle.noise_bound.proofs.Names.{◌≡◌, ℕ, ◌+◌, ◌*◌, ◌<◌, List, [], ◌∷◌, ◌++◌, length, map, arith, refl, ◌∙◌, distance_of-swap}
use Rattle.noise_bound.proofs.Names.{equal_from_no_distance, apart, point_of, Sample, branch_of, far_from, Leads, cost, next_state}
use Rattle.symbol_map.proofs.Distances.{no_distance_from_equal}
use Rattle.symbol_map.proofs.MapFacts.{distance_in_map_units, points_differ}

pub far-is : (a b : ℕ) → a < 32 → b < 32 → far_from a (point_of b) ≡ 4194304 * apart a b
far-is a b in_a in_b = distance_in_map_units a b in_a in_b

-- the same where the other label's distance is known
pub far-swap : (a b : ℕ) → a < 32 → b < 32 → far_from a (point_of b) ≡ 4194304 * apart b a
far-swap a b in_a in_b = distance_of-swap (point_of a) (point_of b) ∙ distance_in_map_units b a in_b in_a

pub length-points : (labels : List ℕ) → length (map point_of labels) ≡ length labels
length-points [] = refl
length-points (x ∷ labels) = omega (arith, length-points labels)

pub cost-append : (f q : List ℕ) (r w : List Sample) → length f ≡ length r
    → cost far_from (f ++ q) (r ++ w) ≡ cost far_from f r + cost far_from q w
cost-append [] q [] w h = omega arith
cost-append [] q (y ∷ r) w h = absurd (omega arith)
cost-append (x ∷ f) q [] w h = absurd (omega arith)
cost-append (x ∷ f) q (y ∷ r) w h =
    let same : length f ≡ length r = omega arith in
    omega (arith, cost-append f q r w same)

-- labels cost nothing against their own points, and no others do
pub cost-own : (labels : List ℕ) → cost far_from labels (map point_of labels) ≡ 0
cost-own [] = refl
cost-own (x ∷ labels) = omega (arith, no_distance_from_equal (point_of x) (point_of x) refl, cost-own labels)

pub no-cost-own : (s t u v : ℕ) (a b : List ℕ) → Leads next_state s a u → Leads next_state t b v → length a ≡ length b
    → cost far_from a (map point_of b) ≡ 0 → a ≡ b
no-cost-own s t u v [] [] p q h e = refl
no-cost-own s t u v [] (y ∷ b) p q h e = absurd (omega arith)
no-cost-own s t u v (x ∷ a) [] p q h e = absurd (omega arith)
no-cost-own s t u v (x ∷ a) (y ∷ b) (m, i, p) (n, j, q) h e =
    let none : far_from x (point_of y) ≡ 0 = omega (arith, e) in
    let rest : cost far_from a (map point_of b) ≡ 0 = omega (arith, e) in
    let same : length a ≡ length b = omega arith in
    let one : x ≡ y = points_differ x y (branch_of s x m i).in_labels (branch_of t y n j).in_labels
    (equal_from_no_distance (point_of x) (point_of y) none) in
    let tails : a ≡ b = no-cost-own m n u v a b p q same rest in
    rw (one, tails) refl
