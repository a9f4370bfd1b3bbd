-- What labels cost that are near others, or near the same samples.
use Rattle.noise_bound.proofs.Names.{◌≡◌, ℕ, zero, suc, ◌≤◌, List, [], ◌∷◌, length, take, map, arith, refl, sym, distance_of-swap}
use Rattle.noise_bound.proofs.Names.{equal_from_no_distance, distance_of, point_of, Sample, far_from, cost}
use Rattle.symbol_map.proofs.Distances.{near_is_near}
use Rattle.noise_bound.specs.DistanceLaws.{CostOverOthers, DistanceOverSamples}

pub cost-over_others : CostOverOthers
cost-over_others [] b samples h k = omega arith
cost-over_others (x ∷ a) b [] h k = absurd (omega arith)
cost-over_others (x ∷ a) [] (s ∷ samples) h k = absurd (omega arith)
cost-over_others (x ∷ a) (y ∷ b) (s ∷ samples) h k =
    let same : length a ≡ length samples = omega arith in
    let other : length b ≡ length samples = omega arith in
    omega (arith, near_is_near (point_of x) (point_of y) s, cost-over_others a b samples same other)

pub distance-over_samples : DistanceOverSamples
distance-over_samples [] b samples h k = omega arith
distance-over_samples (x ∷ a) b [] h k = absurd (omega arith)
distance-over_samples (x ∷ a) [] (s ∷ samples) h k = absurd (omega arith)
distance-over_samples (x ∷ a) (y ∷ b) (s ∷ samples) h k =
    let same : length a ≡ length samples = omega arith in
    let other : length b ≡ length samples = omega arith in
    omega (arith, near_is_near (point_of x) s (point_of y), distance_of-swap s (point_of y), distance-over_samples a b samples same other)

-- the first labels cost no more
pub cost-take : (n : ℕ) (labels : List ℕ) (samples : List Sample)
    → cost far_from (take n labels) (take n samples) ≤ cost far_from labels samples
cost-take zero labels samples = omega arith
cost-take (suc n) [] samples = omega arith
cost-take (suc n) (x ∷ labels) [] = omega arith
cost-take (suc n) (x ∷ labels) (s ∷ samples) = omega (arith, cost-take n labels samples)

-- only their own points cost labels nothing
pub points-of_no-cost : (labels : List ℕ) (samples : List Sample) → length labels ≡ length samples → cost far_from labels samples ≡ 0
    → samples ≡ map point_of labels
points-of_no-cost [] [] h e = refl
points-of_no-cost [] (s ∷ samples) h e = absurd (omega arith)
points-of_no-cost (x ∷ labels) [] h e = absurd (omega arith)
points-of_no-cost (x ∷ labels) (s ∷ samples) h e =
    let same : length labels ≡ length samples = omega arith in
    let none : distance_of (point_of x) s ≡ 0 = omega (arith, e) in
    let rest : cost far_from labels samples ≡ 0 = omega (arith, e) in
    let one : s ≡ point_of x = sym (equal_from_no_distance (point_of x) s none) in
    let more : samples ≡ map point_of labels = points-of_no-cost labels samples same rest in
    rw (one, more) refl
