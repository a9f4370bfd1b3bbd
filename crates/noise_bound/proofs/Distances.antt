-- How far two sequences are apart that meet: each fact is a test over pairs of states and labels that computes, and what it shows.
use Rattle.noise_bound.proofs.Names.{◌≡◌, ◌≢◌, ℕ, suc, ◌+◌, ◌*◌, ◌/◌, ◌≤◌, ◌⊎◌, inl, inr, Bool, true, nat_eq, List, [], ◌∷◌, length, map}
use Rattle.noise_bound.proofs.Names.{arith, Option, Some, None, refl, sym, ◌∙◌, ap, subst, eq-eqb, eqb-true, cases_eq, apart_in_all, apart}
use Rattle.noise_bound.proofs.Names.{point_of, leaves_apart, branch_of, far_from, Leads, cost, next_state}
use Rattle.std.proofs.Common.{◌||◌, if◌then◌else◌}
use Rattle.std.specs.Prelude.{nat_le, slice_index}
use Rattle.std.proofs.lemmas.Bool.{leb-true, or_cases}
use Rattle.symbol_map.specs.Finite.{each_below, at_each, at_each_pair}
use Rattle.noise_bound.proofs.NoiselessCosts.{far-is}
use Rattle.noise_bound.proofs.Meetings.{Parted, parted-cost}
use Rattle.noise_bound.proofs.Detours.{other-end}
use Rattle.noise_bound.specs.Distances.{AreApartFrom}
use Rattle.noise_bound.specs.DistanceLaws.{MeetingIsFar, MeetingAgainIsFar, ApartIsFar, PartingIsFar, EndsAreNear, CostIsDistance}

-- the least that two sequences differ by from two states until they meet, a line for each state of one of them
abbrev until_met : List ℕ
until_met = 0 ∷ 6 ∷ 4 ∷ 6 ∷ 4 ∷ 6 ∷ 4 ∷ 6
    ∷ 6 ∷ 0 ∷ 6 ∷ 4 ∷ 6 ∷ 4 ∷ 6 ∷ 4
    ∷ 4 ∷ 6 ∷ 0 ∷ 6 ∷ 4 ∷ 6 ∷ 4 ∷ 6
    ∷ 6 ∷ 4 ∷ 6 ∷ 0 ∷ 6 ∷ 4 ∷ 6 ∷ 4
    ∷ 4 ∷ 6 ∷ 4 ∷ 6 ∷ 0 ∷ 6 ∷ 4 ∷ 6
    ∷ 6 ∷ 4 ∷ 6 ∷ 4 ∷ 6 ∷ 0 ∷ 6 ∷ 4
    ∷ 4 ∷ 6 ∷ 4 ∷ 6 ∷ 4 ∷ 6 ∷ 0 ∷ 6
    ∷ 6 ∷ 4 ∷ 6 ∷ 4 ∷ 6 ∷ 4 ∷ 6 ∷ 0 ∷ []

abbrev until : ℕ → ℕ → ℕ
until s t = if nat_eq s t then 0 else slice_index until_met (8 * s + t)

until-met : (s : ℕ) → until s s ≡ 0
until-met s = rw (eq-eqb s s refl) refl

-- whether two branches that differ by so much leave as much to go as to make up the least
abbrev makes_up : ℕ → ℕ → Option ℕ → Option ℕ → Bool
makes_up least far None v = true
makes_up least far (Some u) None = true
makes_up least far (Some u) (Some v) = nat_le least (far + until u v)

from-branches : (least far u v : ℕ) (first second : Option ℕ) → makes_up least far first second ≡ true → first ≡ Some u → second ≡ Some v
    → least ≤ far + until u v
from-branches least far u v first second h e f = grind (arith, leb-true)

abbrev meets : ℕ → ℕ → ℕ → ℕ → Bool
meets s t a b = makes_up (until s t) (apart a b) (next_state s a) (next_state t b)

meets_test : each_below 8 (λ s. each_below 8 (λ t. each_below 32 (λ a. each_below 32 (meets s t a)))) ≡ true
meets_test = refl

abbrev parts : ℕ → ℕ → ℕ → Bool
parts s a b = nat_eq a b || makes_up 10 (apart a b) (next_state s a) (next_state s b)

parts_test : each_below 8 (λ s. each_below 32 (λ a. each_below 32 (parts s a))) ≡ true
parts_test = refl

abbrev is_far : ℕ → ℕ → Bool
is_far s t = nat_eq s t || nat_le 4 (until s t)

far_test : each_below 8 (λ s. each_below 8 (is_far s)) ≡ true
far_test = refl

-- one step of two sequences
step-meets : (s t a b u v : ℕ) → next_state s a ≡ Some u → next_state t b ≡ Some v → until s t ≤ apart a b + until u v
step-meets s t a b u v e f =
    let p = branch_of s a u e in
    let q = branch_of t b v f in
    let rows = at_each_pair 8 8 (λ s t. each_below 32 (λ a. each_below 32 (meets s t a))) meets_test s t p.in_states q.in_states in
    from-branches (until s t) (apart a b) u v (next_state s a) (next_state t b)
    (at_each_pair 32 32 (meets s t) rows a b p.in_labels q.in_labels) e f

step-parts : (s a b u v : ℕ) → a ≢ b → next_state s a ≡ Some u → next_state s b ≡ Some v → 10 ≤ apart a b + until u v
step-parts s a b u v differ e f =
    let p = branch_of s a u e in
    let q = branch_of s b v f in
    let rows = at_each 8 (λ s. each_below 32 (λ a. each_below 32 (parts s a))) parts_test s p.in_states in
    elim (or_cases (nat_eq a b) (makes_up 10 (apart a b) (next_state s a) (next_state s b))
    (at_each_pair 32 32 (parts s) rows a b p.in_labels q.in_labels)) [
      | inl same ↦ absurd (differ (eqb-true a b same))
      | inr far ↦ from-branches 10 (apart a b) u v (next_state s a) (next_state s b) far e f
    ]

-- two sequences until they meet
until-least : (s t end : ℕ) (a b : List ℕ) → length a ≡ length b → Leads next_state s a end → Leads next_state t b end
    → until s t ≤ apart_in_all a b
until-least s t end [] [] h p q = let same : s ≡ t = p ∙ sym q in let none : until s t ≡ 0 = ap (until s) (sym same) ∙ until-met s in
    omega arith
until-least s t end [] (y ∷ b) h p q = absurd (omega arith)
until-least s t end (x ∷ a) [] h p q = absurd (omega arith)
until-least s t end (x ∷ a) (y ∷ b) h (m, e, p) (n, f, q) =
    let same : length a ≡ length b = omega arith in
    omega (arith, step-meets s t x y m n e f, until-least m n end a b same p q)

pub meeting-is-far : MeetingIsFar
meeting-is-far s t end [] [] differ h p q = absurd (differ (p ∙ sym q))
meeting-is-far s t end [] (y ∷ b) differ h p q = absurd (omega arith)
meeting-is-far s t end (x ∷ a) [] differ h p q = absurd (omega arith)
meeting-is-far s t end (x ∷ a) (y ∷ b) differ h p q =
    let in_s = (branch_of s x p.0 p.1).in_states in
    let in_t = (branch_of t y q.0 q.1).in_states in
    let least = until-least s t end (x ∷ a) (y ∷ b) h p q in
    elim (or_cases (nat_eq s t) (nat_le 4 (until s t)) (at_each_pair 8 8 is_far far_test s t in_s in_t)) [
      | inl same ↦ absurd (differ (eqb-true s t same))
      | inr far ↦ let four : 4 ≤ until s t = leb-true 4 (until s t) far in omega (arith, least)
    ]

-- two sequences from one state to one state are one, or far apart
pub one-or-far : (s end : ℕ) (a b : List ℕ) → length a ≡ length b → Leads next_state s a end → Leads next_state s b end → (a ≡ b)
    ⊎ (10 ≤ apart_in_all a b)
one-or-far s end [] [] h p q = inl refl
one-or-far s end [] (y ∷ b) h p q = absurd (omega arith)
one-or-far s end (x ∷ a) [] h p q = absurd (omega arith)
one-or-far s end (x ∷ a) (y ∷ b) h (m, e, p) (n, f, q) = elim (cases_eq x y) [
  | inr differ ↦ inr (omega (arith, step-parts s x y m n differ e f, until-least m n end a b same p q))
  | inl one ↦ elim (one-or-far m end a b same p (subst (λ state. Leads next_state state b end) (sym (mids one)) q)) [
    | inl rest ↦ inl
        (rw (one, rest) refl)
    | inr far ↦ inr (omega (arith, far))
  ]
]
  where
    same : length a ≡ length b
    same = omega arith

    some-is : (m n : ℕ) → Some m ≡ Some n → m ≡ n
    some-is m n k = cc

    mids : x ≡ y → m ≡ n
    mids one = some-is m n (sym e ∙ ap (next_state s) one ∙ f)

pub meeting-again_is-far : MeetingAgainIsFar
meeting-again_is-far s end a b differ h p q = elim (one-or-far s end a b h p q) [ inl one ↦ absurd (differ one) | inr far ↦ far ]

-- costs against points
pub cost-is-distance : CostIsDistance
cost-is-distance s t u v [] [] h p q = refl
cost-is-distance s t u v [] (y ∷ b) h p q = refl
cost-is-distance s t u v (x ∷ a) [] h p q = refl
cost-is-distance s t u v (x ∷ a) (y ∷ b) h (m, e, p) (n, f, q) =
    let same : length a ≡ length b = omega arith in
    let first : far_from x (point_of y) ≡ 4194304 * apart x y = far-is x y (branch_of s x m e).in_labels (branch_of t y n f).in_labels in
    let rest : cost far_from a (map point_of b) ≡ 4194304 * apart_in_all a b = cost-is-distance m n u v a b same p q in
    omega arith

-- sequences that are in different states throughout
parted : (s t u v : ℕ) (a b : List ℕ) → length a ≡ length b → Leads next_state s a u → Leads next_state t b v → AreApartFrom 0 s t a b
    → Parted s a t b
parted s t u v [] [] h p q differ = differ 0 s t (omega arith) (omega arith) refl refl
parted s t u v [] (y ∷ b) h p q differ = absurd (omega arith)
parted s t u v (x ∷ a) [] h p q differ = absurd (omega arith)
parted s t u v (x ∷ a) (y ∷ b) h (m, e, p) (n, f, q) differ =
    let same : length a ≡ length b = omega arith in (
      differ 0 s t (omega arith) (omega arith) refl refl,
      m,
      n,
      e,
      f,
      parted m n u v a b same p q (λ i c d low within k l. differ (suc i) c d (omega arith) (omega arith) (m, e, k) (n, f, l)),
    )

parted-far : (s t u v : ℕ) (a b : List ℕ) → length a ≡ length b → Leads next_state s a u → Leads next_state t b v → Parted s a t b
    → 2 * (length a / 3) ≤ apart_in_all a b
parted-far s t u v a b h p q k =
    let dear = parted-cost (length a / 3) s t a b k (omega arith) in
    let units : cost far_from a (map point_of b) ≡ 4194304 * apart_in_all a b = cost-is-distance s t u v a b h p q in
    omega arith

pub apart-is-far : ApartIsFar
apart-is-far s t u v a b h p q differ = parted-far s t u v a b h p q (parted s t u v a b h p q differ)

pub parting-is-far : PartingIsFar
parting-is-far s u v [] b some h p q differ = absurd (omega arith)
parting-is-far s u v (x ∷ a) [] some h p q differ = absurd (omega arith)
parting-is-far s u v (x ∷ a) (y ∷ b) some h (m, e, p) (n, f, q) differ =
    let same : length a ≡ length b = omega arith in
    let apart_now : m ≡ n → ⊥ = differ 1 m n (omega arith) (omega arith) (m, e, refl) (n, f, refl) in
    let first = (leaves_apart s x y m n e f apart_now).far in
    let behind : Parted m a n b = parted m n u v a b same p q
    (λ i c d low within k l. differ (suc i) c d (omega arith) (omega arith) (m, e, k) (n, f, l)) in
    omega (arith, first, parted-far m n u v a b same p q behind)

-- another end
pub ends-are-near : EndsAreNear
ends-are-near from end to labels many in_states l =
    let o = other-end from end to labels l many in_states in
    let units : cost far_from o.other (map point_of labels) ≡ 4194304 * apart_in_all o.other labels =
    cost-is-distance from from to end o.other labels o.same_length o.leads l in
    record { other = o.other; leads = o.leads; same_length = o.same_length; near = omega (arith, o.cheap) }
