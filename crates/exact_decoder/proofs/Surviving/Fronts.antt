-- What survivors begin with, and what stays of it.
use Rattle.exact_decoder.proofs.Names.{◌≡◌, ℕ, ◌+◌, ◌<◌, ◌≤◌, inl, inr, List, [], ◌∷◌, ◌++◌, length, take, drop, arith, length-append}
use Rattle.exact_decoder.proofs.Names.{append_assoc, refl, sym, ◌∙◌, ap, subst, Option, Some, None, cases_lt, cases_eq, nil_from_length}
use Rattle.exact_decoder.proofs.Names.{append-nil, take-append-drop, take_all, take-take, take_at, take-append-le, length_push, IsSurvivor}
use Rattle.exact_decoder.proofs.Names.{IsCommon, IsReleased, IsOver, IsLost, LostIs, Trellis, IsPrefixOf}
use Rattle.exact_decoder.proofs.Surviving.Bellman.{survivor-cut}

front-is : (labels front rest : List ℕ) (n m : ℕ) → length front ≡ n → n ≤ m → take m labels ≡ front ++ rest → front ≡ take n labels
front-is labels front rest n m l le e = sym (sym (take-take n m labels le) ∙ ap (take n) e ∙ take_at front rest n l)

pub fronts-survive : {X : Type 0} (c : Trellis X) (samples more : List X) (labels : List ℕ) (end : ℕ)
    → IsSurvivor c (samples ++ more) labels end
    → (mid : ℕ) × IsSurvivor c samples (take (length samples) labels) mid
fronts-survive c samples [] labels end s =
    let here = subst (λ l. IsSurvivor c l labels end) (append-nil samples) s in
    let same : take (length samples) labels ≡ labels = take_all (length samples) labels (omega (arith, here.sequence.same_length)) in
    (end, subst (λ l. IsSurvivor c samples l end) (sym same) here)
fronts-survive c samples (x ∷ more) labels end s =
    let later = fronts-survive c (samples ++ x ∷ []) more labels end
    (subst (λ l. IsSurvivor c l labels end) (sym (append_assoc samples (x ∷ []) more)) s) in
    let cut = survivor-cut c samples x _ _ later.1 in
    let e = front-is _ _ _ _ _ cut.survivor.sequence.same_length (omega (arith, length_push samples x)) cut.joined in
    (cut.mid, subst (λ l. IsSurvivor c samples l cut.mid) e cut.survivor)

-- what is released is a prefix of each later survivor
pub stays-common : {X : Type 0} (c : Trellis X) (samples more : List X) (front : List ℕ) → IsReleased c samples front
    → IsCommon c (samples ++ more) front
stays-common c samples more front r = λ state labels s.
    let f = fronts-survive c samples more labels state s in
    let p = r.common f.0 (take (length samples) labels) f.1 in
    let rest = drop (length samples) labels in
    (p.0 ++ rest, sym (append_assoc front p.0 rest) ∙ ap (λ l. l ++ rest) p.1 ∙ take-append-drop (length samples) labels)

pub stays-prefix : {X : Type 0} (c : Trellis X) (samples more : List X) (front later : List ℕ) → IsReleased c samples front
    → IsReleased c (samples ++ more) later → IsPrefixOf front later
stays-prefix c samples more front later r s = s.longest front (stays-common c samples more front r)

-- two lists that are each a prefix of the other are one
both-prefixes : (a b : List ℕ) → IsPrefixOf a b → IsPrefixOf b a → a ≡ b
both-prefixes a b p q = elim (cases_lt (length a) (length b)) [
  | inl less ↦ let e : length (b ++ q.0) ≡ length a = ap length q.1 in absurd (omega (arith, e, length-append {A = ℕ} b q.0))
  | inr more ↦
      let e : length (a ++ p.0) ≡ length b = ap length p.1 in
      let none : p.0 ≡ [] = nil_from_length p.0 (omega (arith, e, length-append {A = ℕ} a p.0)) in
      sym (append-nil a) ∙ ap (λ l. a ++ l) (sym none) ∙ p.1
]

pub released-once : {X : Type 0} (c : Trellis X) (samples : List X) (a b : List ℕ) → IsReleased c samples a → IsReleased c samples b → a ≡ b
released-once c samples a b h k = both-prefixes a b (k.longest a h.common) (h.longest b k.common)

pub lost-once : {X : Type 0} (c : Trellis X) (depth : ℕ) (samples : List X) (a b : Option ℕ) → LostIs c depth samples a
    → LostIs c depth samples b → a ≡ b
lost-once c depth samples None None h k = refl
lost-once c depth samples None (Some n) h k = absurd (h (n + 1) (omega (arith, k.within)) k.over)
lost-once c depth samples (Some m) None h k = absurd (k (m + 1) (omega (arith, h.within)) h.over)
lost-once c depth samples (Some m) (Some n) h k = ap Some (elim (cases_eq m n) [
  | inl e ↦ e
  | inr differ ↦ elim (cases_lt m n) [
    | inl less ↦ absurd (k.first (m + 1) (omega arith) h.over)
    | inr more ↦ let other : n < m = elim (cases_lt n m) [ inl l ↦ l | inr l ↦ let e : m ≡ n = omega arith in absurd (differ e) ] in
        absurd (h.first (n + 1) (omega arith) k.over)
  ]
])

-- the first samples stay the same
pub over-more : {X : Type 0} (c : Trellis X) (depth : ℕ) (samples more : List X) (n : ℕ) → n ≤ length samples → IsOver c depth samples n
    → IsOver c depth (samples ++ more) n
over-more c depth samples more n within h = grind (arith, take-append-le)

pub over-before : {X : Type 0} (c : Trellis X) (depth : ℕ) (samples more : List X) (n : ℕ) → n ≤ length samples
    → IsOver c depth (samples ++ more) n → IsOver c depth samples n
over-before c depth samples more n within h = grind (arith, take-append-le)

pub lost-stays : {X : Type 0} (c : Trellis X) (depth : ℕ) (samples more : List X) (symbol : ℕ) → IsLost c depth samples symbol
    → IsLost c depth (samples ++ more) symbol
lost-stays {X} c depth samples more symbol h = record {
  within = omega (arith, h.within, length-append {A = X} samples more);
  over = over-more c depth samples more (symbol + 1) (omega (arith, h.within)) h.over;
  first = λ n low o. h.first n low (over-before c depth samples more n (omega (arith, h.within)) o);
}
