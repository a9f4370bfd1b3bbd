-- The survivor of least cost, and the longest list that all survivors begin with.
use Rattle.exact_decoder.proofs.Names.{◌≡◌, ℕ, zero, suc, ◌<◌, ◌≤◌, ◌⊎◌, inl, inr, List, [], ◌∷◌, ◌++◌, length, take, drop, arith}
use Rattle.exact_decoder.proofs.Names.{length-append, refl, sym, ◌∙◌, ap, subst, cases_lt, cases_eq, take_at, take-take, take-append-drop}
use Rattle.exact_decoder.proofs.Names.{IsSurvivor, IsCommon, IsReleased, Trellis, IsSequence, HasLaws, IsPrefixOf, cost}
use Rattle.exact_decoder.specs.Surviving.Survivors.{IsLeast}
use Rattle.exact_decoder.proofs.Surviving.Release.{survivor-one}
use Rattle.exact_decoder.proofs.Surviving.Bellman.{least_cost}
use Rattle.exact_decoder.proofs.Surviving.Existence.{Decided, decided, ends-within, some-survives}

-- the cheapest survivor of the states below n
abbrev LeastBelow : {X : Type 0} → Trellis X → List X → ℕ → Type 0
LeastBelow c samples n =
    ((labels : List ℕ) × (end : ℕ) × IsSurvivor c samples labels end
    × ((state : ℕ) (other : List ℕ) → state < n → IsSurvivor c samples other state
    → cost c.distance labels samples ≤ cost c.distance other samples))
    ⊎ ((state : ℕ) (other : List ℕ) → state < n → IsSurvivor c samples other state → ⊥)

least-below : {X : Type 0} (c : Trellis X) (samples : List X) → ((state : ℕ) → Decided c samples state) → (n : ℕ) → LeastBelow c samples n
least-below c samples each zero = inr (λ s o l v. absurd (omega arith))
least-below {X} c samples each (suc n) = next (each n) (least-below c samples each n)
  where
    at-last : (labels : List ℕ) (state : ℕ) (other : List ℕ) → IsSurvivor c samples labels n → IsSurvivor c samples other state
        → state < suc n → n ≤ state → cost c.distance other samples ≡ cost c.distance labels samples
    at-last labels state other s v l m = grind (arith)

    next : Decided c samples n → LeastBelow c samples n → LeastBelow c samples (suc n)
    next (inr never) (inl (labels, end, s, best)) = grind (arith)
    next (inr never) (inr none) = grind (arith)
    next (inl (new, s)) (inr none) = grind (arith, at-last)
    next (inl (new, s)) (inl (labels, end, t, best)) = elim (cases_lt (cost c.distance new samples) (cost c.distance labels samples)) [
      | inl cheaper ↦ inl (
        new,
        n,
        s,
        λ state other l v. elim (cases_lt state n) [
          | inl less ↦ omega (arith, best state other less v)
          | inr more ↦ omega (arith, at-last new state other s v l more)
        ],
      )
      | inr most ↦ inl (
        labels,
        end,
        t,
        λ state other l v. elim (cases_lt state n) [
          | inl less ↦ best state other less v
          | inr more ↦ omega (arith, at-last new state other s v l more)
        ],
      )
    ]

-- a least sequence that is a survivor
pub some-least : {X : Type 0} (c : Trellis X) (states labels steps : ℕ) (samples : List X) → HasLaws c states labels steps
    → (least : List ℕ) × (end : ℕ) × IsSurvivor c samples least end × IsLeast c samples least
some-least {X} c states labels steps samples laws = found (least-below c samples (λ s. decided c states labels steps samples laws s) states)
  where
    one : (survivor : List ℕ) × (end : ℕ) × IsSurvivor c samples survivor end
    one = some-survives c states labels steps samples laws

    against : (least other : List ℕ) (other_end : ℕ)
        → ((state : ℕ) (kept : List ℕ) → state < states → IsSurvivor c samples kept state
        → cost c.distance least samples ≤ cost c.distance kept samples)
        → IsSequence c samples other other_end → Decided c samples other_end → cost c.distance least samples ≤ cost c.distance other samples
    against least other other_end best q (inl (p, s)) =
        omega (
          arith,
          best other_end p (ends-within c states labels steps samples other other_end laws q) s,
          least_cost c samples p other (s.best other q),
        )
    against least other other_end best q (inr never) = absurd (never other q)

    found : LeastBelow c samples states → (least : List ℕ) × (end : ℕ) × IsSurvivor c samples least end × IsLeast c samples least
    found (inl (least, end, s, best)) = (
      least,
      end,
      s,
      record {
        end = end;
        sequence = s.sequence;
        least = λ other other_end q. against least other other_end best q (decided c states labels steps samples laws other_end);
      },
    )
    found (inr none) = absurd (none one.1 one.0 (ends-within c states labels steps samples one.0 one.1 laws one.2.sequence) one.2)

pub released-is_least : {X : Type 0} (c : Trellis X) (states labels steps : ℕ) (samples : List X) (front : List ℕ)
    → HasLaws c states labels steps → IsReleased c samples front → (rest : List ℕ) × IsLeast c samples (front ++ rest)
released-is_least c states labels steps samples front laws r =
    let l = some-least c states labels steps samples laws in
    let p = r.common l.1 l.0 l.2 in
    (p.0, subst (IsLeast c samples) (sym p.1) l.3)

-- whether a list is a prefix of another
prefix-decided : (a b : List ℕ) → IsPrefixOf a b ⊎ (IsPrefixOf a b → ⊥)
prefix-decided [] b = inl (b, refl)
prefix-decided (x ∷ a) [] = grind (arith)
prefix-decided (x ∷ a) (y ∷ b) = both (cases_eq x y) (prefix-decided a b)
  where
    head : (r : List ℕ) → x ∷ (a ++ r) ≡ y ∷ b → x ≡ y
    head r q = cc

    tail : (r : List ℕ) → x ∷ (a ++ r) ≡ y ∷ b → a ++ r ≡ b
    tail r q = cc

    both : (x ≡ y) ⊎ (x ≡ y → ⊥) → IsPrefixOf a b ⊎ (IsPrefixOf a b → ⊥) → IsPrefixOf (x ∷ a) (y ∷ b) ⊎ (IsPrefixOf (x ∷ a) (y ∷ b) → ⊥)
    both q0 p = grind (arith)

-- whether it is one of the survivors of the states below n
abbrev CommonBelow : {X : Type 0} → Trellis X → List X → List ℕ → ℕ → Type 0
CommonBelow c samples front n = (state : ℕ) (labels : List ℕ) → state < n → IsSurvivor c samples labels state → IsPrefixOf front labels

common-decided : {X : Type 0} (c : Trellis X) (samples : List X) (front : List ℕ) → ((state : ℕ) → Decided c samples state) → (n : ℕ)
    → CommonBelow c samples front n ⊎ (IsCommon c samples front → ⊥)
common-decided c samples front each zero = inl (λ s l low v. absurd (omega arith))
common-decided {X} c samples front each (suc n) = next (each n) (common-decided c samples front each n)
  where
    with-last : ((labels : List ℕ) → IsSurvivor c samples labels n → IsPrefixOf front labels) → CommonBelow c samples front n
        → CommonBelow c samples front (suc n)
    with-last last h = grind (arith)

    next : Decided c samples n → CommonBelow c samples front n ⊎ (IsCommon c samples front → ⊥)
        → CommonBelow c samples front (suc n) ⊎ (IsCommon c samples front → ⊥)
    next d (inr never) = inr never
    next (inr never) (inl h) = inl (with-last (λ labels v. absurd (never labels v.sequence)) h)
    next (inl (kept, s)) (inl h) = elim (prefix-decided front kept) [
      | inl p ↦ inl (with-last (λ labels v. subst (IsPrefixOf front) (survivor-one c samples kept labels n s v) p) h)
      | inr never ↦ inr (λ common. never (common n kept s))
    ]

-- the longest of the first parts of a survivor that all begin with
abbrev LongestBelow : {X : Type 0} → Trellis X → List X → List ℕ → ℕ → Type 0
LongestBelow c samples whole n = (k : ℕ) × IsCommon c samples (take k whole) × ((j : ℕ) → j ≤ n → IsCommon c samples (take j whole) → j ≤ k)

pub some-released : {X : Type 0} (c : Trellis X) (states labels steps : ℕ) (samples : List X) → HasLaws c states labels steps
    → (front : List ℕ) × IsReleased c samples front
some-released {X} c states labels steps samples laws =
    (take longest.0 one.0, record { common = longest.1; longest = λ other h. within other h (h one.1 one.0 one.2) })
  where
    one : (survivor : List ℕ) × (end : ℕ) × IsSurvivor c samples survivor end
    one = some-survives c states labels steps samples laws

    whole : (front : List ℕ) → CommonBelow c samples front states → IsCommon c samples front
    whole front h = λ state l v. h state l (ends-within c states labels steps samples l state laws v.sequence) v

    upto : (n : ℕ) → LongestBelow c samples one.0 n
    upto zero = (0, (λ state l v. (l, refl)), λ j l h. l)
    upto (suc n) = elim (common-decided c samples (take (suc n) one.0) (λ s. decided c states labels steps samples laws s) states) [
      | inl h ↦ (suc n, whole (take (suc n) one.0) h, λ j l k. l)
      | inr never ↦ let r = upto n in (
        r.0,
        r.1,
        λ j l k. elim
            (cases_lt j (suc n)) [
              | inl less ↦ r.2 j (omega arith) k
              | inr more ↦ let e : j ≡ suc n = omega arith in
                  absurd (never (subst (λ i. IsCommon c samples (take i one.0)) e k))
            ],
      )
    ]

    longest : LongestBelow c samples one.0 (length one.0)
    longest = upto (length one.0)

    within : (other : List ℕ) → IsCommon c samples other → IsPrefixOf other one.0 → IsPrefixOf other (take longest.0 one.0)
    within other h (rest, e) =
        let n = length other in
        let mine : take n one.0 ≡ other = ap (take n) (sym e) ∙ take_at other rest n refl in
        let l : length (other ++ rest) ≡ length one.0 = ap length e in
        let low : n ≤ longest.0 =
        longest.2 n (omega (arith, l, length-append {A = ℕ} other rest)) (subst (IsCommon c samples) (sym mine) h) in
        let part : take n (take longest.0 one.0) ≡ other = take-take n longest.0 one.0 low ∙ mine in
        (drop n (take longest.0 one.0), ap (λ l. l ++ drop n (take longest.0 one.0)) (sym part) ∙ take-append-drop n (take longest.0 one.0))
