-- What stays from turn to turn.
use Rattle.turn_losses.proofs.Names.{◌⊎◌, inl, inr, ℕ, zero, suc, ◌+◌, ◌<◌, ◌≤◌, arith, subst, cases_lt}

pub kept-in : (P : ℕ → Type 0) (s t : ℕ) → s ≤ t → ((u : ℕ) → s ≤ u → u < t → P u → P (u + 1)) → P s → P t
kept-in P s zero less next h = subst P (omega (arith, less)) h
kept-in P s (suc t) less next h = elim (cases_lt t s) [
  | inl l ↦ subst P (omega (arith, less, l)) h
  | inr g ↦ subst P (omega arith) (next t g (omega arith) (kept-in P s t g (λ u x y. next u x (omega (arith, y))) h))
]

pub kept-on : (turns : ℕ) (P : ℕ → Type 0) → ((u : ℕ) → u < turns → P u → P (u + 1)) → (s t : ℕ) → s ≤ t → t ≤ turns → P s → P t
kept-on turns P next s t less within h = kept-in P s t less (λ u x y. next u (omega (arith, y, within))) h

-- of so many numbers each has the one, or some has the other
pub all-or-one : (P Q : ℕ → Type 0) (m : ℕ) → ((n : ℕ) → n < m → P n ⊎ Q n) → ((n : ℕ) → n < m → P n) ⊎ ((n : ℕ) × (n < m) × Q n)
all-or-one P Q zero h = inl (λ n x. absurd (omega (arith, x)))
all-or-one P Q (suc m) h = by (h m (omega arith)) (all-or-one P Q m (λ n x. h n (omega (arith, x))))
  where
    by : P m ⊎ Q m → ((n : ℕ) → n < m → P n) ⊎ ((n : ℕ) × (n < m) × Q n) → ((n : ℕ) → n < suc m → P n) ⊎ ((n : ℕ) × (n < suc m) × Q n)
    by y r = grind (arith)

-- in one of so many turns it comes to pass, or it is due after each
pub until : (sent due : ℕ → Type 0) (s n : ℕ)
    → ((t : ℕ) → s ≤ t → t < s + n → ((u : ℕ) → s ≤ u → u < t → due u) → sent t ⊎ due t)
    → ((y : ℕ) × (s ≤ y) × (y < s + n) × sent y) ⊎ ((t : ℕ) → s ≤ t → t < s + n → due t)
until sent due s zero h = inr (λ t a b. absurd (omega (arith, a, b)))
until sent due s (suc n) h = by (until sent due s n (λ t a b. h t a (omega (arith, b))))
  where
    by : ((y : ℕ) × (s ≤ y) × (y < s + n) × sent y) ⊎ ((t : ℕ) → s ≤ t → t < s + n → due t)
        → ((y : ℕ) × (s ≤ y) × (y < s + suc n) × sent y) ⊎ ((t : ℕ) → s ≤ t → t < s + suc n → due t)
    by (inl (y, a, b, q)) = inl (y, a, omega (arith, b), q)
    by (inr all) = elim (h (s + n) (omega arith) (omega arith) all) [
      | inl q ↦ inl (s + n, omega arith, omega arith, q)
      | inr q ↦ inr (λ t a b. elim (cases_lt t (s + n)) [ inl x ↦ all t a x | inr x ↦ subst due (omega (arith, x, b)) q ])
    ]
