-- Clocks by the turn, whatever they time. What an end tries, its polls and a break that waits are three of them: each is set as something
-- is asked, and expires a period later, which asks again, unless it stopped or began anew.
use Rattle.turn_losses.proofs.Names.{inl, inr, ◌≡◌, ℕ, zero, suc, ◌+◌, ◌*◌, ◌<◌, ◌≤◌, arith, sym, subst}
use Rattle.std.proofs.lemmas.Bool.{cases_lt}

-- A clock: before which turns it runs, and in which turn it was set then; in which turns it stays, and in which something is asked.
-- A turn after which it runs: it begins in it, it expires in it, or it stays.
pub data Ticked (period t : ℕ) (runs stays asks : ℕ → Type 0) (was_set : ℕ → ℕ → Type 0) (count : ℕ → ℕ) : Type 0 where
  Begins : was_set (t + 1) t → count (t + 1) ≡ 0 → asks t → Ticked period t runs stays asks was_set count
  Expires : (set : ℕ) → runs t → was_set t set → set + period ≡ t → was_set (t + 1) t → ((n : ℕ) → count (t + 1) ≡ n + 1 → count t ≡ n)
      → asks t
      → Ticked period t runs stays asks was_set count
  Stays : runs t → ((s : ℕ) → was_set t s → was_set (t + 1) s) → ((n : ℕ) → count (t + 1) ≡ n + 1 → count t ≡ n + 1) → stays t
      → Ticked period t runs stays asks was_set count

-- Before a turn: when the clock was set last, and that it has run since; and, where that was an expiry, when it was set before.
pub record Last (period : ℕ) (runs stays asks : ℕ → Type 0) (was_set : ℕ → ℕ → Type 0) (count : ℕ → ℕ) (t : ℕ) : Type 0 where
  pub at : ℕ
  pub before : at < t
  pub asked : asks at
  pub set : (u : ℕ) → at < u → u ≤ t → was_set u at
  pub ran : (u : ℕ) → at < u → u ≤ t → runs u
  pub stayed : (v : ℕ) → at < v → v < t → stays v
  pub earlier : (n : ℕ) → count t ≡ n + 1 → runs at × (count at ≡ n) × (s : ℕ) × was_set at s × (s + period ≡ at)

-- It was set in this turn, and not again for a whole period; if that isn't the last one it goes on.
pub record Unanswered (period : ℕ) (runs stays asks : ℕ → Type 0) (was_set : ℕ → ℕ → Type 0) (t s : ℕ) : Type 0 where
  pub asked : asks s
  pub set : (u : ℕ) → s < u → u ≤ s + period → was_set u s
  pub ran : (u : ℕ) → s < u → u ≤ s + period → runs u
  pub stayed : (v : ℕ) → s < v → v < s + period → stays v
  pub goes_on : s + period < t → runs (s + period + 1)

module _ (period turns : ℕ) (runs stays asks : ℕ → Type 0) (was_set : ℕ → ℕ → Type 0) (count : ℕ → ℕ)
    (one : (u s r : ℕ) → was_set u s → was_set u r → s ≡ r) (none : runs 0 → ⊥)
    (ticks : (t : ℕ) → t < turns → runs (t + 1) → Ticked period t runs stays asks was_set count) where
  pub last : (t : ℕ) → t ≤ turns → runs t → Last period runs stays asks was_set count t
  last zero l r = absurd (none r)
  last (suc t) l r = subst (Last period runs stays asks was_set count) (next t)
      (go (ticks t (omega (arith, l)) now) (λ b. last t (omega (arith, l)) b))
    where
      next : (x : ℕ) → x + 1 ≡ suc x
      next x = omega arith

      now : runs (t + 1)
      now = subst runs (sym (next t)) r

      only : (P : ℕ → Type 0) → P (t + 1) → (u : ℕ) → t < u → u ≤ t + 1 → P u
      only P p u x y = subst P (omega (arith, x, y)) p

      go : Ticked period t runs stays asks was_set count → (runs t → Last period runs stays asks was_set count t)
          → Last period runs stays asks was_set count (t + 1)
      go (Begins s c a) again = grind (arith)
      go (Expires set ran was due s c a) again = record {
        at = t;
        before = omega arith;
        asked = a;
        set = only (λ u. was_set u t) s;
        ran = only runs now;
        stayed = λ v x y. absurd (omega (arith, x, y));
        earlier = λ n q. (ran, c n q, set, was, due);
      }
      go (Stays ran kept c stay) again =
          let i = again ran in let b = i.before in
          record {
            at = i.at;
            before = omega (arith, b);
            asked = i.asked;
            set = λ u x y. elim (cases_lt t u) [
              | inl z ↦ only (λ v. was_set v i.at) (kept i.at (i.set t b (omega arith))) u z y
              | inr z ↦ i.set u x z
            ];
            ran = λ u x y. elim (cases_lt t u) [ inl z ↦ only runs now u z y | inr z ↦ i.ran u x z ];
            stayed = λ v x y. elim (cases_lt v t) [ inl z ↦ i.stayed v x z | inr z ↦ subst stays (omega (arith, y, z)) stay ];
            earlier = λ n q. i.earlier n (c n q);
          }

  -- So where it expires before a turn, or in it, with so many expiries behind it, each of them came a whole period after the one before.
  pub chain : (n t set : ℕ) → t ≤ turns → runs t → count t ≡ n → was_set t set → set + period ≡ t → (j : ℕ) → j ≤ n
      → (s : ℕ) × (s + (j + 1) * period ≡ t) × Unanswered period runs stays asks was_set t s
  chain n t set l r c w due zero less =
      let i = last t l r in let b = i.before in
      let same : set ≡ i.at = one t set i.at w (i.set t b (omega arith)) in (
        i.at,
        omega (arith, same, due),
        record {
          asked = i.asked;
          set = λ u x y. i.set u x (omega (arith, y, same, due));
          ran = λ u x y. i.ran u x (omega (arith, y, same, due));
          stayed = λ v x y. i.stayed v x (omega (arith, y, same, due));
          goes_on = λ x. absurd (omega (arith, x, same, due));
        },
      )
  chain zero t set l r c w due (suc j) less = absurd (omega (arith, less))
  chain (suc n) t set l r c w due (suc j) less =
      let i = last t l r in let b = i.before in
      let same : set ≡ i.at = one t set i.at w (i.set t b (omega arith)) in
      let x = i.earlier n (omega (arith, c)) in
      let k = chain n i.at x.2 (omega (arith, b, l)) x.0 x.1 x.3 x.4 j (omega (arith, less)) in
      let d = k.1 in let more : (suc j + 1) * period ≡ (j + 1) * period + period = grind (arith) in
      let q = k.2 in (
        k.0,
        omega (arith, d, more, same, due),
        record {
          asked = q.asked;
          set = q.set;
          ran = q.ran;
          stayed = q.stayed;
          goes_on = λ x. elim (cases_lt (k.0 + period) i.at) [
            | inl y ↦ q.goes_on y
            | inr y ↦ i.ran (k.0 + period + 1) (omega (arith, y)) (omega (arith, x))
          ];
        },
      )
