-- A loss of a turn as one of a period, counted back from the last turn.
use Rattle.turn_losses.proofs.Names.{◌≡◌, inl, inr, ℕ, ◌+◌, ◌-◌, ◌*◌, ◌<◌, ◌≤◌, true, List, ◌∷◌, length, arith, sym, subst, Some, Role}
use Rattle.turn_losses.proofs.Names.{other, of, Heard, Turn, LosesSome, IsLost, turn_at, is_lost, TimedRun, end_of, PeriodLoses}
use Rattle.turn_losses.proofs.Expiries.{LostIn}
use Rattle.turn_losses.proofs.Keeping.{turn-is}

pub lost-is : (h : Heard) → is_lost h ≡ true → IsLost h
lost-is p e = grind (arith)

pub once : (period n : ℕ) → (n + 1) * period ≡ n * period + period
once period n = omega arith

pub times : (period a b : ℕ) → a ≤ b → a * period ≤ b * period
times period a b l = grind (arith)

-- the turns with the last one
pub later-turn : (turn : ℕ) (t : Turn) (ts : List Turn) → turn < length ts → turn_at turn (t ∷ ts) ≡ turn_at turn ts
later-turn turn t ts l = grind (arith)

pub newest : (t : Turn) (ts : List Turn) → turn_at (length ts) (t ∷ ts) ≡ Some t
newest t ts = grind (arith)

pub later-loses : (period : ℕ) (t : Turn) (ts : List Turn) (n : ℕ) → PeriodLoses period (length ts) ts n
    → PeriodLoses period (length ts) (t ∷ ts) n
later-loses period t ts n h = grind (arith)

pub loses-last : (period : ℕ) (t : Turn) (ts : List Turn) (s n : ℕ) → 1 ≤ period → s + (n + 1) * period ≡ length ts
    → s + period ≡ length ts → (r : Role) → is_lost (of r t).heard ≡ true → PeriodLoses period (length ts) (t ∷ ts) n
loses-last period t ts s n long q f r lost = grind (arith, lost-is)

-- of the turns of a run
module _ (w : TimedRun) where
  pub loses-in : (s n : ℕ) → s + (n + 1) * w.period ≡ length w.ts → (u : ℕ) → s < u → u ≤ s + w.period → u < length w.ts → (r : Role)
      → is_lost (of r (w.deed u).turn).heard ≡ true → PeriodLoses w.period (length w.ts) w.ts n
  loses-in s n q u lo hi b r lost = let m = once w.period n in record {
    turn = u;
    within = b;
    in_period = record { behind = omega (arith, lo, q); before = omega (arith, hi, q, m) };
    lost = subst LosesSome (sym (turn-is w u b)) (r, lost-is (of r (w.deed u).turn).heard lost);
  }

  -- what either line lost
  pub loses-of : (r : Role) (s n : ℕ) → 1 ≤ w.period → s + (n + 1) * w.period ≡ length w.ts
      → LostIn (end_of w r) (end_of w (other r)) (s + 1) (w.period - 1) → PeriodLoses w.period (length w.ts) w.ts n
  loses-of r s n long q lost = elim lost.loses [ inl x ↦ at r x | inr x ↦ at (other r) x ]
    where
      at : (r : Role) → is_lost (of r (w.deed lost.turn).turn).heard ≡ true → PeriodLoses w.period (length w.ts) w.ts n
      at r x = let a = lost.low in let b = lost.high in let m = once w.period n in
          loses-in s n q lost.turn (omega (arith, a)) (omega (arith, b, long)) (omega (arith, b, q, m, long)) r x

  -- with the last turn
  pub loses-at : (t : Turn) (s n : ℕ) → s + (n + 1) * w.period ≡ length w.ts → (u : ℕ) → s < u → u ≤ s + w.period → u < length w.ts
      → (r : Role) → is_lost (of r (w.deed u).turn).heard ≡ true → PeriodLoses w.period (length w.ts) (t ∷ w.ts) n
  loses-at t s n q u lo hi b r lost = later-loses w.period t w.ts n (loses-in s n q u lo hi b r lost)
