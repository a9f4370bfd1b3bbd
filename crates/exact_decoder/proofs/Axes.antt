-- Lines of the map: squared distances along an axis, less what all points have in common.
use Rattle.exact_decoder.proofs.Names.{◌≡◌, ℕ, ◌+◌, ◌-◌, ◌*◌, ◌<◌, ◌≤◌, ◌^◌, inl, inr, refl, arith, cases_lt, ints, ℤ, pos, ◌-ℤ◌, ◌*ℤ◌}
use Rattle.exact_decoder.proofs.Names.{unsigned_abs, coordinate, squared_gap}
use Rattle.std.specs.Prelude.{neg_ℤ}
use Rattle.std.proofs.lemmas.Nat.{mul-le}
use Rattle.exact_decoder.specs.Lines.{below, above}

-- the square of a difference
ahead : (x d : ℕ) → d * d + 2 * ((x + d) * x) ≡ (x + d) * (x + d) + x * x
ahead x d = grind arith

behind : (a d : ℕ) → d * d + 2 * (a * (a + d)) ≡ a * a + (a + d) * (a + d)
behind a d = grind arith

square_of_gap : (a x g : ℕ) → g ≡ unsigned_abs (pos a -ℤ pos x) → g * g + 2 * (a * x) ≡ a * a + x * x
square_of_gap a x g h = elim (cases_lt a x) [
  | inl less ↦
      let e : x ≡ a + g = omega (arith, ints) in
      rw e (behind a g)
  | inr more ↦
      let e : a ≡ x + g = omega (arith, ints) in
      rw e (ahead x g)
]

square-small : (g : ℕ) → g < 65536 → g * g < 2 ^ 32
square-small g l = let less : g * g ≤ 65535 * 65535 = mul-le g g 65535 65535 (omega arith) (omega arith) in omega (arith, less)

-- what a line at such a coordinate has for one of a sample, of which the square of the sample's own is left out
pub record IsLine (x : ℕ) (at : ℤ) (k : ℕ) : Type 0 where
  pub metric : ℕ
  pub key_is : k ≡ 256 * metric
  pub tied : 4096 * metric + squared_gap (pos 0) (coordinate x) ≡ squared_gap at (coordinate x) + 536870912
  pub close : squared_gap at (coordinate x) < 2 ^ 32

-- a line by where it crosses the axis, counted from 0, and by its metric
line : (x from metric k : ℕ) (at : ℤ) → x < 65536 → from < 65536 → at ≡ pos from -ℤ pos 32768 → k ≡ 256 * metric
    → 4096 * metric + 536870912 + 2 * (from * x) ≡ from * from + 65536 * x → IsLine x at k
line x from metric k at l low is key tie =
    let gap = unsigned_abs (at -ℤ coordinate x) in
    let s = square_of_gap from x gap (omega (arith, ints)) in
    let t = square_of_gap 32768 x (unsigned_abs (pos 0 -ℤ coordinate x)) (omega (arith, ints)) in grind (arith, square-small)

-- the metrics of lines below 0, and above
abbrev low : ℕ → ℕ → ℕ
low p x = (1024 * p * p + 131072 - 32768 * p) + p * x

abbrev high : ℕ → ℕ → ℕ
high p x = (1024 * p * p + 131072 - 32767 * p) + p * (65535 - x)

pub below-1 : (x : ℕ) → x < 65536 → IsLine x (pos 2048 *ℤ neg_ℤ (pos 1)) (below 1 x)
below-1 x l = line x 30720 (low 1 x) _ _ l (omega arith) refl (omega arith) (omega arith)

pub below-2 : (x : ℕ) → x < 65536 → IsLine x (pos 2048 *ℤ neg_ℤ (pos 2)) (below 2 x)
below-2 x l = line x 28672 (low 2 x) _ _ l (omega arith) refl (omega arith) (omega arith)

pub below-3 : (x : ℕ) → x < 65536 → IsLine x (pos 2048 *ℤ neg_ℤ (pos 3)) (below 3 x)
below-3 x l = line x 26624 (low 3 x) _ _ l (omega arith) refl (omega arith) (omega arith)

pub below-4 : (x : ℕ) → x < 65536 → IsLine x (pos 2048 *ℤ neg_ℤ (pos 4)) (below 4 x)
below-4 x l = line x 24576 (low 4 x) _ _ l (omega arith) refl (omega arith) (omega arith)

pub above-0 : (x : ℕ) → x < 65536 → IsLine x (pos 2048 *ℤ pos 0) (above 0 x)
above-0 x l = line x 32768 (high 0 x) _ _ l (omega arith) refl (omega arith) (omega arith)

pub above-1 : (x : ℕ) → x < 65536 → IsLine x (pos 2048 *ℤ pos 1) (above 1 x)
above-1 x l = line x 34816 (high 1 x) _ _ l (omega arith) refl (omega arith) (omega arith)

pub above-2 : (x : ℕ) → x < 65536 → IsLine x (pos 2048 *ℤ pos 2) (above 2 x)
above-2 x l = line x 36864 (high 2 x) _ _ l (omega arith) refl (omega arith) (omega arith)

pub above-3 : (x : ℕ) → x < 65536 → IsLine x (pos 2048 *ℤ pos 3) (above 3 x)
above-3 x l = line x 38912 (high 3 x) _ _ l (omega arith) refl (omega arith) (omega arith)

pub above-4 : (x : ℕ) → x < 65536 → IsLine x (pos 2048 *ℤ pos 4) (above 4 x)
above-4 x l = line x 40960 (high 4 x) _ _ l (omega arith) refl (omega arith) (omega arith)
