-- The nearest of the four points, by its product with the sample.
use Rattle.rate_4800.proofs.Names.{◌≡◌, ◌∙◌, ℕ, ◌+◌, ◌*◌, ◌%◌, ◌<◌, arith, ap, sym, subst, each_of_four, sample_at, least_four, point_of}
use Rattle.rate_4800.proofs.Names.{key_of, IsNearestLabel, distance_of, Sample}
use Rattle.std.proofs.Common.{◌-◌}
use Rattle.exact_decoder.specs.Lines.{above, below, coordinate}
use Rattle.exact_decoder.proofs.Axes.{below-1, below-3, above-1, above-3}
use Rattle.exact_decoder.proofs.MapKeys.{IsKey, four_keys, in_order, least_of_four, on}

-- keys by the lines that the points are on, and by products
abbrev lines : ℕ → ℕ → ℕ → ℕ
lines x y = four_keys (above 3 x + above 1 y) (above 1 x + below 3 y + 8) (below 3 x + below 1 y + 16) (below 1 x + above 3 y + 24)

abbrev pub products : ℕ → ℕ → ℕ → ℕ
products x y = four_keys (4 * (262144 - (3 * x + y)) + 0) (4 * (262144 - (196608 + x - 3 * y)) + 1) (4 * (3 * x + y) + 2)
    (4 * (196608 + x - 3 * y) + 3)

by_lines : (x y : ℕ) → x < 65536 → y < 65536 → (i : ℕ) → i < 4 → IsKey x y i (lines x y i) (distance_of (point_of i) (sample_at x y))
by_lines x y lx ly = each_of_four (λ i. IsKey x y i (lines x y i) (distance_of (point_of i) (sample_at x y)))
    (on x y 0 _ _ _ _ _ (omega arith) (above-3 x lx) (above-1 y ly) (omega arith))
    (on x y 1 _ _ _ _ _ (omega arith) (above-1 x lx) (below-3 y ly) (omega arith))
    (on x y 2 _ _ _ _ _ (omega arith) (below-3 x lx) (below-1 y ly) (omega arith))
    (on x y 3 _ _ _ _ _ (omega arith) (below-1 x lx) (above-3 y ly) (omega arith))

-- both have one order
record Tied (x y i : ℕ) : Type 0 where
  pub m : ℕ
  pub product : products x y i ≡ 4 * m + i
  pub line : lines x y i ≡ 256 * (141312 + m) + 8 * i

tied : (x y : ℕ) → x < 65536 → y < 65536 → (i : ℕ) → i < 4 → Tied x y i
tied x y lx ly = each_of_four (Tied x y)
    (record { m = 262144 - (3 * x + y); product = omega arith; line = omega arith })
    (record { m = 65536 + 3 * y - x; product = omega arith; line = omega arith })
    (record { m = 3 * x + y; product = omega arith; line = omega arith })
    (record { m = 196608 + x - 3 * y; product = omega arith; line = omega arith })

abbrev pub least_product : ℕ → ℕ → ℕ
least_product x y = least_four (products x y 0) (products x y 1) (products x y 2) (products x y 3)

pub nearest-of : (x y : ℕ) → x < 65536 → y < 65536 → IsNearestLabel (sample_at x y) (least_product x y % 4)
nearest-of x y lx ly =
    let p = least_of_four (products x y) in
    let own = tied x y lx ly p.place p.within in
    let label : least_product x y % 4 ≡ p.place = omega (arith, p.is, own.product, p.within) in
    subst (IsNearestLabel (sample_at x y)) (sym label) (record {
      within = p.within;
      least = λ i l.
          let other = tied x y lx ly i l in
          in_order x y (lines x y p.place) (lines x y i) (key_of (sample_at x y) p.place) (key_of (sample_at x y) i)
          (by_lines x y lx ly p.place p.within).stands (by_lines x y lx ly i l).stands
          (omega (arith, p.below_each i l, p.within, l, own.product, own.line, other.product, other.line));
      close = λ i l. (by_lines x y lx ly i l).close;
    })

pub sample-at : (s : Sample) (x y : ℕ) → coordinate x ≡ s.re → coordinate y ≡ s.im → sample_at x y ≡ s
sample-at s x y e f = ap (λ re. record { re = re; im = coordinate y }) e ∙ ap (λ im. record { re = s.re; im = im }) f
