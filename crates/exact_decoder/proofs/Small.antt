-- bounds of keys
use Rattle.exact_decoder.proofs.Names.{ℕ, ◌<◌, arith, least_four, nearest_000, nearest_001, nearest_010, nearest_011, nearest_100}
use Rattle.exact_decoder.proofs.Names.{nearest_101, nearest_110, nearest_111}

first-small : (a b c d n : ℕ) → a < n → least_four a b c d < n
first-small a b c d n h = omega arith

pub small-000 : (x y : ℕ) → x < 65536 → y < 65536 → nearest_000 x y < 2147483648
small-000 x y h k = grind (arith, first-small)

pub small-001 : (x y : ℕ) → x < 65536 → y < 65536 → nearest_001 x y < 2147483648
small-001 x y h k = grind (arith, first-small)

pub small-010 : (x y : ℕ) → x < 65536 → y < 65536 → nearest_010 x y < 2147483648
small-010 x y h k = grind (arith, first-small)

pub small-011 : (x y : ℕ) → x < 65536 → y < 65536 → nearest_011 x y < 2147483648
small-011 x y h k = grind (arith, first-small)

pub small-100 : (x y : ℕ) → x < 65536 → y < 65536 → nearest_100 x y < 2147483648
small-100 x y h k = grind (arith, first-small)

pub small-101 : (x y : ℕ) → x < 65536 → y < 65536 → nearest_101 x y < 2147483648
small-101 x y h k = grind (arith, first-small)

pub small-110 : (x y : ℕ) → x < 65536 → y < 65536 → nearest_110 x y < 2147483648
small-110 x y h k = grind (arith, first-small)

pub small-111 : (x y : ℕ) → x < 65536 → y < 65536 → nearest_111 x y < 2147483648
small-111 x y h k = grind (arith, first-small)
