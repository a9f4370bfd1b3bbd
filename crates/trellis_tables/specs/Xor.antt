-- The Recommendation's sums and products of bits that are numbers.
use Rattle.std.specs.Prelude.{ℕ, ◌+◌, ◌*◌, ◌%◌}

-- exclusive or of bits that are 0 or 1
abbrev pub xor_ℕ : ℕ → ℕ → ℕ
xor_ℕ a b = (a + b) % 2

-- whether both bits are 1
abbrev pub and_ℕ : ℕ → ℕ → ℕ
and_ℕ a b = a * b
