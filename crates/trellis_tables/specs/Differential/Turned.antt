-- Differential coding: what is sent at a place is the sum of all quarter turns up to it, modulo 4.
use Rattle.std.specs.Prelude.{ℕ, ◌+◌, ◌-◌, ◌%◌, List, length, map, take, sum, slice_index, nat_eq, if◌then◌else◌}
use Rattle.std.specs.List.{range_with_len}

-- at place n stands (q[0] + .. + q[n]) mod 4
abbrev pub turned_at : List ℕ → ℕ → ℕ
turned_at q n = sum (take (n + 1) q) % 4

abbrev pub turned : List ℕ → List ℕ
turned q = map (turned_at q) (range_with_len 0 (length q))

-- the number before place n, and 0 before the first
abbrev pub before : List ℕ → ℕ → ℕ
before y n = if nat_eq n 0 then 0 else slice_index y (n - 1)

-- at place n stands (y[n] - y[n-1]) mod 4, for numbers y below 4
abbrev pub unturned_at : List ℕ → ℕ → ℕ
unturned_at y n = (slice_index y n + 4 - before y n) % 4

abbrev pub unturned : List ℕ → List ℕ
unturned y = map (unturned_at y) (range_with_len 0 (length y))
