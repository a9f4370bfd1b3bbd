-- Keys of 32 bits: 256 times a metric, 8 times a label and the state before. A label's metric is a sum of two numbers, one for each of the
-- two lines of the map on which its point lies. They are the body's own: no public clause names them.
use Rattle.std.specs.Prelude.{◌≡◌, ℕ, ℤ, pos, ◌-ℤ◌, ◌+◌, ◌-◌, ◌*◌, ◌^◌, ◌<◌, min, List, [], ◌∷◌}
use Rattle.symbol_map.specs.declared.sample.Sample.{Sample}

-- at p map units below 0, and above; coordinates count from 0 to 65535
abbrev pub below : ℕ → ℕ → ℕ
below p x = 256 * (1024 * p * p + 131072 - 32768 * p) + 256 * p * x

abbrev pub above : ℕ → ℕ → ℕ
above p x = 256 * (1024 * p * p + 131072 - 32767 * p) + 256 * p * (65535 - x)

abbrev pub least_four : ℕ → ℕ → ℕ → ℕ → ℕ
least_four a b c d = min (min a b) (min c d)

-- the nearest label of each subset
abbrev pub nearest_000 : ℕ → ℕ → ℕ
nearest_000 x y = least_four (below 4 x + above 1 y) (above 0 x + below 3 y + 8) (above 0 x + above 1 y + 16) (above 4 x + above 1 y + 24)

abbrev pub nearest_001 : ℕ → ℕ → ℕ
nearest_001 x y = least_four (above 4 x + below 1 y + 32) (above 0 x + above 3 y + 40) (above 0 x + below 1 y + 48)
    (below 4 x + below 1 y + 56)

abbrev pub nearest_010 : ℕ → ℕ → ℕ
nearest_010 x y = least_four (below 2 x + above 3 y + 64) (below 2 x + below 1 y + 72) (above 2 x + above 3 y + 80)
    (above 2 x + below 1 y + 88)

abbrev pub nearest_011 : ℕ → ℕ → ℕ
nearest_011 x y = least_four (above 2 x + below 3 y + 96) (above 2 x + above 1 y + 104) (below 2 x + below 3 y + 112)
    (below 2 x + above 1 y + 120)

abbrev pub nearest_100 : ℕ → ℕ → ℕ
nearest_100 x y = least_four (below 3 x + below 2 y + 128) (above 1 x + below 2 y + 136) (below 3 x + above 2 y + 144)
    (above 1 x + above 2 y + 152)

abbrev pub nearest_101 : ℕ → ℕ → ℕ
nearest_101 x y = least_four (above 3 x + above 2 y + 160) (below 1 x + above 2 y + 168) (above 3 x + below 2 y + 176)
    (below 1 x + below 2 y + 184)

abbrev pub nearest_110 : ℕ → ℕ → ℕ
nearest_110 x y = least_four (above 1 x + above 4 y + 192) (below 3 x + above 0 y + 200) (above 1 x + above 0 y + 208)
    (above 1 x + below 4 y + 216)

abbrev pub nearest_111 : ℕ → ℕ → ℕ
nearest_111 x y = least_four (below 1 x + below 4 y + 224) (above 3 x + above 0 y + 232) (below 1 x + above 0 y + 240)
    (below 1 x + above 4 y + 248)

-- a coordinate of a sample that is counted from 0
abbrev pub coordinate : ℕ → ℤ
coordinate x = pos x -ℤ pos 32768

-- the sample whose coordinates, counted from 0, are these
abbrev pub sample_at : ℕ → ℕ → Sample
sample_at x y = record { re = coordinate x; im = coordinate y }

-- the sums of eight states, by the metrics that keys of 32 bits have
abbrev pub words : (a b c d e f g h : ℕ) → List ℕ
words a b c d e f g h =
    (268435456 * a + 0) ∷ (268435456 * b + 1) ∷ (268435456 * c + 2) ∷ (268435456 * d + 3)
    ∷ (268435456 * e + 4) ∷ (268435456 * f + 5) ∷ (268435456 * g + 6) ∷ (268435456 * h + 7) ∷ []

-- the sum of a state that a key of 32 bits has
abbrev pub IsNarrow : ℕ → ℕ → Type 0
IsNarrow sum state = (metric : ℕ) × (metric < 2 ^ 23) × (sum ≡ 268435456 * metric + state)
