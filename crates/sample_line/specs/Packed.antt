-- Labels below 32 of which the low four bits stand two an octet, and the high bits eight an octet, from the low end of each octet on.
use Rattle.std.specs.Prelude.{ℕ, zero, suc, ◌+◌, ◌*◌, ◌/◌, ◌%◌, ◌^◌, List, [], ◌∷◌, ◌++◌, slice_index_or}

-- the low four bits of a label
abbrev pub quad_at : List ℕ → ℕ → ℕ
quad_at quads i = slice_index_or quads (i / 2) 0 / 2 ^ (4 * (i % 2)) % 16

-- its high bit
abbrev pub high_at : List ℕ → ℕ → ℕ
high_at highs i = slice_index_or highs (i / 8) 0 / 2 ^ (i % 8) % 2

abbrev pub label_at : List ℕ → List ℕ → ℕ → ℕ
label_at quads highs i = quad_at quads i + 16 * high_at highs i

-- the first labels, as many as are given
unfoldable pub labels_in : ℕ → List ℕ → List ℕ → List ℕ
labels_in zero quads highs = []
labels_in (suc n) quads highs = labels_in n quads highs ++ label_at quads highs n ∷ []
