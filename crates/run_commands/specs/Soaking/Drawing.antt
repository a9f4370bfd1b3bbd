-- The words that a seed gives, and their octets.
use Rattle.std.specs.Prelude.{ℕ, zero, suc, ◌+◌, ◌/◌, ◌%◌, List, [], ◌∷◌, ◌++◌}
use Rattle.noise_script.specs.Offsets.{word_at}

-- the word of a seed at a place, counted from 0: that of the generator on stream 1
abbrev pub drawn_word : ℕ → ℕ → ℕ
drawn_word seed place = word_at seed 1 place

-- a word's four octets, the low one first
abbrev pub word_octets : ℕ → List ℕ
word_octets word = word % 256 ∷ word / 256 % 256 ∷ word / 65536 % 256 ∷ word / 16777216 ∷ []

-- those of so many words from a place on
unfoldable pub drawn_octets : ℕ → ℕ → ℕ → List ℕ
drawn_octets seed from zero = []
drawn_octets seed from (suc count) = drawn_octets seed from count ++ word_octets (drawn_word seed (from + count))
