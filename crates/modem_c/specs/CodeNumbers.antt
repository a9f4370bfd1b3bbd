-- The numbers that calls return, and those of octets and bits for which they want room, as C knows them.
use Rattle.std.specs.Prelude.{ℕ, ℤ, pos, negsuc}

abbrev pub done : ℤ
done = pos 0

abbrev pub nothing : ℤ
nothing = pos 1

abbrev pub full : ℤ
full = pos 2

abbrev pub lost : ℤ
lost = pos 3

abbrev pub broken : ℤ
broken = pos 4

abbrev pub no_memory : ℤ
no_memory = negsuc 0  -- -1

abbrev pub empty : ℤ
empty = negsuc 1  -- -2

abbrev pub wrong_kind : ℤ
wrong_kind = negsuc 2  -- -3

abbrev pub bad_argument : ℤ
bad_argument = negsuc 3  -- -4

abbrev pub order : ℤ
order = negsuc 4  -- -5

abbrev pub late : ℤ
late = negsuc 5  -- -6

-- where a kind of frames has no N(S) or no N(R)
abbrev pub no_number : ℕ
no_number = 255

-- the most octets of information, and of a frame with its check; the bits that a frame alone needs room for; the octets of an offer
abbrev pub most_information : ℕ
most_information = 1024

abbrev pub most_octets : ℕ
most_octets = 1031

abbrev pub most_bits : ℕ
most_bits = 10460

abbrev pub offer_octets : ℕ
offer_octets = 23
