-- What a text begins with, and what stands behind that.
use Rattle.std.specs.Prelude.{ℕ, Bool, not, nat_eq, nat_lt, if◌then◌else◌, List, [], ◌∷◌, Option, Some, None}
use Rattle.std.specs.Option.{option_map, option_and_then}
use Rattle.noise_script.specs.Numbers.{is_digit, plain_number}

-- what stands behind these octets, where the text begins with them
abbrev pub behind : List ℕ → List ℕ → Option (List ℕ)
behind [] text = Some text
behind (x ∷ label) [] = None
behind (x ∷ label) (y ∷ text) = if nat_eq x y then behind label text else None

-- an octet of a word
abbrev pub is_no_space : ℕ → Bool
is_no_space octet = not (nat_eq octet 32)

-- an octet of a line
abbrev pub is_no_feed : ℕ → Bool
is_no_feed octet = not (nat_eq octet 10)

-- the octets at the front that pass a test, and those behind them
abbrev pub front_of : (ℕ → Bool) → List ℕ → List ℕ
front_of test [] = []
front_of test (x ∷ text) = if test x then x ∷ front_of test text else []

abbrev pub rest_of : (ℕ → Bool) → List ℕ → List ℕ
rest_of test [] = []
rest_of test (x ∷ text) = if test x then rest_of test text else x ∷ text

-- the first that there is
abbrev pub first_of : Option (List ℕ) → Option (List ℕ) → Option (List ℕ)
first_of None other = other
first_of (Some rest) other = Some rest

-- a number below a bound
abbrev pub if_below : ℕ → ℕ → Option ℕ
if_below bound n = if nat_lt n bound then Some n else None

-- the number at the front of a text, in decimal digits without leading zeros, and what stands behind its digits
abbrev pub number_at : ℕ → List ℕ → Option (ℕ × List ℕ)
number_at bound text = option_map (λ n. (n, rest_of is_digit text)) (option_and_then (if_below bound) (plain_number (front_of is_digit text)))

-- what stands behind a number
abbrev pub behind_number : ℕ → List ℕ → Option (List ℕ)
behind_number bound text = option_map (λ read. read.1) (number_at bound text)

-- what stands behind a number behind its label
abbrev pub behind_labelled : List ℕ → ℕ → List ℕ → Option (List ℕ)
behind_labelled label bound text = option_and_then (behind_number bound) (behind label text)
