-- Numbers in decimal digits.
use Rattle.std.specs.Prelude.{ℕ, ◌+◌, ◌-◌, ◌*◌, ◌^◌, Bool, not, ◌&&◌, nat_eq, nat_le, nat_lt, if◌then◌else◌, ℤ, pos, neg_ℤ, List, [], ◌∷◌, length, Option, Some, None}
use Rattle.std.specs.List.{list_all}
use Rattle.noise_script.specs.Lines.{begins_with}

abbrev pub is_digit : ℕ → Bool
is_digit octet = nat_le 48 octet && nat_le octet 57

-- 1 to 20 decimal digits
abbrev pub is_number : List ℕ → Bool
is_number word = nat_le 1 (length word) && (nat_le (length word) 20 && list_all is_digit word)

-- what the digits stand for, each by its place
abbrev pub value_of : List ℕ → ℕ
value_of [] = 0
value_of (digit ∷ digits) = (digit - 48) * 10 ^ length digits + value_of digits

-- no zero stands before other digits
abbrev pub leads_well : List ℕ → Bool
leads_well word = not (nat_le 2 (length word) && begins_with 48 word)

-- 1 to 20 decimal digits without a zero before others, whose number fits 64 bits
abbrev pub plain_number : List ℕ → Option ℕ
plain_number word = if is_number word && (nat_lt (value_of word) (2 ^ 64) && leads_well word) then Some (value_of word) else None

-- a word without the minus sign before it
abbrev pub without_sign : List ℕ → List ℕ
without_sign [] = []
without_sign (octet ∷ word) = if nat_eq octet 45 then word else octet ∷ word

-- 1 to 20 decimal digits that may have a minus sign before them
abbrev pub is_signed : List ℕ → Bool
is_signed word = is_number (without_sign word)

abbrev pub signed_value_of : List ℕ → ℤ
signed_value_of word = if begins_with 45 word then neg_ℤ (pos (value_of (without_sign word))) else pos (value_of (without_sign word))
