-- The words of the command, as octets.
use Rattle.std.specs.Prelude.{ℕ, List, [], ◌∷◌, Option, Some, None}

-- the word behind `xid`, HEX, and no others: the digits
abbrev pub digits_named : List (List ℕ) → Option (List ℕ)
digits_named (digits ∷ []) = Some digits
digits_named words = None
