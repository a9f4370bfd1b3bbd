-- The words of the command, as octets.
use Rattle.std.specs.Prelude.{ℕ, List, [], ◌∷◌, Option, Some, None}

-- the word behind `pickup`, REC, and no others: the recording's name
abbrev pub recording_named : List (List ℕ) → Option (List ℕ)
recording_named (rec ∷ []) = Some rec
recording_named words = None
