-- Which names are apart.
use Rattle.std.specs.Prelude.{ℕ, Bool, true, not, ◌&&◌, List, [], ◌∷◌, Option, Some, None, if◌then◌else◌}
use Rattle.std.specs.Str.{bytes_eq}

-- the name is none of these
abbrev pub is_none_of : List ℕ → List (List ℕ) → Bool
is_none_of name [] = true
is_none_of name (first ∷ others) = not (bytes_eq name first) && is_none_of name others

-- no two outputs have one name, and no output has an input's name
abbrev pub are_apart : List (List ℕ) → List (List ℕ) → Bool
are_apart inputs [] = true
are_apart inputs (name ∷ others) = is_none_of name inputs && is_none_of name others && are_apart inputs others

-- what words name, where their names are apart
abbrev pub where_apart : {N : Type 0} → List (List ℕ) → List (List ℕ) → N → Option N
where_apart inputs outputs named = if are_apart inputs outputs then Some named else None
