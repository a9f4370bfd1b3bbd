-- Files kept in a tree map, as a finite map from the octets of names.
use Rattle.std.specs.Prelude.{ℕ, List, [], ◌∷◌, Vec, string_bytes, String}
use Rattle.std.specs.FinMap as finite
use Rattle.outside_calls.specs.Folder.{Files}

-- the entries with their names and contents as octets
abbrev pub plain_entries : {A B : Type 0} → List (String A × Vec ℕ B) → List (List ℕ × List ℕ)
plain_entries [] = []
plain_entries (e ∷ es) = (string_bytes e.0, e.1.items) ∷ plain_entries es

-- the map that the entries make
abbrev pub files_of : {A B : Type 0} → List (String A × Vec ℕ B) → Files
files_of es = finite.from_entries (plain_entries es)
