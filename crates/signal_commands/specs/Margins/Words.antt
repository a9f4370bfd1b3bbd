-- The words of a command line, as octets.
use Rattle.std.specs.Prelude.{ℕ, List, [], ◌∷◌, Option, Some, None}
use Rattle.signal_commands.specs.declared.margin.words.MarginWords.{MarginWords}

-- the names of a recording, and of the octets that it is held against
pub record MarginNames : Type 0 where
  pub rec : List ℕ
  pub file : List ℕ

-- the words behind `margin`: REC FILE, and no others
abbrev pub names_of : List (List ℕ) → Option MarginNames
names_of (rec ∷ file ∷ []) = Some (record { rec = rec; file = file })
names_of words = None

abbrev pub named : MarginWords → MarginNames
named w = record { rec = w.rec.now; file = w.file.now }

-- both are read
abbrev pub inputs_of : MarginNames → List (List ℕ)
inputs_of n = n.rec ∷ n.file ∷ []
