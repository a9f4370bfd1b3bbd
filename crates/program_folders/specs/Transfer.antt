-- What a whole read or write does to the octets that a reader has left or a writer holds, where those are known.
use Rattle.std.specs.Prelude.{ℕ, ◌<◌, List, length, Option}
use Rattle.std.specs.Io.KnownBytes.{Appends, Consumes, IsAtEnd}
use Rattle.shared_terms.specs.Prefix.{IsPrefixOf}

-- a prefix of the piece was put behind what the writer held
abbrev pub AppendsPart : Option (List ℕ) → Option (List ℕ) → List ℕ → Type 0
AppendsPart old new piece = (part : List ℕ) × IsPrefixOf part piece × Appends old new part

-- The octets read are the reader's next ones, and fewer than there is room for only at its end.
pub record ReadsUp (old new : Option (List ℕ)) (room : ℕ) (octets : List ℕ) : Type 0 where
  pub next : Consumes old new octets
  pub whole : length octets < room → IsAtEnd new
