-- The words of a command line, as octets.
use Rattle.std.specs.Prelude.{ℕ, List, [], ◌∷◌, Option, None}
use Rattle.recordings.specs.declared.rate.Rate.{Rate}
use Rattle.command_base.specs.Apart.{where_apart}
use Rattle.signal_commands.specs.declared.decode.words.DecodeWords.{DecodeWords}

-- the rate and the names of a recording that is to be decoded
pub record DecodeNames : Type 0 where
  pub rate : Rate
  pub rec : List ℕ
  pub file : List ℕ

-- the name that is read, and the one that is written
abbrev pub inputs_of : DecodeNames → List (List ℕ)
inputs_of n = n.rec ∷ []

abbrev pub outputs_of : DecodeNames → List (List ℕ)
outputs_of n = n.file ∷ []

-- the words behind the command of that rate: REC FILE, and no others
abbrev pub names_of : Rate → List (List ℕ) → Option DecodeNames
names_of rate (rec ∷ file ∷ []) = where_apart (rec ∷ []) (file ∷ []) (record { rate = rate; rec = rec; file = file })
names_of rate words = None

abbrev pub named : DecodeWords → DecodeNames
named w = record { rate = w.rate; rec = w.rec.now; file = w.file.now }
