-- The words of a command line, as octets.
use Rattle.std.specs.Prelude.{ℕ, List, [], ◌∷◌, Option, Some, None, if◌then◌else◌, codes}
use Rattle.std.specs.Option.{option_map}
use Rattle.std.specs.Str.{bytes_eq}
use Rattle.scramblers.specs.declared.mode.Mode.{Mode}
use Rattle.scramblers.specs.declared.mode.Mode.TheVariants.{Call, Answer}
use Rattle.recordings.specs.declared.rate.Rate.{Rate}
use Rattle.command_base.specs.Apart.{are_apart}
use Rattle.signal_commands.specs.declared.encode.words.EncodeWords.{EncodeWords}

-- the rate, the mode and the names of a recording that is to be made
pub record EncodeNames : Type 0 where
  pub rate : Rate
  pub mode : Mode
  pub file : List ℕ
  pub rec : List ℕ

-- the mode that a word names
abbrev pub mode_named : List ℕ → Option Mode
mode_named word =
    if bytes_eq word (codes "call") then Some Call
    else if bytes_eq word (codes "answer") then Some Answer
    else None

-- the name that is read, and the one that is written
abbrev pub inputs_of : EncodeNames → List (List ℕ)
inputs_of n = n.file ∷ []

abbrev pub outputs_of : EncodeNames → List (List ℕ)
outputs_of n = n.rec ∷ []

-- the words behind the command of that rate: MODE FILE REC, and no others
abbrev pub names_of : Rate → List (List ℕ) → Option EncodeNames
names_of rate (mode ∷ file ∷ rec ∷ []) =
    if are_apart (file ∷ []) (rec ∷ []) then option_map (λ m. record { rate = rate; mode = m; file = file; rec = rec }) (mode_named mode) else None
names_of rate words = None

abbrev pub named : EncodeWords → EncodeNames
named w = record { rate = w.rate; mode = w.mode; file = w.file.now; rec = w.rec.now }
