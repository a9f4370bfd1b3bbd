-- The words of a command line, as octets.
use Rattle.std.specs.Prelude.{ℕ, List, [], ◌∷◌, Option, None}
use Rattle.std.specs.Option.{option_map}
use Rattle.shared_terms.specs.declared.role.Role.{Role}
use Rattle.shared_terms.specs.Role.{role_named}
use Rattle.frame_commands.specs.declared.frames.words.FramesWords.{FramesWords}

-- the end that sent a stream of bits, and the stream's name
pub record FramesNames : Type 0 where
  pub sender : Role
  pub bits : List ℕ

-- the words behind `frames`: SENDER BITS, and no others
abbrev pub names_of : List (List ℕ) → Option FramesNames
names_of (sender ∷ bits ∷ []) = option_map (λ role. record { sender = role; bits = bits }) (role_named sender)
names_of words = None

abbrev pub named : FramesWords → FramesNames
named w = record { sender = w.sender; bits = w.bits.now }
