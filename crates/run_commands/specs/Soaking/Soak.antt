-- The two files and the script of a soak.
use Rattle.std.specs.Prelude.{ℕ, zero, suc, ◌+◌, ◌*◌, ◌%◌, if◌then◌else◌, nat_eq, List, [], ◌∷◌, ◌++◌}
use Rattle.shared_terms.specs.declared.role.Role.{Role}
use Rattle.shared_terms.specs.declared.role.Role.TheVariants.{Originator, Answerer}
use Rattle.noise_script.specs.declared.entry.Loss.{Loss}
use Rattle.noise_script.specs.declared.entry.Noise.{Noise}
use Rattle.noise_script.specs.Script.{ScriptValue}
use Rattle.noise_script.specs.Noisy.{noisy_script}
use Rattle.run_commands.specs.Soaking.Drawing.{drawn_word, drawn_octets}

-- the words of a file
abbrev pub file_words : ℕ
file_words = 16384

-- a role's file: the originator's words come first
abbrev pub soak_file : ℕ → Role → List ℕ
soak_file seed Originator = drawn_octets seed 0 file_words
soak_file seed Answerer = drawn_octets seed file_words file_words

-- the roles in turn, the originator first
abbrev pub role_in_turn : ℕ → Role
role_in_turn n = if nat_eq (n % 2) 0 then Originator else Answerer

-- the turn in which the slot of that number is lost, by the word behind those of the files
abbrev pub turn_lost : ℕ → ℕ → ℕ
turn_lost seed n = 40 + drawn_word seed (2 * file_words + n) % 400

abbrev pub soak_loss : ℕ → ℕ → Loss
soak_loss seed n = record { role = role_in_turn n; from = turn_lost seed n; count = 1 }

-- the first so many losses
abbrev pub soak_losses : ℕ → ℕ → List Loss
soak_losses seed zero = []
soak_losses seed (suc n) = soak_losses seed n ++ soak_loss seed n ∷ []

-- noise on every symbol that a role sends
abbrev pub soak_noise : ℕ → Role → Noise
soak_noise seed role = record { role = role; from = 0; count = 4294967295; amplitude = 500; seed = seed }

-- The script: three turns there and five back, noise both ways, and twelve lost slots at most. All else is as where nothing is said.
unfoldable pub soak_script : ℕ → ScriptValue
soak_script seed = noisy_script 3 5 (soak_noise seed Originator ∷ soak_noise seed Answerer ∷ []) (soak_losses seed 12)
