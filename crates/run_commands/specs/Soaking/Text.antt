-- The text of a soak's script: three turns there and five back, noise on every symbol, and twelve lost slots at most.
use Rattle.std.specs.Prelude.{ℕ, zero, suc, List, [], ◌∷◌, ◌++◌, codes, decimal}
use Rattle.shared_terms.specs.declared.role.Role.{Role}
use Rattle.shared_terms.specs.declared.role.Role.TheVariants.{Originator, Answerer}
use Rattle.noise_script.specs.Noisy.{text_of}
use Rattle.run_commands.specs.Soaking.Soak.{role_in_turn, turn_lost}

abbrev pub delay_line : List ℕ
delay_line = codes "delay 3 5"

abbrev pub noise_head : Role → List ℕ
noise_head Originator = codes "noise orig 0 4294967295 500 "
noise_head Answerer = codes "noise answ 0 4294967295 500 "

abbrev pub noise_line : Role → ℕ → List ℕ
noise_line role seed = noise_head role ++ decimal seed

abbrev pub lose_head : Role → List ℕ
lose_head Originator = codes "lose orig "
lose_head Answerer = codes "lose answ "

abbrev pub lose_line : Role → ℕ → List ℕ
lose_line role turn = lose_head role ++ (decimal turn ++ codes " 1")

-- the first so many lines on losses
abbrev pub lose_lines : ℕ → ℕ → List (List ℕ)
lose_lines seed zero = []
lose_lines seed (suc n) = lose_lines seed n ++ lose_line (role_in_turn n) (turn_lost seed n) ∷ []

-- all lines, with so many losses
abbrev pub soak_lines : ℕ → ℕ → List (List ℕ)
soak_lines seed losses = delay_line ∷ noise_line Originator seed ∷ noise_line Answerer seed ∷ lose_lines seed losses

-- the text, with twelve losses
unfoldable pub soak_text : ℕ → List ℕ
soak_text seed = text_of (soak_lines seed 12)
