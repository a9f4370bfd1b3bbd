-- The words of the command, as octets.
use Rattle.std.specs.Prelude.{ℕ, List, [], ◌∷◌, Option, None}
use Rattle.noise_script.specs.Numbers.{plain_number}

-- the word behind `soak`, SEED, and no others: the seed
abbrev pub seed_named : List (List ℕ) → Option ℕ
seed_named (seed ∷ []) = plain_number seed
seed_named words = None
