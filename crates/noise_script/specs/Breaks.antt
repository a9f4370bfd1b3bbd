-- Break lines in the order in which they are asked for.
use Rattle.std.specs.Prelude.{◌≡◌, ℕ, ◌≤◌, nat_eq, nat_lt, if◌then◌else◌, List, [], ◌∷◌, Option, filter, map, slice_get}
use Rattle.shared_terms.specs.declared.role.Role.{Role}
use Rattle.shared_terms.specs.Role.{same_role}
use Rattle.noise_script.specs.declared.entry.Break.{Break}

-- a line behind all whose turn isn't later
abbrev pub placed : Break → List Break → List Break
placed line [] = line ∷ []
placed line (next ∷ lines) = if nat_lt line.turn next.turn then line ∷ next ∷ lines else next ∷ placed line lines

abbrev pub placed_each : List Break → List Break → List Break
placed_each lines [] = lines
placed_each lines (line ∷ more) = placed_each (placed line lines) more

-- the lines of a text in rising order of turn, those of one turn in the text's order
abbrev pub in_order : List Break → List Break
in_order lines = placed_each [] lines

-- each line's turn isn't before that
abbrev pub AreFrom : ℕ → List Break → Type 0
AreFrom turn [] = Unit {0}
AreFrom turn (line ∷ lines) = (turn ≤ line.turn) × AreFrom turn lines

-- the turns rise, or stay
abbrev pub AreRising : List Break → Type 0
AreRising [] = Unit {0}
AreRising (line ∷ lines) = AreFrom line.turn lines × AreRising lines

-- the lines of a turn
abbrev pub of_turn : ℕ → List Break → List Break
of_turn turn lines = filter (λ line. nat_eq line.turn turn) lines

-- lines in rising order of turn: those of each turn are the text's, in the text's order
pub record IsOrder (lines ordered : List Break) : Type 0 where
  pub rising : AreRising ordered
  pub same : (turn : ℕ) → of_turn turn ordered ≡ of_turn turn lines

-- the turn and the length of the break of a role that has that index, counted from 0
abbrev pub break_in : List Break → Role → ℕ → Option (ℕ × ℕ)
break_in lines role index = slice_get (map (λ line. (line.turn, line.length)) (filter (λ line. same_role line.role role) lines)) index
