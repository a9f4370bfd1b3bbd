-- For which past a scrambler and a descrambler stand, by what they keep: a register.
use Rattle.std.specs.Prelude.{ℕ, Bool, List}
use Rattle.scramblers.specs.Scrambles.{Scrambles, Descrambles}
use Rattle.scramblers.specs.Register.{Holds}

-- a scrambler with this register has turned the input into the line
pub record ScramblerStands (tap register : ℕ) (input line : List Bool) : Type 0 where
  pub scrambled : Scrambles tap input line
  pub holds : Holds register line

-- a descrambler with this register has turned the line into the output
pub record DescramblerStands (tap register : ℕ) (line output : List Bool) : Type 0 where
  pub descrambled : Descrambles tap line output
  pub holds : Holds register line
