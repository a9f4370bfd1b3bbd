-- For which past a turner and an unturner stand, by what they keep: the latest number of the line.
use Rattle.std.specs.Prelude.{◌≡◌, ℕ, ◌%◌, List, length, sum}
use Rattle.trellis_tables.specs.Differential.Turned.{turned, unturned, before}

-- a turner with this latest number has turned q into y
pub record TurnerStands (latest : ℕ) (q y : List ℕ) : Type 0 where
  pub turned_is : y ≡ turned q
  pub latest_is : latest ≡ sum q % 4

-- an unturner with this latest number has turned y back into q
pub record UnturnerStands (latest : ℕ) (y q : List ℕ) : Type 0 where
  pub unturned_is : q ≡ unturned y
  pub latest_is : latest ≡ before y (length y)
