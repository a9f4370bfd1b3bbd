-- Exclusive or.
use Rattle.std.specs.Prelude.{Bool, not}
use Rattle.std.specs.Bool.{beq}

-- whether exactly one of the two is true
abbrev pub xor : Bool → Bool → Bool
xor a b = not (beq a b)
