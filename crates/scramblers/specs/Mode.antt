-- The scrambler that each mode sends with.
use Rattle.std.specs.Prelude.{ℕ}
use Rattle.scramblers.specs.declared.mode.Mode.{Mode}
use Rattle.scramblers.specs.declared.mode.Mode.TheVariants.{Call, Answer}

-- the tap of the mode that sends
abbrev pub tap_of : Mode → ℕ
tap_of Call = 18
tap_of Answer = 5
