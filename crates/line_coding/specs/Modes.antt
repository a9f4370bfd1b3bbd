-- The scrambler and the descrambler of either mode.
use Rattle.std.specs.Prelude.{Bool, List}
use Rattle.scramblers.specs.declared.mode.Mode.{Mode}
use Rattle.scramblers.specs.declared.mode.Mode.TheVariants.{Call, Answer}
use Rattle.scramblers.specs.Mode.{tap_of}
use Rattle.scramblers.specs.Machines.{ScramblerStands, DescramblerStands}
use Rattle.line_coding.specs.declared.scrambling.ModeScrambler.{ModeScrambler}
use Rattle.line_coding.specs.declared.scrambling.ModeScrambler.TheVariants as scramblers
use Rattle.line_coding.specs.declared.scrambling.ModeDescrambler.{ModeDescrambler}
use Rattle.line_coding.specs.declared.scrambling.ModeDescrambler.TheVariants as descramblers

-- a scrambler of this mode has turned the input into the line
abbrev pub ScramblesAs : Mode → ModeScrambler → List Bool → List Bool → Type 0
ScramblesAs Call (scramblers.Call s) input line = ScramblerStands (tap_of Call) s input line
ScramblesAs Answer (scramblers.Answer s) input line = ScramblerStands (tap_of Answer) s input line
ScramblesAs Call (scramblers.Answer s) input line = ⊥
ScramblesAs Answer (scramblers.Call s) input line = ⊥

-- a descrambler of this mode has turned the line into the output
abbrev pub DescramblesAs : Mode → ModeDescrambler → List Bool → List Bool → Type 0
DescramblesAs Call (descramblers.Call d) line output = DescramblerStands (tap_of Call) d line output
DescramblesAs Answer (descramblers.Answer d) line output = DescramblerStands (tap_of Answer) d line output
DescramblesAs Call (descramblers.Answer d) line output = ⊥
DescramblesAs Answer (descramblers.Call d) line output = ⊥
