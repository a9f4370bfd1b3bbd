-- The mode in which the modem of an end sends.
use Rattle.scramblers.specs.declared.mode.Mode.{Mode}
use Rattle.scramblers.specs.declared.mode.Mode.TheVariants.{Call, Answer}
use Rattle.shared_terms.specs.declared.role.Role.{Role}
use Rattle.shared_terms.specs.declared.role.Role.TheVariants.{Originator, Answerer}

-- the originator called
abbrev pub mode_of : Role → Mode
mode_of Originator = Call
mode_of Answerer = Answer
