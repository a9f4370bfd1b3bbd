-- The texts, whose numbers are written out.
use Rattle.command_laws.proofs.Names.{refl}
use Rattle.std.specs.Fmt.{digits}
use Rattle.command_laws.specs.Worked.RunTraces.{PlainTrace, BreakLine7, BreakLine8, BusyLine10}

pub plain_trace : PlainTrace
unfolding digits
plain_trace = refl

pub break_asked : BreakLine7
unfolding digits
break_asked = refl

pub break_given : BreakLine8
unfolding digits
break_given = refl

pub busy_line : BusyLine10
unfolding digits
busy_line = refl
