use Rattle.std.proofs.Common.{◌≡◌, drop}
use Rattle.noise_script.specs.Breaks.{break_in}
use Rattle.noise_script.proofs.script.break_at.Given as goal

abbrev pub invariant-loop-line : goal.invariant-loop-line
invariant-loop-line l = break_in l.lines l.role l.index ≡ break_in (drop l.line-index l.lines) l.role l.ahead
