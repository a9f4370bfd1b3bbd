use Rattle.rate_4800.proofs.Names.{sym, ap, arith, ◌≡◌, point_of}
use Rattle.rate_4800.proofs.code.Rate4800TrellisCode14.point.Goals as goal

pub returns-in-0 : goal.returns-in-0
returns-in-0 c = sym (ap point_of c.in-0.is)

pub returns-in-1 : goal.returns-in-1
returns-in-1 c = sym (ap point_of c.in-1.is)

pub returns-in-2 : goal.returns-in-2
returns-in-2 c = sym (ap point_of c.in-2.is)

pub returns-in_default : goal.returns-in_default
returns-in_default c = let three : c.args.label ≡ 3 = omega (arith, c.requires, c.in_default) in sym (ap point_of three)
