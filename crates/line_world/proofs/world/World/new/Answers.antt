use Rattle.line_world.proofs.Cited.{refl, None, wire_of}
use Rattle.line_world.proofs.Lending.{ready-first}
use Rattle.line_world.proofs.world.World.new.Goals as goal

pub returns-clause-ready : goal.returns-clause-ready
returns-clause-ready c =
    ready-first _ c.is_in_limits.ensures c.in_ok-new.ensures.channel c.in_ok-new.ensures.kept
    (λ files. assumption (c.in_ok-new.ensures.after (wire_of c.args.script) files refl, c.in_ok-new-2.ensures 0 (λ role turn. None)))

pub returns-clause-world : goal.returns-clause-world
returns-clause-world c = λ files. record {
  modems = c.in_ok-new.ensures.after (wire_of c.args.script) files refl;
  lines = c.in_ok-new-2.ensures 0 (λ role turn. None);
}
