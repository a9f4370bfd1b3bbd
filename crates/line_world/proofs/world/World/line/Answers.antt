use Rattle.line_world.proofs.Lending.{passed-so, passed-too}
use Rattle.line_world.proofs.world.World.line.Goals as goal

pub returns-clause-passed : goal.returns-clause-passed
returns-clause-passed c = λ files ts ends h.
    passed-so c.args.self.now.lines c.args.self.now.script c.args.role ts c.line.result.now h.lines c.line.ensures

pub returns-clause-arrived : goal.returns-clause-arrived
returns-clause-arrived c = λ ts h. passed-too c.args.self.now.lines c.args.self.now.script c.args.role ts c.line.result.now h c.line.ensures
