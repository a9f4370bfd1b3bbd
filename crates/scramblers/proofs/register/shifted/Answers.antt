use Rattle.scramblers.proofs.Names.{rules}
use Rattle.scramblers.proofs.Registers.{Holds-shifted}
use Rattle.scramblers.proofs.register.shifted.Goals as goal

pub returns : goal.returns
returns c = λ line h. Holds-shifted c.args.register c.from.result line c.args.bit (search rules) (search rules) h
