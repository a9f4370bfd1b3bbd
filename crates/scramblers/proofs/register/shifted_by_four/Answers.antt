use Rattle.scramblers.proofs.Names.{rules, ◌≡◌}
use Rattle.scramblers.proofs.Registers.{Holds-four}
use Rattle.scramblers.proofs.register.shifted_by_four.Goals as goal

pub returns : goal.returns
returns c = λ line h.
    let same : c.from.result ≡ c.args.four = search rules in
    rw same (Holds-four c.args.register c.args.four line (search rules) c.requires h)
