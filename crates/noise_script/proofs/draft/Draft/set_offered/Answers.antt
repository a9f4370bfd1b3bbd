use Rattle.std.proofs.Common.{sym, ap}
use Rattle.noise_script.specs.Draft.{with_offered}
use Rattle.noise_script.proofs.draft.Draft.set_offered.Goals as goal

pub returns-in-Originator : goal.returns-in-Originator
returns-in-Originator c = sym (ap (λ role. with_offered c.args.self.now role c.args.offered) c.in-Originator.is)
