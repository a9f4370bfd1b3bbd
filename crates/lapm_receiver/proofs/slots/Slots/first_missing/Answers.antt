use Rattle.lapm_receiver.proofs.Names.{◌<◌, length, ◌∙◌, arith}
use Rattle.lapm_receiver.proofs.Rows.{none-found, found-from, found-small, seen-rising}
use Rattle.lapm_receiver.proofs.slots.Slots.first_missing.Goals as goal

pub returns-in_err-start-clause-missing : goal.returns-in_err-start-clause-missing
returns-in_err-start-clause-missing c = c.from_residual.ensures ∙ none-found c.args.low _ _ _ _ c.self.view_is c.in_err-start.ensures.place

pub returns-in_err-start-clause-rising : goal.returns-in_err-start-clause-rising
returns-in_err-start-clause-rising c = seen-rising _ _ _ _ c.self.view_is

pub returns-clause-missing : goal.returns-clause-missing
returns-clause-missing c = c.least_missing.ensures ∙ found-from c.args.low _ _ _ _ _ c.self.view_is c.in_ok-start.ensures.place

pub returns-clause-bound : goal.returns-clause-bound
returns-clause-bound c =
    let room : length c.self.inside.ring.items < 256 = omega (arith, c.self.invariant.0, c.self.invariant.1) in
    found-small c.args.low _ _ _ _ c.least_missing.ensures c.self.invariant.2 room

pub returns-clause-rising : goal.returns-clause-rising
returns-clause-rising c = seen-rising _ _ _ _ c.self.view_is
