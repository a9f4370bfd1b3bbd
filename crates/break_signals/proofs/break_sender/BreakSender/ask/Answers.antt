use Rattle.std.proofs.Common.{◌≤◌, ◌&&◌, not, subst, sym, ◌∙◌}
use Rattle.std.proofs.lemmas.Bool.{le-leb}
use Rattle.break_signals.specs.Keeping.{StandsOwn}
use Rattle.break_signals.proofs.Waiting.{none-waits}
use Rattle.break_signals.proofs.break_sender.BreakSender.ask.Goals as goal

pub returns-clause-answer : goal.returns-clause-answer
returns-clause-answer c = λ b stands.
    let stood = subst (λ sender. StandsOwn sender b) (sym c.self.view_is) stands in
    let none = none-waits c.self.inside.waiting b (sym c.is_some.ensures ∙ c.if-is_some.false) stood.waits in
    let over = le-leb b.rest c.args.turn (subst (λ rest. rest ≤ c.args.turn) stood.rest_is c.if-turn-self.false) in
    sym (λ k. not (none k) && over k)
