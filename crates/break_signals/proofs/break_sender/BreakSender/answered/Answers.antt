use Rattle.std.proofs.Common.{◌≡◌, ◌%◌, ◌+◌, length, arith, refl, subst, sym, ◌∙◌}
use Rattle.std.proofs.lemmas.Bool.{eq-eqb}
use Rattle.break_signals.specs.Keeping.{StandsOwn}
use Rattle.break_signals.proofs.Waiting.{one-more, it-waits}
use Rattle.break_signals.proofs.break_sender.BreakSender.answered.Goals as goal

pub returns-then-number-self : goal.returns-then-number-self
returns-then-number-self c = λ b stands.
    let number = c.args.number in
    let stood = subst (λ sender. StandsOwn sender b) (sym c.self.view_is) stands in
    let more : length b.lengths ≡ b.answered + 1 =
    one-more c.self.inside.waiting b (sym c.is_some.ensures ∙ c.if-is_some.true) stood.waits in
    let same : number ≡ b.answered % 2 = c.if-number-self.true ∙ stood.number_is in
    rw (it-waits b more, eq-eqb number (b.answered % 2) same)
    (record { number_is = omega (arith, same); waits = (more, refl); rest_is = refl })
