use Rattle.std.proofs.Common.{◌≡◌, true, arith, refl, subst, sym, ap, ◌∙◌}
use Rattle.std.proofs.lemmas.Bool.{eq-eqb}
use Rattle.shared_terms.specs.Timer.{expires}
use Rattle.break_signals.specs.Keeping.{StandsOwn, StandsWaiting}
use Rattle.break_signals.proofs.Waiting.{it-waits}
use Rattle.break_signals.proofs.break_sender.BreakSender.tick.Goals as goal

pub returns-then-waiting-from-clause-answer : goal.returns-then-waiting-from-clause-answer
returns-then-waiting-from-clause-answer c = λ b stands.
    let stood = subst (λ sender. StandsOwn sender b) (sym c.self.view_is) stands in
    let waits = subst (λ waiting. StandsWaiting waiting b) c.in-Some.is stood.waits in
    let expired : expires b.set c.args.period c.args.turn ≡ true =
    ap (λ set. expires set c.args.period c.args.turn) waits.3 ∙ sym c.is_expired.ensures ∙ c.if-is_expired.true in
    let spent : b.count ≡ c.args.tries = omega (arith, waits.4, c.if-waiting-from.true, c.from.ensures, c.ranges.tries.fits) in
    rw (it-waits b waits.0, expired, eq-eqb b.count c.args.tries spent) refl
