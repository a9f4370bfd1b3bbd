use Rattle.std.proofs.Common.{◌≡◌, ◌++◌, Some, sym, ap, pos, ◌∙◌}
use Rattle.std.specs.Prelude.{◌<ℤ◌}
use Rattle.gateway.specs.Given.{heard}
use Rattle.modem_c.specs.Answered.{AnswersKind}
use Rattle.modem_c.specs.Deframers.{Deframes, Pushed}
use Rattle.modem_c.specs.Led.{deframer_in}
use Rattle.modem_c.proofs.CodesBack.{handed_on}
use Rattle.modem_c.proofs.deframer.modem_deframer_push.Goals as goal
use Rattle.modem_c.proofs.deframer.modem_deframer_push.Goals.{After-put}

led : (c : After-put) → c.args.handle.now.value ≡ Some c.as_mut.result.now
led c = c.in-Some.ensures.value ∙ ap Some (sym c.as_mut.ensures.value)

pub returns-clause-deframes : goal.returns-clause-deframes
returns-clause-deframes c = λ sender check past.
    handed_on (λ m n code. Deframes sender check m past
    → Deframes sender check n (past ++ heard c.push-code.new.found.read c.args.bits.now)) c.push-code.result c.push-code.type_inv (led c)
    c.put.ensures
    (c.push-code.ensures.deframes sender check past)

pub returns-clause-pushed : goal.returns-clause-pushed
returns-clause-pushed c = λ sender check past.
    handed_on (λ m n code. Deframes sender check m past
    → Pushed sender check past c.args.bits.now c.push-code.new.found c.args.room.now c.push-code.new.room code) c.push-code.result
    c.push-code.type_inv (led c)
    c.put.ensures (c.push-code.ensures.pushed sender check past)

pub returns-clause-kind : goal.returns-clause-kind
returns-clause-kind c =
    handed_on (λ m n code. AnswersKind m (deframer_in m) code) c.push-code.result c.push-code.type_inv (led c) c.put.ensures
    c.push-code.ensures.kind

pub returns-clause-none : goal.returns-clause-none
returns-clause-none c = λ e. c.push-code.ensures.none (ap deframer_in (sym (led c)) ∙ e)

pub returns-clause-stays : goal.returns-clause-stays
returns-clause-stays c =
    handed_on (λ m n code. code <ℤ pos 0 → n ≡ m) c.push-code.result c.push-code.type_inv (led c) c.put.ensures (λ h. ap Some
    (c.push-code.ensures.stays h))
