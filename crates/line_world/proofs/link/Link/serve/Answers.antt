use Rattle.line_world.proofs.Cited.{◌≡◌, Bool, ap, subst, ◌∙◌, breaks_of, busy_of, after_busy, asked, is_busy, is_released, Originator}
use Rattle.line_world.proofs.Cited.{Answerer, Stands}
use Rattle.line_world.proofs.link.Link.serve.Goals as goal

pub returns-clause-stands : goal.returns-clause-stands
returns-clause-stands c = λ files ends h.
    let script = c.args.script.now in
    let turn = c.args.turn in
    let released : c.is_released-released.result ≡ is_released ends.orig.phase = c.is_released-released.ensures
    ∙ ap is_released (c.phase.ensures files.orig ends.orig h.orig) in
    record {
      orig = subst (λ (r : Bool). Stands c.serve.new.station files.orig
          (asked turn r (breaks_of script Originator) (after_busy (is_busy turn (busy_of script Originator)) ends.orig))) released
          (c.serve.ensures.stands files.orig ends.orig h.orig);
      answ = subst (λ (r : Bool). Stands c.serve-2.new.station files.answ
          (asked turn r (breaks_of script Answerer) (after_busy (is_busy turn (busy_of script Answerer)) ends.answ))) released
          (c.serve-2.ensures.stands files.answ ends.answ h.answ);
    }
