use Rattle.lapm_link.proofs.Names.{◌≡◌, sym, ap, subst, ◌∙◌, true, Speaks, trying, Setup, is_originator}
use Rattle.link_account.specs.declared.phase.Phase.TheVariants as phases
use Rattle.link_account.specs.Speak.{speak_in}
use Rattle.lapm_link.proofs.Saying.{releases}
use Rattle.lapm_link.proofs.connected.Connected.speak.Goals as goal

pub returns-then-is_originator-clause-speaks : goal.returns-then-is_originator-clause-speaks
returns-then-is_originator-clause-speaks c = λ a h.
    let role : is_originator a.setup.role ≡ true =
    ap (λ (s : Setup). is_originator s.role) (sym h.beside.setup_is) ∙ (sym c.is_originator.ensures ∙ c.if-is_originator.true) in
    subst (λ p. Speaks (speak_in p c.args.turn c.args.release a) a c.args.sent.now c.speak.new.sent c.speak.result) (sym h.beside.phase_is)
    (releases c.args.sent.now c.speak.new.sent c.speak.result c.args.turn c.args.release a c.if-release.true role
    (c.speak.ensures.speaks (trying phases.Releasing c.args.turn a) (c.release.ensures a h)))
