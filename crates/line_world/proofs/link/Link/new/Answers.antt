use Rattle.line_world.proofs.Cited.{subst, fresh, Setup, Stands}
use Rattle.line_world.proofs.link.Link.new.Goals as goal

pub returns-clause-stands : goal.returns-clause-stands
returns-clause-stands c = λ files. record {
  orig = subst (λ (s : Setup). Stands c.in_ok-new.field-0 files.orig (fresh s)) c.setup.ensures.value
      (c.in_ok-new.ensures.stands files.orig);
  answ = subst (λ (s : Setup). Stands c.in_ok-new-2.field-0 files.answ (fresh s)) c.setup-2.ensures.value
      (c.in_ok-new-2.ensures.stands files.answ);
}
