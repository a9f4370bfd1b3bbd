use Rattle.link_account.specs.declared.answer.Answer.TheVariants as answers
use Rattle.link_account.specs.Hear.{owing}
use Rattle.lapm_link.proofs.answering.Answering.on_disc.Goals as goal

pub returns-clause-becomes : goal.returns-clause-becomes
returns-clause-becomes c = λ a h.
    c.end.ensures.stands (owing (answers.Dm c.args.pf) a)
    (record { phase_is = h.phase_is; answers = h.answers; unlinked = c.owe.ensures.account a h.unlinked; terms_are = h.terms_are })
