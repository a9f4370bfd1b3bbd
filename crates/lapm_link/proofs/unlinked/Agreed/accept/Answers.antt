use Rattle.link_account.specs.declared.answer.Answer.TheVariants as answers
use Rattle.link_account.specs.Hear.{owing}
use Rattle.lapm_link.proofs.unlinked.Agreed.accept.Goals as goal

pub returns-clause-links : goal.returns-clause-links
returns-clause-links c = λ a h t. c.connect.ensures.links (owing (answers.Ua c.args.pf) a) (c.owe.ensures.account a h) t
