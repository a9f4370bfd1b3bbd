use Rattle.modem_c.specs.Answers.{flag_of}
use Rattle.modem_c.specs.Links.{AnswersBusy}
use Rattle.modem_c.proofs.Linking.{linked}
use Rattle.modem_c.proofs.link.modem_link_set_busy.Goals as goal

pub returns : goal.returns
returns c =
    linked (λ code old new. AnswersBusy (flag_of c.args.busy) old new code) (Unit {0}) _ _ c.tell_busy-code.result c.tell_busy-code.type_inv
    c.in-Ok.ensures c.put_end.ensures c.tell_busy-code.ensures
