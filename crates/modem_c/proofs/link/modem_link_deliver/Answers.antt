use Rattle.std.proofs.Common.{◌≡◌}
use Rattle.modem_c.specs.Links.{AnswersDelivery}
use Rattle.modem_c.proofs.Linking.{delivered-within, linked}
use Rattle.modem_c.proofs.link.modem_link_deliver.Goals as goal

pub returns-clause-within : goal.returns-clause-within
returns-clause-within c = delivered-within _ _ _ _ _ _ c.deliver-code.ensures

pub returns-clause-answers : goal.returns-clause-answers
returns-clause-answers c =
    linked (λ code old new. AnswersDelivery old new c.args.room.now c.deliver-code.new.room c.deliver-code.new.taken code)
    ((c.deliver-code.new.taken ≡ 0) × (c.deliver-code.new.room ≡ c.args.room.now)) _ _ c.deliver-code.result c.deliver-code.type_inv
    c.in-Ok.ensures c.put_end.ensures c.deliver-code.ensures
