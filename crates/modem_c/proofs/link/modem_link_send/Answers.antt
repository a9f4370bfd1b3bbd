use Rattle.modem_c.proofs.Linking.{spoken-within}
use Rattle.modem_c.proofs.link.modem_link_send.Goals as goal

pub returns-clause-within : goal.returns-clause-within
returns-clause-within c = spoken-within _ _ _ _ _ _ _ _ c.speak-end.ensures
