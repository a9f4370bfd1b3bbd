use Rattle.std.proofs.Common.{sym, ◌∙◌, false}
use Rattle.lapm_link.proofs.Saying.{gives_where, polled}
use Rattle.lapm_link.proofs.connected.Connected.say_poll.Goals as goal

pub returns-clause-gives : goal.returns-clause-gives
returns-clause-gives c = λ a h.
    gives_where a.wait.poll _ a (sym h.beside.waits.poll_is ∙ c.if-not-self.false)
    (c.say_ready.ensures.says (record a { wait = record a.wait { poll = false } })
    (record { sender_stands = h.sender_stands; beside = polled h.beside }))
