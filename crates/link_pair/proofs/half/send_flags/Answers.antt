use Rattle.link_pair.proofs.Idling.{flags_on, flags-put}
use Rattle.link_pair.proofs.half.send_flags.Goals as goal

pub returns : goal.returns
returns c = λ channel links streams h e.
    c.send.ensures.waits channel links streams (flags_on channel.dlci) h (flags-put channel.dlci c.args.dlci e)
