use Rattle.signal_commands.proofs.Names.{◌++◌, Bool, List, subst, Heard, PartlyHeard}
use Rattle.std.proofs.Common.{OnOk, OnErr}
use Rattle.signal_commands.proofs.pickup.player.hear_taken.Goals as goal

pub returns-clause-ok : goal.returns-clause-ok
returns-clause-ok g c start bits h =
    subst (λ (more : List Bool). OnOk c.hear_low.result
    (Heard start (g.F.Folder.state c.hear_low.new.folder) c.hear_low.new.self (bits ++ more)))
    c.taken_bits-octet.ensures.bits (c.hear_low.ensures.ok start bits h)

pub returns-clause-err : goal.returns-clause-err
returns-clause-err g c start bits h =
    subst (λ (more : List Bool). OnErr c.hear_low.result
    (PartlyHeard start (g.F.Folder.state c.hear_low.new.folder) c.args.listener.now.sender (bits ++ more)))
    c.taken_bits-octet.ensures.bits (c.hear_low.ensures.err start bits h)
