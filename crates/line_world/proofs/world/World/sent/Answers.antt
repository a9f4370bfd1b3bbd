use Rattle.line_world.proofs.Cited.{◌∷◌, wire_of, link_of, both_sent_by}
use Rattle.line_world.proofs.Lending.{sent-so}
use Rattle.line_world.proofs.world.World.sent.Goals as goal

pub returns-then-spoke-clause-sent : goal.returns-then-spoke-clause-sent
returns-then-spoke-clause-sent c = λ files ts t ends h.
    let script = c.args.self.now.script in
    sent-so script c.args.role ts t c.newest.result.now
    (c.slots_are_due_alone.ensures.sent (link_of script files) (t ∷ ts) ends h.modems.run.run c.args.role).0
    (λ front x e. c.newest.ensures (wire_of script) 1 (both_sent_by 0 (t ∷ ts)) front x h.lines e)
