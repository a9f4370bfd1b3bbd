use Rattle.sample_line.proofs.Names.{◌+◌, ◌++◌, map, take, sym, subst, HearsSamples, mode_of, Role, point_of}
use Rattle.sample_line.proofs.Arriving.{arrived}
use Rattle.sample_line.proofs.path.Path.arrive.Goals as goal

pub returns-clause-arrives : goal.returns-clause-arrives
returns-clause-arrives c = λ before earlier h.
    let slot = c.args.slot in
    let samples = h.carries.samples ++ take c.args.count c.send_some.new.samples in
    let sent = c.send_some.ensures.stands before h.carries.samples h.carries.transmits in
    let heard = c.hear.ensures.stands (mode_of c.args.self.now.transmitter.sender) h.carries.samples earlier
    (record { read = h.read; hears = h.carries.hears; tallies = h.tallies }) in
    arrived c.send_some.new.self c.hear.new.self c.args.script.now
    (before ++ map point_of (take (c.args.at + c.args.count) c.args.labels.now)) samples slot.framing.check slot.framing.sender
    slot.framing.dlci slot.sent.now earlier c.hear.result sent
    (subst (λ (r : Role). HearsSamples (mode_of r) c.hear.new.self samples slot.framing.check slot.framing.sender slot.framing.dlci
    slot.sent.now earlier c.hear.result) (sym c.send_some.ensures.sender) heard)
