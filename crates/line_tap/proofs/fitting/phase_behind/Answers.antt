use Rattle.line_tap.proofs.FrameRoom.{frame-codable, frame-next, frame-none}
use Rattle.line_tap.proofs.fitting.phase_behind.Goals as goal

pub returns-in-Frame-clause-codable : goal.returns-in-Frame-clause-codable
returns-in-Frame-clause-codable c =
    frame-codable c.args.framing.check c.args.framing.sender c.args.framing.dlci c.args.symbols c.args.phase c.args.sent.now
    c.in-Frame.field-0 c.args.end c.behind_frame.result c.in-Frame.is c.requires.sendable c.requires.by c.behind_frame.ensures.fits

pub returns-in-Frame-clause-next : goal.returns-in-Frame-clause-next
returns-in-Frame-clause-next c = λ at.
    frame-next c.args.framing.check c.args.framing.sender c.args.framing.dlci c.args.symbols c.args.phase c.args.sent.now c.in-Frame.field-0
    c.args.end c.behind_frame.result c.in-Frame.is at c.behind_frame.ensures.next

pub returns-in-Frame-clause-none : goal.returns-in-Frame-clause-none
returns-in-Frame-clause-none c = λ at.
    frame-none c.args.framing.check c.args.framing.sender c.args.framing.dlci c.args.symbols c.args.phase c.args.sent.now c.in-Frame.field-0
    c.args.end c.behind_frame.result c.in-Frame.is at c.behind_frame.ensures.none
