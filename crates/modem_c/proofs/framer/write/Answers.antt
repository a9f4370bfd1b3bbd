use Rattle.std.proofs.Common.{◌∷◌, ◌++◌, [], sym, subst}
use Rattle.detection.specs.Slots.{Signal}
use Rattle.gateway.specs.Signals.{signal_of}
use Rattle.gateway.specs.SlotsWritten.{HasWritten}
use Rattle.modem_c.specs.Framers.{signal_by}
use Rattle.modem_c.proofs.SlotCodes.{bad-slot, done-slot, full-slot, none-told, one-signal}
use Rattle.modem_c.proofs.framer.write.Goals as goal

pub returns-in_default-clause-slotted : goal.returns-in_default-clause-slotted
returns-in_default-clause-slotted c = λ symbols signals start.
    none-told symbols signals (signal_by c.args.kind c.args.octets.now) c.args.bits.now c.args.written.now c.in_default.ensures c.requires

pub returns-in-Ok-clause-frames : goal.returns-in-Ok-clause-frames
returns-in-Ok-clause-frames c = λ symbols signals signal start by done.
    subst (λ (s : Signal). HasWritten symbols c.slot.new.self (signals ++ s ∷ []))
    (sym (one-signal (signal_by c.args.kind c.args.octets.now) (signal_of c.in-Some.told) signal c.in-Some.ensures by))
    (c.in-Ok.ensures.writes symbols signals start).writes

pub returns-in-Ok-clause-slotted : goal.returns-in-Ok-clause-slotted
returns-in-Ok-clause-slotted c = λ symbols signals start.
    done-slot symbols signals (signal_by c.args.kind c.args.octets.now) (signal_of c.in-Some.told) c.args.bits.now c.slot.new.bits
    c.slot.new.self c.in-Ok.count
    c.in-Some.ensures (c.in-Ok.ensures.writes symbols signals start)

pub returns-in-Err-BadFrame-clause-slotted : goal.returns-in-Err-BadFrame-clause-slotted
returns-in-Err-BadFrame-clause-slotted c = λ symbols signals start.
    bad-slot symbols signals (signal_by c.args.kind c.args.octets.now) (signal_of c.in-Some.told) c.args.writer.now c.slot.new.self
    c.args.bits.now c.slot.new.bits
    c.args.written.now c.in-Err-BadFrame.field-0 c.in-Some.ensures c.in-Err-BadFrame.field-0-is
    (c.in-Err-BadFrame.ensures.writes symbols signals start) c.requires

pub returns-in-Err-Full-clause-slotted : goal.returns-in-Err-Full-clause-slotted
returns-in-Err-Full-clause-slotted c = λ symbols signals start.
    full-slot symbols signals (signal_by c.args.kind c.args.octets.now) (signal_of c.in-Some.told) c.args.writer.now c.slot.new.self
    c.args.bits.now c.slot.new.bits
    c.args.written.now c.in-Err-Full.field-0 c.in-Some.ensures c.in-Err-Full.field-0-is (c.in-Err-Full.ensures.writes symbols signals start)
    c.requires
