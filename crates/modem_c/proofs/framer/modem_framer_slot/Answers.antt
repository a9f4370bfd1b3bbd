use Rattle.std.proofs.Common.{◌≡◌, ◌≢◌, ◌∷◌, [], ◌++◌, Some, sym, ap, pos, ◌∙◌}
use Rattle.modem_c.specs.Answered.{AnswersKind}
use Rattle.modem_c.specs.Framers.{Frames, SlottedBy, signal_by}
use Rattle.modem_c.specs.Led.{framer_in}
use Rattle.modem_c.proofs.CodesBack.{handed_on}
use Rattle.modem_c.proofs.framer.modem_framer_slot.Goals as goal
use Rattle.modem_c.proofs.framer.modem_framer_slot.Goals.{After-put}

led : (c : After-put) → c.args.handle.now.value ≡ Some c.as_mut.result.now
led c = c.in-Some.ensures.value ∙ ap Some (sym c.as_mut.ensures.value)

pub returns-clause-frames : goal.returns-clause-frames
returns-clause-frames c = λ symbols signals signal.
    handed_on (λ m n code. Frames symbols m signals → signal_by c.args.kind c.args.octets.now ≡ Some signal → code ≡ pos 0
    → Frames symbols n (signals ++ signal ∷ [])) c.write_to-code.result c.write_to-code.type_inv (led c) c.put.ensures
    (c.write_to-code.ensures.frames symbols signals signal)

pub returns-clause-slotted : goal.returns-clause-slotted
returns-clause-slotted c = λ symbols signals.
    handed_on (λ m n code. Frames symbols m signals
    → SlottedBy symbols signals (signal_by c.args.kind c.args.octets.now) c.args.bits.now c.write_to-code.new.bits
    c.write_to-code.new.written code) c.write_to-code.result c.write_to-code.type_inv (led c) c.put.ensures
    (c.write_to-code.ensures.slotted symbols signals)

pub returns-clause-kind : goal.returns-clause-kind
returns-clause-kind c =
    handed_on (λ m n code. AnswersKind m (framer_in m) code) c.write_to-code.result c.write_to-code.type_inv (led c) c.put.ensures
    c.write_to-code.ensures.kind

pub returns-clause-none : goal.returns-clause-none
returns-clause-none c = λ e. c.write_to-code.ensures.none (ap framer_in (sym (led c)) ∙ e)

pub returns-clause-stays : goal.returns-clause-stays
returns-clause-stays c =
    handed_on (λ m n code. code ≢ pos 0 → n ≡ m) c.write_to-code.result c.write_to-code.type_inv (led c) c.put.ensures
    (λ h. ap Some (c.write_to-code.ensures.stays h))
