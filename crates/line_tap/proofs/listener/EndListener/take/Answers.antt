use Rattle.line_tap.proofs.Cited.{◌≡◌, true, ◌++◌, sym, ◌∙◌, subst, I, Ui, Passed, Listens, given_in, given_by}
use Rattle.lapm_frames.specs.declared.sent.Sent.TheVariants as slots
use Rattle.lapm_receiver.specs.Incoming.{after_take}
use Rattle.line_tap.proofs.Listening.{gives-no-segment, opens-no-segment, opens-no-word}
use Rattle.line_tap.proofs.listener.EndListener.take.Goals as goal

pub returns-in-I-clause-stands : goal.returns-in-I-clause-stands
returns-in-I-clause-stands c = λ terms role agreed connected i lengths h. rw c.in-I.is
    (subst (λ b. Listens c.take_segment.new.self terms role agreed b (after_take c.in-I.ns c.in-I.info i)
    (lengths ++ given_in (given_by connected (Passed (slots.Frame (I c.in-I.ns c.in-I.nr c.in-I.pf c.in-I.info))) lengths)))
    (sym (opens-no-segment role c.in-I.ns c.in-I.nr c.in-I.pf c.in-I.info connected))
    (subst (λ l. Listens c.take_segment.new.self terms role agreed connected (after_take c.in-I.ns c.in-I.info i) l)
    (gives-no-segment connected c.in-I.ns c.in-I.nr c.in-I.pf c.in-I.info lengths)
    (c.take_segment.ensures.stands terms role agreed connected i lengths h)))

pub returns-then-self-clause-given : goal.returns-then-self-clause-given
returns-then-self-clause-given c = λ terms role agreed connected i lengths h.
    let e : true ≡ connected = sym c.if-self.true ∙ h.connected_is in
    rw (c.in-Ui.is, ← e) (c.take_information.ensures.given terms role agreed connected i lengths h)

pub returns-then-self-clause-stands : goal.returns-then-self-clause-stands
returns-then-self-clause-stands c = λ terms role agreed connected i lengths h.
    let e : true ≡ connected = sym c.if-self.true ∙ h.connected_is in
    rw c.in-Ui.is (subst (λ b. Listens c.take_information.new.self terms role agreed b i
    (lengths ++ given_in (given_by connected (Passed (slots.Frame (Ui c.in-Ui.command c.in-Ui.pf c.in-Ui.info))) lengths)))
    (sym (opens-no-word role c.in-Ui.command c.in-Ui.pf c.in-Ui.info connected))
    (subst (λ b. Listens c.take_information.new.self terms role agreed connected i
    (lengths ++ given_in (given_by b (Passed (slots.Frame (Ui c.in-Ui.command c.in-Ui.pf c.in-Ui.info))) lengths))) e
    (c.take_information.ensures.stands terms role agreed connected i lengths h)))
