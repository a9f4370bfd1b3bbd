use Rattle.line_tap.proofs.Cited.{◌≡◌, ◌%◌, ◌++◌, length, refl, sym, ◌∙◌, ap, subst, Ok, given_in, given_by_word}
use Rattle.break_signals.specs.declared.word.BreakWord.{BreakWord}
use Rattle.break_signals.specs.Breaks.{TheirBreaks, gives}
use Rattle.line_tap.proofs.listener.EndListener.take_word.Goals as goal
use Rattle.link_run.proofs.Listening.{with-given}

pub returns-in-Brk-clause-given : goal.returns-in-Brk-clause-given
returns-in-Brk-clause-given c = λ terms role agreed connected i lengths h.
    subst (λ (w : BreakWord). c.take.result ≡ given_by_word (Ok w) lengths) (sym c.in-Brk.is)
    (c.take.ensures.gives (record { lengths = lengths; ack = c.args.self.now.breaks.ack })
    (record { expected_is = h.breaks; ack_is = refl }))

pub returns-in-Brk-clause-stands : goal.returns-in-Brk-clause-stands
returns-in-Brk-clause-stands c = λ terms role agreed connected i lengths h.
    let b : TheirBreaks = record { lengths = lengths; ack = c.args.self.now.breaks.ack } in
    let k = c.take.ensures.stands b (record { expected_is = h.breaks; ack_is = refl }) in
    record {
      role_is = h.role_is;
      check_is = h.check_is;
      agreed_is = h.agreed_is;
      takes = h.takes;
      breaks = subst (λ (w : BreakWord). c.take.new.self.expected ≡ length (lengths ++ given_in (given_by_word (Ok w) lengths)) % 2)
          (sym c.in-Brk.is) (k.expected_is ∙ ap (λ l. length l % 2) (with-given (gives c.in-Brk.number c.in-Brk.length b) lengths));
      connected_is = h.connected_is;
    }
