use Rattle.std.proofs.Common.{◌%◌, if◌then◌else◌, Some, None, length, subst, sym, ◌∙◌}
use Rattle.std.proofs.lemmas.Bool.{eq-eqb}
use Rattle.break_signals.specs.Keeping.{StandsTheirs}
use Rattle.break_signals.proofs.break_receiver.BreakReceiver.take.Goals as goal

pub returns-clause-gives : goal.returns-clause-gives
returns-clause-gives c = λ b stands.
    let stood = subst (λ receiver. StandsTheirs receiver b) (sym c.self.view_is) stands in
    sym (λ k. if eq-eqb c.args.number (length b.lengths % 2) (c.if-number-self.false ∙ stood.expected_is) k then Some c.args.length else
    None)
