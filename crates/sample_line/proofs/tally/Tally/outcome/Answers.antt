use Rattle.sample_line.proofs.Names.{refl, sym, subst, IsOutcome, Tallies}
use Rattle.lapm_frames.specs.declared.heard.Heard.TheVariants.{Passed}
use Rattle.sample_line.proofs.tally.Tally.outcome.Goals as goal

pub returns-in-AsSent : goal.returns-in-AsSent
returns-in-AsSent c sender dlci octets patterns tallies =
    let sent = c.args.sent in
    subst (λ loses. IsOutcome loses sender dlci sent octets patterns (Passed sent)) (sym c.if-loses.false)
    (refl, subst (Tallies sender dlci sent octets patterns) c.in-AsSent.is tallies)
