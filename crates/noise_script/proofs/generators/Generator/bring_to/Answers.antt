use Rattle.noise_script.proofs.generators.Generator.bring_to.Goals as goal

pub returns-then-self-place-clause-place : goal.returns-then-self-place-clause-place
returns-then-self-place-clause-place c = c.if-self-place.true
