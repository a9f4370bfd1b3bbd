use Rattle.run_commands.proofs.Names.{◌∙◌, [], sym, subst, link_of, WorldAfter, start, ScriptValue}
use Rattle.run_commands.proofs.soak.soaking.soak_run.Goals as goal

pub soak_world-requires-clause-first : goal.soak_world-requires-clause-first
soak_world-requires-clause-first c = λ files.
    subst (λ (s : ScriptValue). WorldAfter c.in-Ok-new.world files [] (start (link_of s files))) (sym c.in-Ok-new.ensures.script)
    (c.in-Ok-new.ensures.world files)

pub returns : goal.returns
returns c = c.soak_world.ensures c.args.seed (c.in-Ok-new.ensures.script ∙ c.in-Ok-soak_script.ensures) c.in-Ok.ensures
