use Rattle.run_commands.proofs.Names.{◌≡◌, text_of, soak_lines}
use Rattle.run_commands.proofs.soak.script.soak_text.Given as goal

abbrev pub invariant-loop-n : goal.invariant-loop-n
invariant-loop-n l = l.text.items ≡ text_of (soak_lines l.seed l.n)
