use Rattle.run_commands.proofs.Names.{◌≡◌}
use Rattle.run_commands.specs.Soaking.Drawing.{drawn_octets}
use Rattle.run_commands.proofs.soak.files.drawn_octets.Given as goal

abbrev pub invariant-loop-place : goal.invariant-loop-place
invariant-loop-place l = l.octets.items ≡ drawn_octets l.seed l.from l.place
