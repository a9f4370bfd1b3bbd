use Rattle.run_commands.proofs.Names.{on_ok_weaker}
use Rattle.run_commands.proofs.Soaking.Lines.{noise-put}
use Rattle.run_commands.proofs.soak.script.put_noise.Goals as goal

pub returns : goal.returns
returns c =
    on_ok_weaker c.put_line.result
    (noise-put c.args.text.now.items c.put_line.new.text.items c.noise_head.result.now c.args.role c.args.seed c.noise_head.ensures)
    c.put_line.ensures
