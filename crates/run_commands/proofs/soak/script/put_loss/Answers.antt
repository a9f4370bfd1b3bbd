use Rattle.run_commands.proofs.Names.{on_ok_weaker}
use Rattle.run_commands.proofs.Soaking.Lines.{loss-put}
use Rattle.run_commands.proofs.soak.script.put_loss.Goals as goal

pub returns : goal.returns
returns c =
    on_ok_weaker c.put_line.result
    (loss-put c.args.text.now.items c.put_line.new.text.items c.lose_head.result.now c.args.role c.args.turn c.lose_head.ensures)
    c.put_line.ensures
