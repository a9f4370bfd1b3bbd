use Rattle.run_commands.proofs.Names.{on_ok_weaker, decimal}
use Rattle.run_commands.proofs.Soaking.Lines.{three-pieces}
use Rattle.run_commands.proofs.soak.script.put_line.Goals as goal

pub returns : goal.returns
returns c =
    on_ok_weaker c.put_octets-2.result
    (three-pieces c.args.text.now.items c.put_octets.new.octets.items c.put_number.new.text.items c.put_octets-2.new.octets.items
    c.args.head.now (decimal c.args.number) c.args.rest.now c.in_ok-put_octets.ensures c.in_ok-put_number.ensures) c.put_octets-2.ensures
