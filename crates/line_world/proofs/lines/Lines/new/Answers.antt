use Rattle.line_world.proofs.Cited.{sym, wire_at, none_sent, Lines}
use Rattle.line_world.proofs.Coded.{both-coded}
use Rattle.line_world.proofs.lines.Lines.new.Goals as goal

pub returns : goal.returns
returns c = λ dlci beside.
    let channel = wire_at c.args.script.now dlci beside in
    let lines : Lines = record { directions = c.in_ok-new.field-0; orig = c.new-2.result; answ = c.new-3.result } in
    let size = sym c.slot_symbols-symbols.ensures.value in
    record {
      directions = c.in_ok-new.ensures dlci beside;
      coders = both-coded lines channel none_sent (c.new-2.ensures channel size) (c.new-3.ensures channel size);
    }
