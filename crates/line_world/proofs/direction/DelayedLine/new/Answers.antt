use Rattle.line_world.proofs.Cited.{ap, ◌∙◌, ◌*◌, DelayedLine}
use Rattle.line_world.proofs.Passing.{starts}
use Rattle.line_world.proofs.direction.DelayedLine.new.Goals as goal

pub returns-clause-stands : goal.returns-clause-stands
returns-clause-stands c = λ script.
    let ring = c.in_ok-with_capacity.ensures in
    let new : DelayedLine = record {
      line = c.in_ok-new.field-0;
      sender = c.args.sender;
      delay = c.args.delay;
      lag = c.from.result * c.from-2.result;
      slots = c.in_ok-with_capacity.field-0;
    } in
    starts new script (c.in_ok-new.ensures.stands script) (ap (λ b. b.items) ring) c.in_ok-new.ensures.sender
    (ap (λ b. b.capacity) ring ∙ c.from-3.ensures)
