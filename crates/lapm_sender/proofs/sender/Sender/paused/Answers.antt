use Rattle.std.proofs.Common.{ap}
use Rattle.std.specs.Option.{option_map}
use Rattle.lapm_sender.specs.Outgoing.{paused_at}
use Rattle.lapm_sender.proofs.sender.Sender.paused.Goals as goal

pub returns-clause-answer : goal.returns-clause-answer
returns-clause-answer c = λ o stands.
    let acked = c.in_ok-advances.ensures.answer o stands in
    record {
      part = paused_at acked.part;
      is_after = ap (option_map paused_at) acked.is_after;
      stands = c.pause.ensures.stands acked.part acked.stands;
      front_advances = acked.front_advances;
    }
