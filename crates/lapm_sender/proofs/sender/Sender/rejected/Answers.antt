use Rattle.std.proofs.Common.{ap, arith, subst, sym, ◌∙◌}
use Rattle.std.specs.Option.{option_map}
use Rattle.lapm_sender.specs.Meant.{meant}
use Rattle.lapm_sender.specs.Outgoing.{advanced, gone_back}
use Rattle.lapm_sender.specs.Sending.{StandsOut}
use Rattle.lapm_sender.proofs.Answering.{option-twice}
use Rattle.lapm_sender.proofs.sender.Sender.rejected.Goals as goal

pub returns-clause-answer : goal.returns-clause-answer
returns-clause-answer c = λ o stands.
    let acked = c.in_ok-advances.ensures.answer o stands in
    let stood = subst (λ sender. StandsOut sender acked.part) (sym c.self.view_is) acked.stands in
    record {
      part = gone_back acked.part;
      is_after =
          sym (option-twice gone_back (advanced o) (meant o.front o.high c.args.nr)) ∙ ap (option_map gone_back) acked.is_after;
      stands = record {
        window_is = stood.window_is;
        size_is = stood.size_is;
        tries_is = stood.tries_is;
        front_within = stood.front_within;
        kept_is = stood.kept_is;
        ended_is = stood.ended_is;
        front_is = stood.front_is;
        high_is = stood.high_is;
        from_is = omega (arith, stood.front_is);
        chosen_is = stood.chosen_is;
        count_is = stood.count_is;
        awaited_is = stood.awaited_is;
        paused_is = stood.paused_is;
      };
      front_advances = acked.front_advances;
    }
