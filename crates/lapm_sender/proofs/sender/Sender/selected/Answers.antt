use Rattle.std.proofs.Common.{◌≡◌, ◌-◌, if◌then◌else◌, true, Some, None, ap, subst, sym, ◌∙◌}
use Rattle.std.specs.Option.{option_map}
use Rattle.lapm_sender.specs.Meant.{meant}
use Rattle.lapm_sender.specs.Numbers.{with_number}
use Rattle.lapm_sender.specs.Outgoing.{is_outstanding}
use Rattle.lapm_sender.specs.Sending.{StandsOut}
use Rattle.lapm_sender.proofs.sender.Sender.selected.Goals as goal

pub returns-in-Some-clause-answer : goal.returns-in-Some-clause-answer
returns-in-Some-clause-answer c = λ o stands.
    let n = c.in-Some.number in
    let stood = subst (λ sender. StandsOut sender o) (sym c.self.view_is) stands in
    let front = c.front.ensures ∙ stood.front_is in
    let out : is_outstanding o ≡ true = sym (c.outstanding.ensures.outstanding o stands) ∙ c.if-outstanding.true in
    let heard : Some n ≡ meant o.front (o.high - 1) c.args.nr = c.in-Some.ensures
    ∙ (λ k. meant (front k) (stood.high_is k - 1) c.args.nr) in
    record {
      part = record o { chosen = with_number n o.chosen };
      is_after = sym (λ k. if sym out k then option_map (λ number. record o { chosen = with_number number o.chosen }) (heard k) else None);
      stands = record {
        window_is = stood.window_is;
        size_is = stood.size_is;
        tries_is = stood.tries_is;
        front_within = stood.front_within;
        kept_is = ap (λ s. s.kept) c.choose.ensures ∙ stood.kept_is;
        ended_is = stood.ended_is;
        front_is = ap (λ s. s.front) c.choose.ensures ∙ stood.front_is;
        high_is = stood.high_is;
        from_is = stood.from_is;
        chosen_is = ap (λ s. s.chosen) c.choose.ensures ∙ ap (with_number n) stood.chosen_is;
        count_is = stood.count_is;
        awaited_is = stood.awaited_is;
        paused_is = stood.paused_is;
      };
    }
