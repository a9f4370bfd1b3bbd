use Rattle.lapm_link.proofs.Names.{◌∙◌, sym, subst, StandsFor, Links, AnyEnd, Account}
use Rattle.lapm_link.proofs.Unconnected.{same-number, takes-break, links-asked, takes-no-break, no-break-asked, takes-none}
use Rattle.lapm_link.proofs.any_end.AnyEnd.ask_break.Goals as goal

pub returns-in-Connected : goal.returns-in-Connected
returns-in-Connected c =
    let links : (a : Account) → StandsFor c.args.self.now a → Links c.in-Connected.end a =
    λ a h. subst (λ (v : AnyEnd). StandsFor v a) c.in-Connected.is h in
    record {
      answer = λ a h. let l = (links a h).beside in
          c.ask.ensures.answer a.own_breaks l.breaks_stand.own ∙ sym (takes-break c.args.turn a l.phase_is);
      account = λ a h. let l = links a h in
          links-asked _ c.args.turn c.args.length a l.beside.phase_is (assumption
          (c.ask.ensures.stands a.own_breaks l.beside.breaks_stand.own));
      takes_nothing = rw c.in-Connected.is
          (record { taken_of = same-number _; undelivered_of = same-number _; waiting_of = λ e. e });
    }

pub returns-in_default : goal.returns-in_default
returns-in_default c =
    let end : AnyEnd = c.args.self.now in
    let not = c.in_default.not-Connected in
    record {
      answer = λ a h. sym (takes-no-break end c.args.turn a not h);
      account = λ a h. no-break-asked end c.args.turn c.args.length a not h;
      takes_nothing = takes-none end;
    }
