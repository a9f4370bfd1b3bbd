use Rattle.lapm_link.proofs.Names.{◌≡◌, ◌∙◌, ◌≤◌, ℕ, Bool, List, length, Option, Some, None, refl, sym, ap, subst, nat_lt, arith, StandsFor}
use Rattle.lapm_link.proofs.Names.{Links, undelivered_of, AnyEnd, Taking, Account}
use Rattle.std.proofs.Common.{◌<◌, drop}
use Rattle.std.specs.Bool.{OnTrue}
use Rattle.std.specs.Prelude.{is_some}
use Rattle.lapm_link.proofs.Unconnected.{same-number, delivers-next, links-delivered, delivers-none, nothing-delivered, undelivered-none}
use Rattle.lapm_link.proofs.Unconnected.{takes-none}
use Rattle.lapm_link.proofs.any_end.AnyEnd.deliver.Goals as goal

-- one less is ready, where any is
fewer-ready : (some : Bool) (old new : List (List ℕ)) → some ≡ nat_lt 0 (length old) → new ≡ drop 1 old
    → OnTrue some (length new < length old)
fewer-ready some old new left is = grind (arith)

no-more : (old : List (List ℕ)) → length (drop 1 old) ≤ length old
no-more q0 = grind (arith)

none-some : (segment : List ℕ) → ◌≡◌ {A = Option (List ℕ)} None (Some segment) → ⊥
none-some segment e = cc

pub returns-in-Connected : goal.returns-in-Connected
returns-in-Connected c =
    let old : Taking = c.in-Connected.end.receiver in
    let links : (a : Account) → StandsFor c.args.self.now a → Links c.in-Connected.end a =
    λ a h. subst (λ (v : AnyEnd). StandsFor v a) c.in-Connected.is h in
    record {
      answer = λ a h. let l = (links a h).beside in
          c.deliver.ensures.answer a.incoming l.receiver_stands ∙ ap is_some (sym (delivers-next a l.phase_is));
      segment = λ a segment h e. let l = (links a h).beside in
          c.deliver.ensures.segment a.incoming segment l.receiver_stands (sym (delivers-next a l.phase_is) ∙ e);
      account = λ a h. let l = links a h in
          links-delivered _ a l.beside.phase_is (assumption (c.deliver.ensures.stands a.incoming l.beside.receiver_stands));
      unchanged = c.deliver.ensures.out_unchanged;
      delivered = c.deliver.ensures.empty;
      fewer = subst (λ (n : ℕ). OnTrue c.deliver.result (length c.deliver.new.self.ready < n)) (sym (ap undelivered_of c.in-Connected.is))
          (fewer-ready c.deliver.result old.ready c.deliver.new.self.ready c.deliver.ensures.left
          (ap (λ (r : Taking). r.ready) c.deliver.ensures.value));
      takes_nothing = record {
        taken_of = rw (c.in-Connected.is, c.deliver.ensures.value) (same-number old.taken);
        undelivered_of = rw (c.in-Connected.is, c.deliver.ensures.value) (no-more old.ready);
        waiting_of = rw c.in-Connected.is (λ e. e);
      };
    }

pub returns-in_default : goal.returns-in_default
returns-in_default c =
    let end : AnyEnd = c.args.self.now in
    let not = c.in_default.not-Connected in
    record {
      answer = λ a h. ap is_some (sym (delivers-none end a not h));
      segment = λ a segment h e. absurd (none-some segment (sym (delivers-none end a not h) ∙ e));
      account = λ a h. nothing-delivered end a not h;
      unchanged = refl;
      delivered = undelivered-none end not;
      fewer = tt;
      takes_nothing = takes-none end;
    }
