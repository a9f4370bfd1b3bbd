use Rattle.lapm_receiver.proofs.Names.{◌≡◌, ◌∙◌, [], drop, sym, ap, is_some}
use Rattle.lapm_receiver.proofs.Rows.{none-ready, next-row, seen-deliver, ready-first}
use Rattle.lapm_receiver.proofs.slots.Slots.deliver.Goals as goal

pub returns-in-None-clause-none : goal.returns-in-None-clause-none
returns-in-None-clause-none c = none-ready _ _ _ _ c.self.view_is (sym (ap (λ o. is_some o) c.in-None.ensures))

pub returns-in-None-clause-delivered : goal.returns-in-None-clause-delivered
returns-in-None-clause-delivered c =
    let none : c.args.self.now.ready ≡ [] = none-ready _ _ _ _ c.self.view_is (sym (ap (λ o. is_some o) c.in-None.ensures)) in
    ap (λ ready. record c.args.self.now { ready = ready }) (none ∙ sym (ap (λ ready. drop 1 ready) none))

pub returns-clause-delivered : goal.returns-clause-delivered
returns-clause-delivered c =
    rw (c.push_back.ensures.items, c.pop_front.ensures.items, next-row _ _ _ c.self.invariant.0 c.in-Some.ensures)
    (seen-deliver _ _ _ _ _ c.self.view_is c.in-Some.ensures)

pub returns-clause-some : goal.returns-clause-some
returns-clause-some c =
    rw (c.push_back.ensures.items, c.pop_front.ensures.items, c.copy.ensures, next-row _ _ _ c.self.invariant.0 c.in-Some.ensures)
    (ready-first _ _ _ _ _ c.self.view_is c.in-Some.ensures)
