use Rattle.bit_stuffing.proofs.Names.{◌≡◌, ◌∙◌, ℕ, ◌-◌, ◌/◌, ◌^◌, Option, Some, None, arith, sym, subst, Finds, Finding, LeavesFour}
use Rattle.bit_stuffing.proofs.Passing.{leaves-four, leaves-none}
use Rattle.bit_stuffing.proofs.finder.FlagFinder.leaving_four.Goals as goal

same_count : (m n : ℕ) (since : Option ℕ) → since ≡ Some m → since ≡ Some n → m ≡ n
same_count m n since e f = let g : Some m ≡ Some n = sym e ∙ f in cc

no_count : (n : ℕ) (since : Option ℕ) → since ≡ None → since ≡ Some n → ⊥
no_count n since e f = let g : None ≡ Some n = sym e ∙ f in cc

pub returns-in-Some-clause-some : goal.returns-in-Some-clause-some
returns-in-Some-clause-some c = λ past h p o.
    let finding : Finding = record { latest = c.self.inside.latest; since = c.self.inside.since } in
    subst (λ (count : ℕ). LeavesFour (c.self.inside.latest / 2 ^ (8 - c.in-Some.count)) count past p) (sym c.from.ensures)
    (leaves-four finding past c.in-Some.count (subst (λ v. Finds v past) (sym c.self.view_is) h) c.in-Some.is
    c.if-count-ge4.true c.if-count-le8.true p o)

pub returns-in_default-2-clause-none : goal.returns-in_default-2-clause-none
returns-in_default-2-clause-none c = λ past h.
    let finding : Finding = record { latest = c.self.inside.latest; since = c.self.inside.since } in
    leaves-none finding past (subst (λ v. Finds v past) (sym c.self.view_is) h)
    (λ n e some most. omega (arith, some, same_count c.in-Some.count n c.self.inside.since c.in-Some.is e, c.if-count-ge4.false))

pub returns-in_default-3-clause-none : goal.returns-in_default-3-clause-none
returns-in_default-3-clause-none c = λ past h.
    let finding : Finding = record { latest = c.self.inside.latest; since = c.self.inside.since } in
    leaves-none finding past (subst (λ v. Finds v past) (sym c.self.view_is) h)
    (λ n e some most. no_count n c.self.inside.since c.in_default.is e)
