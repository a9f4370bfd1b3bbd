use Rattle.bit_stuffing.proofs.Names.{◌++◌, [], List, Bool, arith, sym, subst, Gathers, LeavesFour, DeframerStands, content}
use Rattle.bit_stuffing.proofs.Halves.{low-four}
use Rattle.bit_stuffing.proofs.Passing.{gathered-four}
use Rattle.bit_stuffing.proofs.deframer.Deframer.gather_four.Goals as goal

pub returns-in_default-clause-gathers : goal.returns-in_default-clause-gathers
returns-in_default-clause-gathers c = λ past h p o behind.
    let s = subst (λ v. DeframerStands v past) (sym c.self.view_is) h in
    absurd (omega (arith, behind, c.in_default.ensures.none past s.finds p o))

pub returns-then-count-lt4-clause-gathers : goal.returns-then-count-lt4-clause-gathers
returns-then-count-lt4-clause-gathers c = λ past h p o behind.
    let s = subst (λ v. DeframerStands v past) (sym c.self.view_is) h in
    let leaves : LeavesFour c.in-Some.bits c.in-Some.count past p = c.in-Some.ensures.some past s.finds p o in
    subst (Gathers c.push_each.new.self) (sym (leaves.few c.if-count-lt4.true)) (c.push_each.ensures [] c.clear.ensures)

pub returns-else-count-lt4-clause-gathers : goal.returns-else-count-lt4-clause-gathers
returns-else-count-lt4-clause-gathers c = λ past h p o behind.
    let s = subst (λ v. DeframerStands v past) (sym c.self.view_is) h in
    let leaves : LeavesFour c.in-Some.bits c.in-Some.count past p = c.in-Some.ensures.some past s.finds p o in
    let all = leaves.all (omega (arith, leaves.most, c.if-count-lt4.false)) in
    subst (Gathers c.push_four.new.self) (gathered-four past c.in-Some.bits p all.0 all.1)
    (subst (λ (bits : List Bool). Gathers c.push_four.new.self (content past p ++ bits)) (low-four c.in-Some.bits)
    (c.push_four.ensures (content past p) (s.gathers p o all.0)))
