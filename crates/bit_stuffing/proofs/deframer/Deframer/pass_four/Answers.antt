use Rattle.std.proofs.Common.{arith}
use Rattle.bit_stuffing.proofs.Names.{◌≡◌, ◌≤◌, ◌-◌, IfSome, length, take, drop, sym, subst, Finds, Gathers, DeframerStands}
use Rattle.bit_stuffing.proofs.Passing.{four-stands}
use Rattle.bit_stuffing.proofs.deframer.Deframer.pass_four.Goals as goal

pub returns-clause-stands : goal.returns-clause-stands
returns-clause-stands c = λ yes past h.
    let s = subst (λ v. DeframerStands v past) (sym c.self.view_is) h in
    let same : c.self-2.inside.finder ≡ c.self.inside.finder = grind (arith) in
    four-stands c.pass_four.new.self c.self-2.inside.unstuffer c.args.four past
    (c.pass_four.ensures.passes past (subst (λ f. Finds f past) (sym same) s.finds))
    (λ four p o behind. subst (λ v. Gathers v.gathering (drop p (take (length past - 4) past))) (sym c.self-2.view_is)
    (c.gather_unless_flag.ensures.gathers (subst (λ since. IfSome since (λ count. 4 ≤ count)) c.pass_four.ensures.since four)
    past h p o behind))
