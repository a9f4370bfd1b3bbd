use Rattle.std.proofs.Common.{arith}
use Rattle.bit_stuffing.proofs.Names.{ℕ, ◌≡◌, ◌+◌, ◌≤◌, length, drop, refl, sym, subst, Finds, Gathers, DeframerStands, OpenedAt}
use Rattle.bit_stuffing.proofs.Names.{octet_bits}
use Rattle.bit_stuffing.proofs.Quiet.{quiet-rests}
use Rattle.bit_stuffing.proofs.Passing.{quiet-stands}
use Rattle.bit_stuffing.proofs.deframer.Deframer.pass.Goals as goal

pub returns-clause-stands : goal.returns-clause-stands
returns-clause-stands c = λ e past h.
    let s = subst (λ v. DeframerStands v past) (sym c.self.view_is) h in
    let q = c.if-not-is_quiet.ensures.quiet refl past s.finds in
    let same : c.self-2.inside.finder ≡ c.self.inside.finder = grind (arith) in
    let found = c.pass.ensures past q (subst (λ f. Finds f past) (sym same) s.finds) in
    let gathered = subst (λ v. (p : ℕ) → OpenedAt past p → p + 8 ≤ length past
    → Gathers v.gathering (drop p past)) (sym c.self-2.view_is) (c.gather_octet.ensures.gathers past h) in
    quiet-stands c.self.inside.finder c.pass.new.self c.self-2.inside.unstuffer c.args.octet past
    (c.if-not-is_quiet.ensures.settled refl) q s.finds found gathered

pub returns-clause-quiet : goal.returns-clause-quiet
returns-clause-quiet c = λ e past h.
    let s = subst (λ v. DeframerStands v past) (sym c.self.view_is) h in
    (quiet-rests past (octet_bits c.args.octet) (c.if-not-is_quiet.ensures.quiet refl past s.finds)).pieces
