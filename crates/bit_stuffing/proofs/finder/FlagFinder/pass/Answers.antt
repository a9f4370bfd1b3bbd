use Rattle.bit_stuffing.proofs.Names.{◌≡◌, ◌⊎◌, Some, None, sym, subst, Finds}
use Rattle.bit_stuffing.proofs.Quiet.{quiet-finds}
use Rattle.bit_stuffing.proofs.finder.FlagFinder.pass.Goals as goal

pub returns : goal.returns
returns c = λ past quiet h.
    let s = subst (λ v. Finds v past) (sym c.self.view_is) h in
    let settled = subst (λ v. (v.since ≡ None) ⊎ (v.since ≡ Some 8)) (sym c.self.view_is) c.requires in
    quiet-finds
    (record { latest = c.self.inside.latest; since = c.self.inside.since }) c.args.octet past c.ranges.octet.fits settled quiet s
