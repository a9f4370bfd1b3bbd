use Rattle.bit_stuffing.proofs.Names.{◌≡◌, ◌/◌, Some, sym, subst, Finding, Finds, PassesBits, since_four, low_bits}
use Rattle.bit_stuffing.proofs.Fours.{passes-four}
use Rattle.bit_stuffing.proofs.finder.FlagFinder.pass_four.Goals as goal

pub returns-clause-passes : goal.returns-clause-passes
returns-clause-passes c past h =
    let s = subst (λ v. Finds v past) (sym c.self.view_is) h in
    let plain = subst (λ (v : Finding). since_four v.latest v.since c.args.four ≡ Some c.args.since) (sym c.self.view_is)
    c.requires.plain in
    subst (λ n. PassesBits (record { latest = n / 16; since = c.args.since }) past (low_bits 4 c.args.four)) (sym c.window_of.ensures)
    (passes-four _ past c.args.four c.args.since c.requires.four s plain)
