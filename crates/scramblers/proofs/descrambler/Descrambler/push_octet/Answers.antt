use Rattle.scramblers.proofs.Names.{◌∙◌, ℕ, ◌+◌, ◌-◌, ◌/◌, ◌^◌, ◌<◌, ◌++◌, sym, ap, subst, rules, bit_at, Holds}
use Rattle.frame_check.specs.Bits.{octet_bits}
use Rattle.scramblers.proofs.Octets.{octet-follows}
use Rattle.scramblers.proofs.descrambler.Descrambler.push_octet.Goals as goal

pub returns : goal.returns
returns g c = λ line output h.
    let all = c.with_octet-line.ensures in
    let fits : c.self.inside.register < 2 ^ 32 = search rules in
    let read = octet-follows g.row.TAP c.args.octet c.self.inside.register c.octet_before.result c.octet_before-2.result line output
    c.self.invariant.0 c.self.invariant.1 fits
    (λ i l. c.octet_before.ensures i l ∙ ap (λ n. bit_at n (32 - g.row.TAP + i)) all)
    (λ i l. c.octet_before-2.ensures i l ∙ ap (λ n. bit_at n (32 - 23 + i)) all)
    h.descrambled (rw c.self.view_is h.holds) in
    record {
      descrambled = read.descrambled;
      holds = subst (λ (n : ℕ). Holds n (line ++ octet_bits c.args.octet))
          (sym (c.shifted_by_octet-self-inside.ensures ∙ ap (λ n. n / 2 ^ 8) all)) read.holds;
    }
