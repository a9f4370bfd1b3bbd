use Rattle.bit_stuffing.proofs.Names.{◌≡◌, sym, subst, false, true, Gathers, is_plain}
use Rattle.bit_stuffing.proofs.Octets.{gathers-octet}
use Rattle.bit_stuffing.proofs.unstuffer.Unstuffer.keep_octet.Goals as goal

pub returns : goal.returns
returns c = λ line h.
    let g = subst (λ v. Gathers v line) (sym c.self.view_is) h in
    let plain = subst (λ v. is_plain v.room c.args.octet ≡ true) (sym c.self.view_is) c.requires.plain in
    let open_yet = subst (λ v. v.over ≡ false) (sym c.self.view_is) c.requires.not_over in
    rw (c.room_behind_octet-self-inside.ensures.value, c.push.ensures)
    (gathers-octet _ c.args.octet c.joined-bits.result line c.self.invariant.0 c.ranges.octet.fits c.self.invariant.2 plain
    c.joined-bits.ensures.value open_yet g)
