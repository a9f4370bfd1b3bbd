use Rattle.std.proofs.Common.{◌≡◌, ◌+◌, ◌<◌, length, length-append, arith, sym, subst, false, true}
use Rattle.bit_stuffing.specs.Deframer.{Gathers, has_room}
use Rattle.bit_stuffing.proofs.Octets.{gathers-low, gathers-high, four-bound}
use Rattle.bit_stuffing.proofs.unstuffer.Unstuffer.keep_four.Goals as goal

pub invariant_of-self : goal.invariant_of-self
invariant_of-self c =
    let room : length c.self.inside.octets + 1 < 1031 = subst (λ v. length v.octets + 1 < 1031) (sym c.self.view_is) c.requires.room in
    let b = four-bound c.self.inside.part c.self.inside.held c.args.four c.self.invariant.1 c.self.invariant.2 c.requires.four in
    grind (arith)

pub invariant_of-self-else-self-lt4 : goal.invariant_of-self-else-self-lt4
invariant_of-self-else-self-lt4 c =
    let room : length c.self.inside.octets + 1 < 1031 = subst (λ v. length v.octets + 1 < 1031) (sym c.self.view_is) c.requires.room in
    let b = four-bound c.self.inside.part c.self.inside.held c.args.four c.self.invariant.1 c.self.invariant.2 c.requires.four in
    let more : length c.push.new.self ≡ length c.self.inside.octets + 1 = grind (arith, length-append) in (
      c.room_behind_four-self-inside.ensures.bound,
      omega (arith, c.self.invariant.1),
      rw c.joined-bits.ensures.value (b.2 (omega (arith, c.if-self-lt4.false))),
      omega (arith, room, more, c.self.invariant.1),
    )

pub returns-then-self-lt4 : goal.returns-then-self-lt4
returns-then-self-lt4 c = λ line h.
    let g = subst (λ v. Gathers v line) (sym c.self.view_is) h in
    let plain = subst (λ v. has_room v.room c.args.four ≡ true) (sym c.self.view_is) c.requires.plain in
    let open_yet = subst (λ v. v.over ≡ false) (sym c.self.view_is) c.requires.not_over in
    let b = four-bound c.self.inside.part c.self.inside.held c.args.four c.self.invariant.1 c.self.invariant.2 c.requires.four in
    rw c.room_behind_four-self-inside.ensures.value
    (gathers-low _ c.args.four c.joined-bits.result line c.self.invariant.0 c.requires.four c.self.invariant.2 plain
    c.joined-bits.ensures.value (omega (arith, c.joined-bits.ensures.value, b.1 c.if-self-lt4.true)) open_yet g)

pub returns-else-self-lt4 : goal.returns-else-self-lt4
returns-else-self-lt4 c = λ line h.
    let g = subst (λ v. Gathers v line) (sym c.self.view_is) h in
    let plain = subst (λ v. has_room v.room c.args.four ≡ true) (sym c.self.view_is) c.requires.plain in
    let open_yet = subst (λ v. v.over ≡ false) (sym c.self.view_is) c.requires.not_over in
    rw (c.room_behind_four-self-inside.ensures.value, c.push.ensures)
    (gathers-high _ c.args.four c.joined-bits.result line c.self.invariant.0 c.requires.four c.self.invariant.2 plain
    c.joined-bits.ensures.value (omega (arith, c.if-self-lt4.false)) open_yet g)
