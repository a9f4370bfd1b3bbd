use Rattle.bit_stuffing.proofs.Names.{Bool, ◌≡◌, ◌+◌, ◌/◌, ◌^◌, ◌∷◌, [], nat_eq, bit_and, take, drop, length, arith, ◌∙◌, ap, sym}
use Rattle.bit_stuffing.proofs.Names.{subst, ◌≤◌, ◌*◌, written, stuffed, room_behind, octet_bits, SLOT}
use Rattle.bit_stuffing.proofs.Written.{next-written, next-left, next-fits, left-in, octet-bit, octet-part, octet-split}
use Rattle.bit_stuffing.proofs.Octets.{plain-written}
use Rattle.bit_stuffing.proofs.pen.Pen.content_octet.Goals as goal

pub content_bit-left-requires-clause-some : goal.content_bit-left-requires-clause-some
content_bit-left-requires-clause-some c =
    let start = written c.args.self.now c.args.out.now in
    let now = written c.loop-place.self c.loop-place.out in
    (left-in start now (take c.loop-place.place (octet_bits c.args.octet)) c.args.room c.loop-place.left c.requires.some
    c.loop-place.invariant.left c.loop-place.invariant.bits c.requires.few).0

pub content_bit-left-requires-clause-few : goal.content_bit-left-requires-clause-few
content_bit-left-requires-clause-few c =
    let start = written c.args.self.now c.args.out.now in
    let now = written c.loop-place.self c.loop-place.out in
    (left-in start now (take c.loop-place.place (octet_bits c.args.octet)) c.args.room c.loop-place.left c.requires.some
    c.loop-place.invariant.left c.loop-place.invariant.bits c.requires.few).1

pub content_bit-left-requires-clause-fits : goal.content_bit-left-requires-clause-fits
content_bit-left-requires-clause-fits c =
    let start = written c.args.self.now c.args.out.now in
    let now = written c.loop-place.self c.loop-place.out in
    let place = c.loop-place.place in
    let b : Bool = nat_eq (bit_and (c.args.octet / 2 ^ place) 1) 1 in
    let bit = octet-bit c.args.octet place (omega arith) in
    let split = octet-split c.args.octet place b (omega arith) bit in
    next-fits start now (take place (octet_bits c.args.octet)) c.args.room c.loop-place.left c.requires.some c.loop-place.invariant.left
    c.loop-place.invariant.bits (b ∷ []) (drop (place + 1) (octet_bits c.args.octet)) (4 * SLOT)
    (subst (λ t. length start + length (stuffed c.args.room t) ≤ 4 * SLOT) (sym split) c.requires.fits)

pub loop-place-preserved : goal.loop-place-preserved
loop-place-preserved c =
    let start = written c.args.self.now c.args.out.now in
    let now = written c.loop-place.self c.loop-place.out in
    let next = written c.content_bit-left.new.self c.content_bit-left.new.out in
    let place = c.loop-place.place in
    let b : Bool = nat_eq (bit_and (c.args.octet / 2 ^ place) 1) 1 in
    let part = octet-part c.args.octet place b (omega arith) (octet-bit c.args.octet place (omega arith)) in
    record {
      bits = grind (arith, next-written);
      left = c.content_bit-left.ensures.room
          ∙ next-left start now
          (take place (octet_bits c.args.octet)) c.args.room c.loop-place.left c.requires.some c.loop-place.invariant.left
          c.loop-place.invariant.bits (b ∷ []) ∙ ap (room_behind c.args.room) (sym part);
    }

pub octet-requires : goal.octet-requires
octet-requires c =
    let p = plain-written c.args.room c.args.octet (omega (arith, c.requires.few)) c.ranges.octet.fits
    (sym c.is_plain.ensures ∙ c.if-is_plain.true) in
    let long : length (stuffed c.args.room (octet_bits c.args.octet)) ≡ 8 = ap length p.0 in grind (arith)

pub returns-then-is_plain-clause-written : goal.returns-then-is_plain-clause-written
returns-then-is_plain-clause-written c =
    let p = plain-written c.args.room c.args.octet (omega (arith, c.requires.few)) c.ranges.octet.fits
    (sym c.is_plain.ensures ∙ c.if-is_plain.true) in grind (arith, written)

pub returns-then-is_plain-clause-room : goal.returns-then-is_plain-clause-room
returns-then-is_plain-clause-room c =
    let p = plain-written c.args.room c.args.octet (omega (arith, c.requires.few)) c.ranges.octet.fits
    (sym c.is_plain.ensures ∙ c.if-is_plain.true) in grind (arith)

pub returns-clause-written : goal.returns-clause-written
returns-clause-written c =
    let at : c.loop-place.place ≡ 8 = omega (arith, c.loop-place-test.false, c.loop-place.auto.place-end) in
    grind (arith, written)

pub returns-clause-room : goal.returns-clause-room
returns-clause-room c =
    let at : c.loop-place.place ≡ 8 = omega (arith, c.loop-place-test.false, c.loop-place.auto.place-end) in grind (arith)
