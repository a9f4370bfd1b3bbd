use Rattle.bit_stuffing.proofs.Names.{◌+◌, ◌*◌, ◌≤◌, take, drop, get_or, length, arith, ◌∙◌, ap, sym, subst, written, stuffed}
use Rattle.bit_stuffing.proofs.Names.{room_behind, octet_bits, bits_of, SLOT}
use Rattle.bit_stuffing.proofs.Written.{next-written, next-left, next-fits, left-in, octets-part, octets-split, room_behind-in}
use Rattle.bit_stuffing.proofs.pen.Pen.content.Goals as goal

pub content_octet-left-requires-clause-some : goal.content_octet-left-requires-clause-some
content_octet-left-requires-clause-some c =
    let start = written c.args.self.now c.args.out.now in
    let now = written c.loop-octet.self c.loop-octet.out in
    (left-in start now (bits_of (take c.loop-octet.octet-index c.args.octets.now)) c.args.room c.loop-octet.left
    c.requires.some c.loop-octet.invariant.left c.loop-octet.invariant.bits c.requires.few).0

pub content_octet-left-requires-clause-few : goal.content_octet-left-requires-clause-few
content_octet-left-requires-clause-few c =
    let start = written c.args.self.now c.args.out.now in
    let now = written c.loop-octet.self c.loop-octet.out in
    (left-in start now (bits_of (take c.loop-octet.octet-index c.args.octets.now)) c.args.room c.loop-octet.left
    c.requires.some c.loop-octet.invariant.left c.loop-octet.invariant.bits c.requires.few).1

pub content_octet-left-requires-clause-fits : goal.content_octet-left-requires-clause-fits
content_octet-left-requires-clause-fits c =
    let start = written c.args.self.now c.args.out.now in
    let now = written c.loop-octet.self c.loop-octet.out in
    let i = c.loop-octet.octet-index in
    let octets = c.args.octets.now in
    let split = octets-split octets i (omega arith) in
    next-fits start now (bits_of (take i octets)) c.args.room c.loop-octet.left c.requires.some c.loop-octet.invariant.left
    c.loop-octet.invariant.bits
    (octet_bits (get_or octets i 0)) (bits_of (drop (i + 1) octets)) (4 * SLOT)
    (subst (λ t. length start + length (stuffed c.args.room t) ≤ 4 * SLOT) (sym split) c.requires.fits)

pub loop-octet-preserved : goal.loop-octet-preserved
loop-octet-preserved c =
    let start = written c.args.self.now c.args.out.now in
    let now = written c.loop-octet.self c.loop-octet.out in
    let next = written c.content_octet-left.new.self c.content_octet-left.new.out in
    let i = c.loop-octet.octet-index in
    let octets = c.args.octets.now in
    let part = octets-part octets i (omega arith) in
    record {
      bits = grind (arith, next-written);
      left = c.content_octet-left.ensures.room
          ∙ next-left start now (bits_of (take i octets)) c.args.room c.loop-octet.left
          c.requires.some c.loop-octet.invariant.left c.loop-octet.invariant.bits (octet_bits (get_or octets i 0))
          ∙ ap (room_behind c.args.room) (sym part);
    }

pub returns-clause-some : goal.returns-clause-some
returns-clause-some c =
    omega (
      arith,
      c.loop-octet.invariant.left,
      (room_behind-in c.args.room (bits_of
          (take c.loop-octet.octet-index c.args.octets.now)) c.requires.few).0,
    )

pub returns-clause-few : goal.returns-clause-few
returns-clause-few c =
    omega (
      arith,
      c.loop-octet.invariant.left,
      (room_behind-in c.args.room (bits_of
          (take c.loop-octet.octet-index c.args.octets.now)) c.requires.few).1,
    )
