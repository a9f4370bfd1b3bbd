use Rattle.gateway.proofs.Names.{◌≡◌, ◌+◌, ◌-◌, ◌*◌, ◌≤◌, Some, length, refl, arith, opening}
use Rattle.gateway.proofs.FirstEnd.{opens, slot-alone}
use Rattle.gateway.proofs.Putting.{bits-fewer}
use Rattle.gateway.proofs.framer.frame_bits.Goals as goal

pub returns-clause-writes : goal.returns-clause-writes
returns-clause-writes c = let octets = c.args.octets.now in let bits = c.put_slot.new.bits in
    let is_frame = c.if-not-is_frame.ensures.0 refl in
    let short = c.opening_is_short.ensures.with_frame 0 octets (omega arith) in
    let fits : length (opening 0 (Some octets)) ≤ 10460 = let high = is_frame.high in omega (arith, short, high) in
    let room : 10460 ≤ length bits = let same = c.put_slot.auto.bits in omega (arith, c.if-bits-lt-FRAME_BITS.false, same) in
    let line = slot-alone 2615 c.new.result.symbols c.new.result.phase octets c.write_flags.new.out bits c.new.ensures.symbols
    c.new.ensures.stands.phase_is
    c.write_flags.ensures.count c.write_flags.ensures.bits c.put_slot.ensures.given in
    opens 10460 c.first_end.result octets bits refl is_frame fits room line c.first_end.ensures.end c.found_is_sent.ensures
    c.pieces_grow.ensures.none

pub returns-clause-bits : goal.returns-clause-bits
returns-clause-bits c = let count = c.first_end.result in let bits = c.put_slot.new.bits in
    let all : 4 * length c.write_flags.new.out ≡ (10460 - count) + count = let n = c.write_flags.ensures.count in
    let s = c.new.ensures.symbols in let w = c.first_end.ensures.within in omega (arith, n, s, w) in
    bits-fewer (10460 - count) count (4 * length c.write_flags.new.out) bits all c.put_slot.ensures.bits
