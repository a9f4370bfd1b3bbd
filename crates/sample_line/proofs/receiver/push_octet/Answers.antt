use Rattle.sample_line.proofs.Names.{◌++◌, map, Sight, octet_bits}
use Rattle.sample_line.proofs.Finding.{found-both}
use Rattle.sample_line.proofs.receiver.push_octet.Goals as goal

pub returns-clause-stands : goal.returns-clause-stands
returns-clause-stands c = λ bits h. record {
  deframer = c.with_octet.ensures.stands bits h.deframer;
  reader = c.with_octet_seen-tally.ensures.stands bits h.reader;
}

pub returns-clause-tallies : goal.returns-clause-tallies
returns-clause-tallies c = λ earlier bits has h.
    let slot = c.args.slot in
    let seen = c.with_octet_seen-tally.ensures.tallied slot.framing.sender slot.framing.dlci bits h.octets h.patterns
    has.reader h.tallies in
    let found = c.with_octet.ensures.tallied bits h.octets (h.patterns ++ map (λ (sight : Sight). sight.seen) seen.sights) has.deframer
    seen.tallies in
    found-both slot.framing.check slot.framing.sender slot.framing.dlci slot.sent.now earlier bits (bits ++ octet_bits c.args.octet)
    c.args.tally
    c.with_octet_seen-tally.result c.with_octet.result h seen found
