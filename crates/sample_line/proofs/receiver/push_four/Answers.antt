use Rattle.sample_line.proofs.Names.{◌++◌, map, Sight, low_bits}
use Rattle.sample_line.proofs.Finding.{found-both}
use Rattle.sample_line.proofs.receiver.push_four.Goals as goal

pub returns-clause-stands : goal.returns-clause-stands
returns-clause-stands c = λ bits h. record {
  deframer = c.with_four.ensures.stands bits h.deframer;
  reader = c.with_four_seen-tally.ensures.stands bits h.reader;
}

pub returns-clause-tallies : goal.returns-clause-tallies
returns-clause-tallies c = λ earlier bits has h.
    let slot = c.args.slot in
    let seen = c.with_four_seen-tally.ensures.tallied slot.framing.sender slot.framing.dlci bits h.octets h.patterns has.reader h.tallies in
    let found = c.with_four.ensures.tallied bits h.octets (h.patterns ++ map (λ (sight : Sight). sight.seen) seen.sights) has.deframer
    seen.tallies in
    found-both slot.framing.check slot.framing.sender slot.framing.dlci slot.sent.now earlier bits (bits ++ low_bits 4 c.args.four)
    c.args.tally
    c.with_four_seen-tally.result c.with_four.result h seen found
