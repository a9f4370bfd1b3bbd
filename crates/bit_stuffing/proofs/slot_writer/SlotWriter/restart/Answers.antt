use Rattle.bit_stuffing.proofs.Names.{◌*◌, arith, sym, Plain}
use Rattle.bit_stuffing.proofs.Fill.{phase-append}
use Rattle.bit_stuffing.proofs.slot_writer.SlotWriter.restart.Goals as goal

pub returns-clause-stands : goal.returns-clause-stands
returns-clause-stands c =
    λ slots bits h. record { phase_is = sym (phase-append (4 * c.self.inside.symbols) 0 slots (Plain bits)); low = omega arith }
