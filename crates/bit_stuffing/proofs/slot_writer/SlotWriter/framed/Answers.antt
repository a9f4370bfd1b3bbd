use Rattle.bit_stuffing.proofs.Names.{Bool, List, ◌≡◌, ◌-◌, ◌*◌, ◌≤◌, ◌++◌, length, arith, ◌∙◌, sym, ap, subst, Some}
use Rattle.bit_stuffing.proofs.Names.{line_bits, Writer, WriterStands, framed, opening, slot_bits, Flags}
use Rattle.bit_stuffing.specs.declared.slot_writer.TheConstants.{TAIL}
use Rattle.bit_stuffing.proofs.Fill.{slot-written, writer-behind}
use Rattle.bit_stuffing.proofs.slot_writer.SlotWriter.framed.Goals as goal

pub returns-clause-bits : goal.returns-clause-bits
returns-clause-bits c =
    let frame = Some (c.args.head.now ++ c.args.information.now ++ c.args.check.now) in
    let room = subst (λ (w : Writer). length (opening w.phase frame) ≤ 4 * (w.symbols - TAIL)) (sym c.self.view_is) c.requires.room in
    let bits = slot-written c.self.inside.symbols c.self.inside.phase frame _ c.fill-self-inside.new.self c.fill-self-inside.new.out
    (omega arith) (c.frame.ensures ∙ ap (λ (t : List Bool). t ++ framed frame) c.opened-pen.ensures) c.fill-self-inside.ensures.written in
    subst (λ (w : Writer). line_bits c.fill-self-inside.new.out ≡ slot_bits (4 * w.symbols) w.phase (Flags frame)) c.self.view_is bits

pub returns-clause-stands : goal.returns-clause-stands
returns-clause-stands c = λ slots h.
    let frame = Some (c.args.head.now ++ c.args.information.now ++ c.args.check.now) in
    let before = subst (λ (w : Writer). WriterStands w slots) (sym c.self.view_is) h in
    record {
      phase_is = grind (arith, writer-behind, framed);
      low = omega (arith, c.fill-self-inside.ensures.phase);
    }
