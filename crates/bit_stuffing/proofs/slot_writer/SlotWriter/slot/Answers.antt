use Rattle.bit_stuffing.proofs.Names.{Bool, ℕ, List, Option, ◌≡◌, ◌-◌, ◌*◌, ◌≤◌, ◌++◌, length, arith, ◌∙◌, refl, sym, subst, None}
use Rattle.bit_stuffing.proofs.Names.{append-nil, Writer, WriterStands, flags, opening, rest_of_flag}
use Rattle.std.specs.Option.{option_copied}
use Rattle.bit_stuffing.specs.declared.slot_writer.TheConstants.{TAIL}
use Rattle.bit_stuffing.proofs.Fill.{slot-written, writer-behind}
use Rattle.bit_stuffing.proofs.slot_writer.SlotWriter.slot.Goals as goal

-- without a frame the opening is what stands in front of one
opening-none : (phase : ℕ) (frame : Option (List ℕ)) (bits : List Bool) → frame ≡ None → bits ≡ rest_of_flag phase ++ flags 4
    → bits ≡ opening phase frame
opening-none phase frame bits none e = rw none (e ∙ sym (append-nil (rest_of_flag phase ++ flags 4)))

pub returns-in-None-clause-bits : goal.returns-in-None-clause-bits
returns-in-None-clause-bits c =
    let frame : Option (List ℕ) = option_copied c.args.frame in
    let room = subst (λ (w : Writer). length (opening w.phase frame) ≤ 4 * (w.symbols - TAIL)) (sym c.self.view_is) c.requires.room in
    let bits = slot-written c.self.inside.symbols c.self.inside.phase frame _ c.fill-self-inside.new.self c.fill-self-inside.new.out
    (omega arith) (opening-none c.self.inside.phase frame _ (rw c.in-None.is refl) c.opened-flags.ensures)
    c.fill-self-inside.ensures.written in grind (arith)

pub returns-in-None-clause-stands : goal.returns-in-None-clause-stands
returns-in-None-clause-stands c = λ slots h.
    let frame : Option (List ℕ) = option_copied c.args.frame in
    let before = subst (λ (w : Writer). WriterStands w slots) (sym c.self.view_is) h in
    record {
      phase_is = grind (arith, writer-behind, opening-none);
      low = omega (arith, c.fill-self-inside.ensures.phase);
    }
