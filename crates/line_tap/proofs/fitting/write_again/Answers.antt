use Rattle.line_tap.proofs.Cited.{◌∙◌, ◌*◌, ◌-◌, ◌≤◌, ◌++◌, ◌∷◌, [], ℕ, List, length, Some, sym, ap, subst, WriterStands, opening}
use Rattle.line_tap.proofs.Cited.{slot_bits, TAIL, slot_of, FlagSlot, Sent, signal_of, IsCodable}
use Rattle.line_tap.proofs.fitting.write_again.Goals as goal

pub slot-requires-clause-room : goal.slot-requires-clause-room
slot-requires-clause-room c =
    let fits = subst (λ (s : Sent). IsCodable c.args.framing.check c.args.framing.sender c.args.framing.dlci c.args.writer.now.symbols
    c.args.writer.now.phase s) c.in-Frame.is c.requires.codable in
    subst (λ (xs : List ℕ). length (opening c.args.writer.now.phase (Some xs)) ≤ 4 * (c.args.writer.now.symbols - TAIL))
    (sym (c.requires.octets c.in-Frame.field-0 c.in-Frame.is)) fits.room

pub returns-in-Frame-clause-bits : goal.returns-in-Frame-clause-bits
returns-in-Frame-clause-bits c =
    let size : ℕ = 4 * c.args.writer.now.symbols in
    c.slot.ensures.bits
    ∙ ap (λ xs. slot_bits size c.args.writer.now.phase (slot_of size (FlagSlot (Some xs))))
    (c.requires.octets c.in-Frame.field-0 c.in-Frame.is)
    ∙ ap (λ s. slot_bits size c.args.writer.now.phase
    (slot_of size (signal_of c.args.framing.check c.args.framing.sender c.args.framing.dlci s))) (sym c.in-Frame.is)

pub returns-in-Frame-clause-stands : goal.returns-in-Frame-clause-stands
returns-in-Frame-clause-stands c = λ earlier h.
    let size : ℕ = 4 * c.args.writer.now.symbols in
    subst (λ (s : Sent). WriterStands c.slot.new.self
    (earlier ++ slot_of size (signal_of c.args.framing.check c.args.framing.sender c.args.framing.dlci s) ∷ [])) (sym c.in-Frame.is)
    (subst (λ (xs : List ℕ). WriterStands c.slot.new.self (earlier ++ slot_of size (FlagSlot (Some xs)) ∷ []))
    (c.requires.octets c.in-Frame.field-0 c.in-Frame.is) (c.slot.ensures.stands earlier h))
