use Rattle.sample_line.proofs.Names.{◌≡◌, ◌∙◌, ◌*◌, ◌-◌, ◌≤◌, ℕ, List, [], ◌∷◌, ◌++◌, length, Some, sym, ap, subst, WriterStands, slot_bits}
use Rattle.sample_line.proofs.Names.{slot_of, Sent, signal_of, IsCodable}
use Rattle.bit_stuffing.specs.declared.slot_writer.TheConstants.{TAIL}
use Rattle.bit_stuffing.specs.Slots.{opening}
use Rattle.detection.specs.Slots.Signal.{FlagSlot}
use Rattle.sample_line.proofs.coding.write_sent.Goals as goal

-- the octets that the slot writer takes are those of the frame with its check
octets-are : (head information check whole first third : List ℕ) → first ≡ head → third ≡ check
    → head ++ information ++ check ≡ whole → first ++ information ++ third ≡ whole
octets-are head information check whole first third first_is third_is e = rw (first_is, third_is) e

pub framed-requires-clause-room : goal.framed-requires-clause-room
framed-requires-clause-room c =
    let fits = subst (λ (s : Sent). IsCodable c.args.framing.check c.args.framing.sender c.args.framing.dlci c.args.writer.now.symbols
    c.args.writer.now.phase s)
    c.in-Frame.is c.requires.codable in
    subst (λ (xs : List ℕ). length (opening c.args.writer.now.phase (Some xs)) ≤ 4 * (c.args.writer.now.symbols - TAIL))
    (sym (octets-are _ _ _ _ _ _ c.as_slice.ensures.items c.as_slice-in-Frame.ensures.items c.check_parts-parts.ensures.octets)) fits.room

pub returns-in-Frame-clause-bits : goal.returns-in-Frame-clause-bits
returns-in-Frame-clause-bits c =
    let size : ℕ = 4 * c.args.writer.now.symbols in
    c.framed.ensures.bits
    ∙ ap (λ xs. slot_bits size c.args.writer.now.phase (slot_of size (FlagSlot (Some xs))))
    (octets-are _ _ _ _ _ _ c.as_slice.ensures.items c.as_slice-in-Frame.ensures.items c.check_parts-parts.ensures.octets)
    ∙ ap (λ s. slot_bits size c.args.writer.now.phase
    (slot_of size (signal_of c.args.framing.check c.args.framing.sender c.args.framing.dlci s)))
    (sym c.in-Frame.is)

pub returns-in-Mark-clause-bits : goal.returns-in-Mark-clause-bits
returns-in-Mark-clause-bits c =
    let size : ℕ = 4 * c.args.writer.now.symbols in
    c.write_mark.ensures.bits ∙ ap (λ s. slot_bits size c.args.writer.now.phase
    (slot_of size (signal_of c.args.framing.check c.args.framing.sender c.args.framing.dlci s))) (sym c.in-Mark.is)

pub returns-in-Mark-clause-stands : goal.returns-in-Mark-clause-stands
returns-in-Mark-clause-stands c slots h =
    subst (λ (s : Sent). WriterStands c.write_mark.new.writer
    (slots ++ slot_of (4 * c.args.writer.now.symbols) (signal_of c.args.framing.check c.args.framing.sender c.args.framing.dlci s) ∷
    []))
    (sym c.in-Mark.is) (c.write_mark.ensures.stands slots h)

pub returns-in-Odp-clause-bits : goal.returns-in-Odp-clause-bits
returns-in-Odp-clause-bits c =
    let size : ℕ = 4 * c.args.writer.now.symbols in
    c.write_patterns.ensures.bits ∙ ap
    (λ s. slot_bits size c.args.writer.now.phase
    (slot_of size (signal_of c.args.framing.check c.args.framing.sender c.args.framing.dlci s))) (sym c.in-Odp.is)

pub returns-in-Odp-clause-stands : goal.returns-in-Odp-clause-stands
returns-in-Odp-clause-stands c slots h =
    subst (λ (s : Sent). WriterStands c.write_patterns.new.writer
    (slots ++ slot_of (4 * c.args.writer.now.symbols) (signal_of c.args.framing.check c.args.framing.sender c.args.framing.dlci s) ∷
    []))
    (sym c.in-Odp.is) (c.write_patterns.ensures.stands slots h)

pub returns-in-Adp-clause-bits : goal.returns-in-Adp-clause-bits
returns-in-Adp-clause-bits c =
    let size : ℕ = 4 * c.args.writer.now.symbols in
    c.write_patterns-in-Adp.ensures.bits
    ∙ ap (λ s. slot_bits size c.args.writer.now.phase
    (slot_of size (signal_of c.args.framing.check c.args.framing.sender c.args.framing.dlci s))) (sym c.in-Adp.is)

pub returns-in-Adp-clause-stands : goal.returns-in-Adp-clause-stands
returns-in-Adp-clause-stands c slots h =
    subst (λ (s : Sent). WriterStands c.write_patterns-in-Adp.new.writer
    (slots ++ slot_of (4 * c.args.writer.now.symbols) (signal_of c.args.framing.check c.args.framing.sender c.args.framing.dlci s) ∷
    []))
    (sym c.in-Adp.is) (c.write_patterns-in-Adp.ensures.stands slots h)
