-- Flags in a row, the last of which may be cut, and the bits of slots.
use Rattle.bit_stuffing.proofs.Names.{◌≡◌, ℕ, zero, suc, ◌+◌, ◌-◌, ◌*◌, ◌%◌, ◌<◌, ◌≤◌, Bool, List, Option, [], ◌∷◌, ◌++◌, length}
use Rattle.bit_stuffing.proofs.Names.{arith, append_assoc, length-append, refl, sym, ◌∙◌, ap, append-nil, line_bits, flag, written, Slot}
use Rattle.bit_stuffing.proofs.Names.{flags, fill, opening, slot_bits, next_phase, bits_from, phase_from, Flags, Pen, low_bits}
use Rattle.bit_stuffing.proofs.Between.{take-length}
use Rattle.bit_stuffing.proofs.Written.{length-written}

pub length-flags : (n : ℕ) → length (flags n) ≡ 8 * n
length-flags zero = refl
length-flags (suc n) = omega (arith, length-append {A = Bool} flag (flags n), length-flags n)

pub length-fill : (n : ℕ) → length (fill n) ≡ n
length-fill n = grind (arith, length-append, flags, length-flags, take-length)

pub flags-snoc : (n : ℕ) → flags n ++ flag ≡ flags (suc n)
flags-snoc zero = refl
flags-snoc (suc n) = append_assoc flag (flags n) flag ∙ ap (λ t. flag ++ t) (flags-snoc n)

-- the phase behind slots
pub phase-append : (size phase : ℕ) (slots : List Slot) (slot : Slot)
    → phase_from size phase (slots ++ slot ∷ []) ≡ next_phase size (phase_from size phase slots) slot
phase-append size phase [] slot = refl
phase-append size phase (one ∷ slots) slot = phase-append size (next_phase size phase one) slots slot

pub next-low : (size phase : ℕ) (slot : Slot) → next_phase size phase slot < 8
next-low size phase slot = grind (arith)

pub phase-low : (size phase : ℕ) (slots : List Slot) → phase < 8 → phase_from size phase slots < 8
phase-low size phase [] h = h
phase-low size phase (slot ∷ slots) h = phase-low size (next_phase size phase slot) slots (next-low size phase slot)

pub bits-append : (size phase : ℕ) (slots : List Slot) (slot : Slot)
    → bits_from size phase (slots ++ slot ∷ []) ≡ bits_from size phase slots ++ slot_bits size (phase_from size phase slots) slot
bits-append size phase [] slot = append-nil (slot_bits size phase slot)
bits-append size phase (x ∷ slots) slot =
    ap (λ l. slot_bits size phase x ++ l) (bits-append size (next_phase size phase x) slots slot)
    ∙ sym (append_assoc (slot_bits size phase x) (bits_from size (next_phase size phase x) slots)
    (slot_bits size (phase_from size (next_phase size phase x) slots) slot))

-- a slot is written once flags fill it up
pub filled-up : (bits : List Bool) (size : ℕ) → length bits ≤ size → length (bits ++ fill (size - length bits)) ≡ size
filled-up bits size h = omega (arith, length-append {A = Bool} bits (fill (size - length bits)), length-fill (size - length bits))

pub slot-written : (symbols phase : ℕ) (frame : Option (List ℕ)) (front : List Bool) (pen : Pen) (quads : List ℕ)
    → length (opening phase frame) ≤ 4 * symbols → front ≡ opening phase frame
    → written pen quads ≡ front ++ fill (4 * symbols - length front) → line_bits quads ≡ slot_bits (4 * symbols) phase (Flags frame)
slot-written symbols phase frame front pen quads fits front_is e =
    let bits = opening phase frame in
    let all = e ∙ ap (λ (t : List Bool). t ++ fill (4 * symbols - length t)) front_is in
    let none : pen.held ≡ 0 = omega (arith, pen.few, ap length all, filled-up bits (4 * symbols) fits, length-written pen quads) in
    sym (append-nil (line_bits quads)) ∙ ap (λ n. line_bits quads ++ low_bits n pen.part) (sym none) ∙ all

-- and the writer stands behind it
pub writer-behind : (symbols phase next : ℕ) (frame : Option (List ℕ)) (front : List Bool) (slots : List Slot) → front ≡ opening phase frame
    → next ≡ (4 * symbols - length front) % 8 → phase ≡ phase_from (4 * symbols) 0 slots
    → next ≡ phase_from (4 * symbols) 0 (slots ++ Flags frame ∷ [])
writer-behind symbols phase next frame front slots front_is next_is phase_is = grind (arith, phase-append)
