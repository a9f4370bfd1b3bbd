-- The bits of a slot, and the room that it needs.
use Rattle.gateway.proofs.Names.{ℕ, zero, suc, ◌+◌, ◌-◌, ◌*◌, ◌/◌, ◌≡◌, ◌<◌, ◌≤◌, ◌∷◌, ◌++◌, List, [], Option, Some, None, get_or, length}
use Rattle.gateway.proofs.Names.{take, refl, ap, sym, ◌∙◌, arith, length-append, take_more, line_bits, opening, slot_bits, Flags, Signal}
use Rattle.gateway.proofs.Names.{slots_of, low_bits, given}
use Rattle.std.proofs.lemmas.Grind.{flat_map-append}
use Rattle.std.proofs.Math.Logic.{∥∥₁_map}
use Rattle.std.proofs.lemmas.List.{map-append}
use Rattle.bit_stuffing.specs.Slots.{Slot, IsSlot, phase_after, sent_bits}
use Rattle.bit_stuffing.specs.SlotWriter.{Writer, WriterStands}
use Rattle.detection.specs.Slots.{CanCarry, signal_bits, slot_of}
use Rattle.detection.specs.Slots.Signal.{FlagSlot}

pub length-given : (k : ℕ) (octets : List ℕ) → length (given k octets) ≡ k
length-given zero octets = refl
length-given (suc k) octets = grind (arith, length-append, length-given k octets)

-- a frame that a slot can carry leaves TAIL symbols behind it
pub fits-room : (symbols phase : ℕ) (frame : Option (List ℕ)) → phase < 8 → 138 < symbols → CanCarry (4 * (symbols - 128)) (FlagSlot frame)
    → ((p : ℕ) → p < 8 → length (opening p None) ≤ 39)
    → ((p : ℕ) (octets : List ℕ) → p < 8 → length (opening p (Some octets)) ≤ 47 + 8 * length octets + 8 * length octets / 5)
    → length (opening phase frame) ≤ 4 * (symbols - 128)
fits-room symbols phase q2 low many fits without with_frame = grind (arith)

-- a slot that can carry a frame, or none, is one of slots
pub flags-slot : (symbols phase : ℕ) (frame : Option (List ℕ)) → CanCarry (4 * (symbols - 128)) (FlagSlot frame)
    → length (opening phase frame) ≤ 4 * (symbols - 128)
    → IsSlot (4 * symbols) phase (Flags frame)
flags-slot symbols phase q2 fits room = grind (arith)

-- one quad more
pub quad-more : (slot bits bits' : List ℕ) (place count : ℕ) → place < length slot → given (4 * place) bits ≡ line_bits (take place slot)
    → given count bits' ≡ given (4 * place) bits ++ low_bits 4 (get_or slot place 0)
    → given (4 * (place + 1)) bits' ≡ line_bits (take (place + 1) slot)
quad-more slot bits bits' place count within before put =
    let long : count ≡ 4 * place + 4 = sym (length-given count bits') ∙ ap length put
    ∙ length-append (given (4 * place) bits) (low_bits 4 (get_or slot place 0))
    ∙ ap (λ n. n + 4) (length-given (4 * place) bits) in
    let same : 4 * (place + 1) ≡ count = omega (arith, long) in
    ap (λ n. given n bits') same ∙ put ∙ ap (λ bs. bs ++ low_bits 4 (get_or slot place 0)) before
    ∙ sym (flat_map-append (low_bits 4) (take place slot) (get_or slot place 0 ∷ [])) ∙ ap line_bits (sym (take_more slot place 0 within))

-- one slot more, of the kind that was written
pub stands-more : (before after : Writer) (slot : Slot)
    → ((slots : List Slot) → WriterStands before slots → WriterStands after (slots ++ slot ∷ []))
    → ∥ ((slots : List Slot) × WriterStands before slots) ∥₁ → ∥ ((slots : List Slot) × WriterStands after slots) ∥₁
stands-more before after slot more some = ∥∥₁_map some (λ stands. (stands.0 ++ slot ∷ [], more stands.0 stands.1))

-- the bits of one slot more, which are put as octets
pub slot-more : (symbols w phase : ℕ) (signals : List Signal) (signal : Signal) (out bits : List ℕ) → w ≡ symbols
    → phase ≡ phase_after (4 * w) (slots_of (4 * symbols) signals) → length out ≡ w
    → line_bits out ≡ slot_bits (4 * w) phase (slot_of (4 * w) signal)
    → given (4 * length out) bits ≡ line_bits out
    → ((size : ℕ) (slots : List Slot) (slot : Slot)
    → sent_bits size (slots ++ slot ∷ []) ≡ sent_bits size slots ++ slot_bits size (phase_after size slots) slot)
    → signal_bits (4 * symbols) (signals ++ signal ∷ []) ≡ signal_bits (4 * symbols) signals ++ given (4 * symbols) bits
slot-more symbols w phase signals signal out bits e phase_is count line put grows = grind (arith, map-append)

-- it stands behind the others
pub stands-behind : (writer : Writer) (symbols w : ℕ) (signals : List Signal) (signal : Signal) → w ≡ symbols
    → WriterStands writer (slots_of (4 * symbols) signals ++ slot_of (4 * w) signal ∷ [])
    → WriterStands writer (slots_of (4 * symbols) (signals ++ signal ∷ []))
stands-behind writer symbols w signals signal e stands = grind (arith, map-append)
