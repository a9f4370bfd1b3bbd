-- What is found in slots is what was sent in them.
use Rattle.bit_stuffing.proofs.Names.{◌≡◌, ◌⊎◌, ℕ, ◌+◌, ◌-◌, ◌%◌, ◌<◌, ◌≤◌, Bool, true, false, List, [], ◌∷◌, ◌++◌, All, length}
use Rattle.bit_stuffing.proofs.Names.{Some, None, arith, append_assoc, length-append, refl, sym, ◌∙◌, ap, subst, append-nil, All-append}
use Rattle.bit_stuffing.proofs.Names.{All-cons, All-nil, Found, listed, IsWhole, content, Slot, flags, fill, rest_of_flag, opening}
use Rattle.bit_stuffing.proofs.Names.{slot_bits, next_phase, bits_from, phase_from, sent_bits, IsFrame, IsSlot, Plain, Flags, stuffed}
use Rattle.bit_stuffing.proofs.Names.{Whole, Aborted, bits_of}
use Rattle.bit_stuffing.specs.Found.{found_at, pieces_of}
use Rattle.bit_stuffing.specs.Slots.{phase_after, flags_behind, frames_of, AreSlots}
use Rattle.bit_stuffing.specs.Sent.{Added, whole_at, FoundIn, SlotAdds, octets_if_whole, wholes}
use Rattle.bit_stuffing.proofs.Stuffed.{stuffs-stuffed}
use Rattle.bit_stuffing.proofs.Found.{found-place, found-whole, pieces-none}
use Rattle.bit_stuffing.proofs.Fill.{bits-append}
use Rattle.bit_stuffing.proofs.Counters.{Counters, Counts, run, run-append, counts-run, counts-step, along, along-append, along-still}
use Rattle.bit_stuffing.proofs.Counters.{pieces-along}
use Rattle.bit_stuffing.proofs.States.{open_at, shut, Between, seven, run-fill, run-empty}
use Rattle.bit_stuffing.proofs.Frames.{Framed, frame-found, before_last, slot-split, last_place, bits-some, InFrame, in-frame}
use Rattle.bit_stuffing.proofs.Plain.{counts-start, plain-shut, plain-none, plain-once}

sent-whole : (sent : List ℕ) → IsFrame sent → IsWhole (stuffed 5 (bits_of sent)) sent
sent-whole sent f = assumption (stuffs-stuffed 0 5 (bits_of sent) refl)

-- the frame of a slot is found at its closing flag
module _ (past : List Bool) (behind : Bool) (k : Counters) (phase : ℕ) (sent : List ℕ) (h : Counts k past)
    (between : Between behind k phase) (frame : IsFrame sent) where
  states : InFrame phase k sent
  states = in-frame behind phase k sent between frame.low

  opened : Counts (open_at 0) (past ++ (rest_of_flag phase ++ flags 4))
  opened = subst (λ x. Counts x (past ++ (rest_of_flag phase ++ flags 4))) states.head (counts-run k past (rest_of_flag phase ++ flags 4) h)

  framed : Framed (past ++ (rest_of_flag phase ++ flags 4)) (stuffed 5 (bits_of sent) ++ seven) sent
  framed = frame-found (past ++ (rest_of_flag phase ++ flags 4)) sent opened (bits-some sent frame.low)

  found-last : found_at ((past ++ before_last phase sent) ++ false ∷ []) ≡ Some
      (whole_at (length past + length (opening phase (Some sent))) sent)
  found-last =
      let joined : (past ++ (rest_of_flag phase ++ flags 4)) ++ (stuffed 5 (bits_of sent) ++ seven) ≡ past ++ before_last phase sent =
      append_assoc past (rest_of_flag phase ++ flags 4) (stuffed 5 (bits_of sent) ++ seven) in
      let bits : List Bool = (past ++ (rest_of_flag phase ++ flags 4)) ++ (stuffed 5 (bits_of sent) ++ seven) in
      let whole : IsWhole (content (bits ++ false ∷ []) framed.closed.opened) sent = grind (arith, framed, sent-whole) in
      let place : length (bits ++ false ∷ []) ≡ length past + length (opening phase (Some sent))
      = grind (arith, length-append, last_place) in
      ap (λ l. found_at (l ++ false ∷ [])) (sym joined) ∙ found-whole bits false framed.closed sent whole
      ∙ ap (λ n. Some (whole_at n sent)) place

  behind-last : Counts (open_at 0) ((past ++ before_last phase sent) ++ false ∷ [])
  behind-last = counts-step (record { ones = 6; since = Some 8 }) (past ++ before_last phase sent) false
      (subst (λ x. Counts x (past ++ before_last phase sent)) states.front.0 (counts-run k past (before_last phase sent) h))

  frame-along : (n : ℕ)
      → along past (before_last phase sent ++ false ∷ fill n) ≡ whole_at (length past + length (opening phase (Some sent))) sent ∷ []
  frame-along n =
      let front = along-still k past (before_last phase sent) h states.front.1 in
      let rest = along-still (open_at 0) ((past ++ before_last phase sent) ++ false ∷ []) (fill n) behind-last (run-fill n).1 in
      along-append past (before_last phase sent) (false ∷ fill n) ∙ rw (front, found-last, rest) refl

  frame-state : (n : ℕ) → run k (before_last phase sent ++ false ∷ fill n) ≡ open_at (n % 8)
  frame-state n = run-append k (before_last phase sent) (false ∷ fill n) ∙ ap (λ x. run x (false ∷ fill n)) states.front.0 ∙ (run-fill n).0

-- what a slot leaves behind
pub record Leaves (size : ℕ) (past : List Bool) (behind : Bool) (phase : ℕ) (slot : Slot) : Type 0 where
  pub found : FoundIn size (length past) phase behind slot (along past (slot_bits size phase slot))
  pub state : Counters
  pub counts : Counts state (past ++ slot_bits size phase slot)
  pub between : Between (flags_behind behind (slot ∷ [])) state (next_phase size phase slot)

pub slot-leaves : (size : ℕ) (past : List Bool) (behind : Bool) (k : Counters) (phase : ℕ) (slot : Slot) → Counts k past
    → Between behind k phase → IsSlot size phase slot → Leaves size past behind phase slot
slot-leaves size past true k phase (Plain bits) h b is = record {
  found = plain-once past bits size is phase b.1 (subst (λ x. Counts x past) b.0 h);
  state = shut;
  counts = plain-shut past bits size is;
  between = (refl, refl);
}
slot-leaves size past false k phase (Plain bits) h b is = record {
  found = plain-none past bits size is (subst (λ x. Counts x past) b.0 h);
  state = shut;
  counts = plain-shut past bits size is;
  between = (refl, refl);
}
slot-leaves size past behind k phase (Flags None) h b is =
    let r = run-empty behind (size - length (opening phase None)) phase k b in
    record {
      found = along-still k past (slot_bits size phase (Flags None)) h r.1;
      state = run k (slot_bits size phase (Flags None));
      counts = counts-run k past (slot_bits size phase (Flags None)) h;
      between = (r.0, omega arith);
    }
slot-leaves size past behind k phase (Flags (Some sent)) h b is =
    let n = size - length (opening phase (Some sent)) in
    let split = slot-split size phase sent in
    record {
      found = ap (along past) split ∙ frame-along past behind k phase sent h b is.0 n;
      state = run k (slot_bits size phase (Flags (Some sent)));
      counts = counts-run k past (slot_bits size phase (Flags (Some sent))) h;
      between = (ap (run k) split ∙ frame-state past behind k phase sent h b is.0 n, omega arith);
    }

-- what slots leave behind
pub record LeaveAll (size : ℕ) (past : List Bool) (behind : Bool) (phase : ℕ) (slots : List Slot) : Type 0 where
  pub state : Counters
  pub counts : Counts state (past ++ bits_from size phase slots)
  pub between : Between (flags_behind behind slots) state (phase_from size phase slots)

-- the state behind one more slot
flags_behind-more : (behind : Bool) (slot : Slot) (slots : List Slot)
    → flags_behind (flags_behind behind (slot ∷ [])) slots ≡ flags_behind behind (slot ∷ slots)
flags_behind-more behind slot slots = grind (arith)

pub slots-leave : (size : ℕ) (past : List Bool) (behind : Bool) (k : Counters) (phase : ℕ) (slots : List Slot) → Counts k past
    → Between behind k phase → AreSlots size phase slots → LeaveAll size past behind phase slots
slots-leave size past behind k phase [] h b are = record { state = k; counts = subst (Counts k) (sym (append-nil past)) h; between = b }
slots-leave size past behind k phase (slot ∷ slots) h b are =
    let l = slot-leaves size past behind k phase slot h b are.0 in
    let r = slots-leave size (past ++ slot_bits size phase slot) (flags_behind behind (slot ∷ [])) l.state
    (next_phase size phase slot) slots l.counts l.between are.1 in
    record {
      state = r.state;
      counts = subst (Counts r.state)
          (append_assoc past (slot_bits size phase slot) (bits_from size (next_phase size phase slot) slots)) r.counts;
      between = subst (λ f. Between f r.state (phase_from size (next_phase size phase slot) slots))
          (flags_behind-more behind slot slots) r.between;
    }

pub are-split : (size phase : ℕ) (slots : List Slot) (slot : Slot) → AreSlots size phase (slots ++ slot ∷ [])
    → AreSlots size phase slots × IsSlot size (phase_from size phase slots) slot
are-split size phase [] slot h = (tt, h.0)
are-split size phase (x ∷ slots) slot h = let r = are-split size (next_phase size phase x) slots slot h.1 in ((h.0, r.0), r.1)

pub found-is-sent : (size : ℕ) (before : List Slot) (slot : Slot) → AreSlots size 0 (before ++ slot ∷ [])
    → (added : List Found) × SlotAdds size before slot added
found-is-sent size before slot are =
    let parts = are-split size 0 before slot are in
    let all = slots-leave size [] false shut 0 before counts-start (refl, refl) parts.0 in
    let l = slot-leaves size (sent_bits size before) (flags_behind false before) all.state
    (phase_after size before) slot all.counts all.between parts.1 in (
      along (sent_bits size before) (slot_bits size (phase_after size before) slot),
      record {
        all = ap pieces_of (bits-append size 0 before slot)
            ∙ pieces-along (sent_bits size before) (slot_bits size (phase_after size before) slot);
        found = l.found;
      },
    )

-- the pieces of bits stay

within-along : (past more : List Bool)
    → All (λ found. (length past < found.place) × (found.place ≤ length (past ++ more))) (along past more)
within-along past [] = All-nil (λ found. (length past < found.place) × (found.place ≤ length (past ++ [])))
within-along past (b ∷ more) =
    All-append (λ found. (length past < found.place) × (found.place ≤ length (past ++ b ∷ more))) (listed (found_at (past ++ b ∷ [])))
    (along (past ++ b ∷ []) more)
    (λ k d h. let e = found-place past b k d h in (omega arith, omega (arith, length-append {A = Bool} past (b ∷ more))))
    (λ k d h.
    let e = within-along (past ++ b ∷ []) more k d h in
    (omega (arith, e.0, length-append {A = Bool} past (b ∷ [])), omega (arith, e.1, ap length (append_assoc past (b ∷ []) more))))

pub pieces-stay : (bits more : List Bool) → (added : List Found) × Added bits more added
pieces-stay bits more = (along bits more, record { all = pieces-along bits more; places = within-along bits more })

-- all slots together

pub wholes-append : (xs ys : List Found) → wholes (xs ++ ys) ≡ wholes xs ++ wholes ys
wholes-append [] ys = refl
wholes-append (x ∷ xs) ys =
    ap (λ t. octets_if_whole x.piece x.octets ++ t) (wholes-append xs ys)
    ∙ sym (append_assoc (octets_if_whole x.piece x.octets) (wholes xs) (wholes ys))

frames_of-append : (slots : List Slot) (slot : Slot) → frames_of (slots ++ slot ∷ []) ≡ frames_of slots ++ frames_of (slot ∷ [])
frames_of-append [] slot = refl
frames_of-append (Plain bits ∷ slots) slot = frames_of-append slots slot
frames_of-append (Flags None ∷ slots) slot = frames_of-append slots slot
frames_of-append (Flags (Some octets) ∷ slots) slot = ap (λ t. octets ∷ t) (frames_of-append slots slot)

abbrev pub IsExpected : Found → Type 0
IsExpected found = (found.piece ≡ Whole) ⊎ (found.piece ≡ Aborted)

pub record AreExpected (found : List Found) (frames : List (List ℕ)) : Type 0 where
  pub octets : wholes found ≡ frames
  pub pieces : All IsExpected found

one_expected : (found : Found) → IsExpected found → All IsExpected (found ∷ [])
one_expected found h = All-cons IsExpected found [] h (All-nil IsExpected)

slot-expected : (size start phase : ℕ) (behind : Bool) (slot : Slot) (found : List Found) → FoundIn size start phase behind slot found
    → AreExpected found (frames_of (slot ∷ []))
slot-expected size start phase behind slot found h = grind (arith, one_expected)

both_expected : (xs ys : List Found) (frames more : List (List ℕ)) → AreExpected xs frames → AreExpected ys more
    → AreExpected (xs ++ ys) (frames ++ more)
both_expected xs ys frames more h g =
    record { octets = wholes-append xs ys ∙ rw (h.octets, g.octets) refl; pieces = All-append IsExpected xs ys h.pieces g.pieces }

are-front : (size phase : ℕ) (slots more : List Slot) → AreSlots size phase (slots ++ more) → AreSlots size phase slots
are-front size phase [] more h = tt
are-front size phase (slot ∷ slots) more h = (h.0, are-front size (next_phase size phase slot) slots more h.1)

expected-more : (size : ℕ) (before more : List Slot) → AreSlots size 0 (before ++ more)
    → AreExpected (pieces_of (sent_bits size before)) (frames_of before)
    → AreExpected (pieces_of (sent_bits size (before ++ more))) (frames_of (before ++ more))
expected-more size before [] are h = subst (λ s. AreExpected (pieces_of (sent_bits size s)) (frames_of s)) (sym (append-nil before)) h
expected-more size before (slot ∷ more) are h =
    let split : (before ++ slot ∷ []) ++ more ≡ before ++ slot ∷ more = append_assoc before (slot ∷ []) more in
    let are_split : AreSlots size 0 ((before ++ slot ∷ []) ++ more) = subst (AreSlots size 0) (sym split) are in
    let one = found-is-sent size before slot (are-front size 0 (before ++ slot ∷ []) more are_split) in
    let all = both_expected (pieces_of (sent_bits size before)) one.0 (frames_of before) (frames_of (slot ∷ [])) h
    (slot-expected size (length (sent_bits size before)) (phase_after size before) (flags_behind false before) slot one.0 one.1.found)
    in
    let next : AreExpected (pieces_of (sent_bits size (before ++ slot ∷ []))) (frames_of (before ++ slot ∷ [])) =
    rw (one.1.all, frames_of-append before slot) all in
    subst (λ s. AreExpected (pieces_of (sent_bits size s)) (frames_of s)) split
    (expected-more size (before ++ slot ∷ []) more are_split next)

pub all-expected : (size : ℕ) (slots : List Slot) → AreSlots size 0 slots → AreExpected (pieces_of (sent_bits size slots)) (frames_of slots)
all-expected size slots are = expected-more size [] slots are (rw pieces-none (record { octets = refl; pieces = All-nil IsExpected }))
