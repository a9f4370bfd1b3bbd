-- Where a frame alone ends among the bits of a slot.
use Rattle.gateway.proofs.Names.{ℕ, zero, suc, ◌+◌, ◌-◌, ◌*◌, ◌≡◌, ◌<◌, ◌≤◌, ◌∷◌, ◌++◌, Bool, true, false, List, [], Option, Some, nat_eq}
use Rattle.gateway.proofs.Names.{get_or, length, take, refl, ap, sym, subst, ◌∙◌, arith, append_assoc, length-append, is_some, line_bits}
use Rattle.gateway.proofs.Names.{answer_of, pieces_of, opening, slot_bits, Flags, given}
use Rattle.std.proofs.Common.{zero-add}
use Rattle.std.specs.Option.{option_map}
use Rattle.std.specs.Prelude.{All}
use Rattle.std.proofs.lemmas.List.{append-nil}
use Rattle.std.proofs.Math.Seq.{take-append_seam}
use Rattle.bit_stuffing.specs.Found.{Found, found_at, listed}
use Rattle.bit_stuffing.specs.Sent.{Added, SlotAdds, whole_at}
use Rattle.bit_stuffing.specs.Slots.{AreSlots, IsFrame, Slot, fill}
use Rattle.gateway.specs.FrameBits.{OpensFrame}
use Rattle.gateway.proofs.Slotted.{length-given}

-- the bits of more octets begin with those of fewer
pub given-grows : (more n k : ℕ) → n ≡ more + k → (octets : List ℕ) → (rest : List Bool) × (given n octets ≡ given k octets ++ rest)
given-grows zero n k e octets = ([], ap (λ j. given j octets) (e ∙ zero-add k) ∙ sym (append-nil (given k octets)))
given-grows (suc more) n k e octets =
    let before = given-grows more (more + k) k refl octets in
    let bit : Bool = nat_eq (get_or octets (more + k) 0) 1 in
    let same : n ≡ suc (more + k) = omega (arith, e) in (
      before.0 ++ bit ∷ [],
      ap (λ j. given j octets) same ∙ ap (λ bits. bits ++ bit ∷ []) before.1
          ∙ append_assoc (given k octets) before.0 (bit ∷ []),
    )

-- the first of the pieces ends at the one place that is left for it
only-end : (at : Option Found) (added tail : List Found) (place : ℕ) (found : Found) → is_some (option_map (λ f. f.piece) at) ≡ true
    → added ≡ listed at
    → All (λ f. (place < f.place) × (f.place ≤ place + 1)) added → listed at ++ tail ≡ found ∷ [] → place + 1 ≡ found.place
only-end at added tail place found some same places whole = grind (arith)

not-listed : (at : Option Found) → is_some (option_map (λ f. f.piece) at) ≡ false → listed at ≡ []
not-listed q0 none = grind (arith)

-- a piece ends with the bit at this place, and none before it: it is the one piece that all bits have
pub first-ends : (octets : List ℕ) (place count : ℕ) (found : Found) → place < count → pieces_of (given place octets) ≡ []
    → is_some (answer_of (given place octets ++ nat_eq (get_or octets place 0) 1 ∷ [])) ≡ true
    → ((bits : List Bool) (bit : Bool) → pieces_of (bits ++ bit ∷ []) ≡ pieces_of bits ++ listed (found_at (bits ++ bit ∷ [])))
    → ((bits more : List Bool) → (added : List Found) × Added bits more added)
    → pieces_of (given count octets) ≡ found ∷ [] → place + 1 ≡ found.place
first-ends octets place count found within quiet some grow stay whole =
    let bits : List Bool = given place octets in
    let bit : Bool = nat_eq (get_or octets place 0) 1 in
    let one : List Bool = bits ++ bit ∷ [] in
    let here = stay bits (bit ∷ []) in
    let split = given-grows (count - suc place) count (suc place) (omega (arith, within)) octets in
    let behind = stay one split.0 in
    let pieces : pieces_of one ≡ listed (found_at one) = grow bits bit ∙ ap (λ fs. fs ++ listed (found_at one)) quiet in
    let added : here.0 ≡ listed (found_at one) = ap (λ fs. fs ++ here.0) (sym quiet) ∙ sym here.1.all ∙ pieces in
    let all : listed (found_at one) ++ behind.0 ≡ found ∷ [] =
    ap (λ fs. fs ++ behind.0) (sym pieces) ∙ sym behind.1.all ∙ ap pieces_of (sym split.1) ∙ whole in
    let long : length one ≡ place + 1 = length-append bits (bit ∷ []) ∙ ap (λ n. n + 1) (length-given place octets) in
    let places : All (λ f. (place < f.place) × (f.place ≤ place + 1)) here.0 = λ k d low. let p = here.1.places k d low in (
      subst (λ (n : ℕ). n < (get_or here.0 k d).place) (length-given place octets) p.0,
      subst (λ (n : ℕ). (get_or here.0 k d).place ≤ n) long p.1,
    ) in
    only-end (found_at one) here.0 behind.0 place found some added places all

-- no piece ends with the bit at this place either
pub none-ends : (octets : List ℕ) (place next : ℕ) → next ≡ suc place → pieces_of (given place octets) ≡ []
    → is_some (answer_of (given place octets ++ nat_eq (get_or octets place 0) 1 ∷ [])) ≡ false
    → ((bits : List Bool) (bit : Bool) → pieces_of (bits ++ bit ∷ []) ≡ pieces_of bits ++ listed (found_at (bits ++ bit ∷ [])))
    → pieces_of (given next octets) ≡ []
none-ends octets place next e quiet none grow = grind (arith, not-listed)

-- a frame alone in a slot is the one piece of its bits
pub frame-alone : (size : ℕ) (octets : List ℕ) → IsFrame octets → length (opening 0 (Some octets)) ≤ size
    → ((n : ℕ) (before : List Slot) (slot : Slot) → AreSlots n 0 (before ++ slot ∷ []) → (added : List Found)
    × SlotAdds n before slot added)
    → pieces_of [] ≡ [] → pieces_of (slot_bits size 0 (Flags (Some octets))) ≡ whole_at (length (opening 0 (Some octets))) octets ∷ []
frame-alone size octets is_frame fits sent none =
    let slot : Slot = Flags (Some octets) in
    let adds = sent size [] slot ((is_frame, fits), tt) in
    ap pieces_of (sym (append-nil (slot_bits size 0 slot))) ∙ adds.1.all ∙ ap (λ fs. fs ++ adds.0) none ∙ adds.1.found
    ∙ ap (λ n. whole_at n octets ∷ []) (zero-add (length (opening 0 (Some octets))))

-- the first bits of those that are given
given-take : (k n : ℕ) → k ≤ n → (octets : List ℕ) → given k octets ≡ take k (given n octets)
given-take k n le octets =
    let split = given-grows (n - k) n k (omega (arith, le)) octets in
    sym (take-append_seam (given k octets) split.0) ∙ ap (λ j. take j (given k octets ++ split.0)) (length-given k octets)
    ∙ ap (take k) (sym split.1)

-- the bits of a frame alone in a slot, which are put as octets
pub slot-alone : (symbols w phase : ℕ) (octets out bits : List ℕ) → w ≡ symbols → phase ≡ 0 → length out ≡ w
    → line_bits out ≡ slot_bits (4 * w) phase (Flags (Some octets)) → given (4 * length out) bits ≡ line_bits out
    → given (4 * symbols) bits ≡ slot_bits (4 * symbols) 0 (Flags (Some octets))
slot-alone symbols w phase octets out bits e none count line put = grind (arith)

-- they are the frame's where the place is that at which its piece ends
pub opens : (size count : ℕ) (octets bits : List ℕ) → size ≡ 10460 → IsFrame octets → length (opening 0 (Some octets)) ≤ size
    → size ≤ length bits
    → given size bits ≡ slot_bits size 0 (Flags (Some octets))
    → ((found : Found) → pieces_of (given size bits) ≡ found ∷ [] → count ≡ found.place)
    → ((n : ℕ) (before : List Slot) (slot : Slot) → AreSlots n 0 (before ++ slot ∷ []) → (added : List Found)
    × SlotAdds n before slot added)
    → pieces_of [] ≡ [] → OpensFrame octets bits count
opens size count octets bits most is_frame fits room given_is first sent none =
    let line : List Bool = opening 0 (Some octets) in
    let ends : count ≡ length line = first (whole_at (length line) octets)
    (ap pieces_of given_is ∙ frame-alone size octets is_frame fits sent none) in
    record {
      is_frame = is_frame;
      room = omega (arith, most, room);
      within = omega (arith, ends, fits, room);
      bits_are = ap (λ k. given k bits) ends ∙ given-take (length line) size fits bits ∙ ap (take (length line)) given_is
          ∙ take-append_seam line (fill (size - length line));
    }
