-- What is found in the bits of slots ends well before their last bit, so that it is found as well where some of the last bits are not yet
-- read.
use Rattle.line_run.proofs.Cited.{◌≡◌, ◌∙◌, ℕ, zero, suc, ◌+◌, ◌*◌, ◌<◌, ◌≤◌, Bool, false, List, [], ◌∷◌, ◌++◌, length, All, refl, sym, ap}
use Rattle.line_run.proofs.Cited.{subst, arith, append-nil, append_assoc, length-append, drop-append_seam, map-append, All-nil, All-cons}
use Rattle.line_run.proofs.Cited.{All-append, All-head, All-tail, pieces-stay, length-slot_bits, Found, pieces_of, FoundIn, wholes}
use Rattle.line_run.proofs.Cited.{AreSlots, Slot, flags_behind, phase_after, sent_bits, slot_bits, Sight, seen_in, sights_from, sights_of}
use Rattle.line_run.proofs.Cited.{Signal, signal_bits, slot_of, slots_of, Seen, AreFit, Fits}
use Rattle.std.proofs.lemmas.List.Elements.{All-drop, All-weaker}
use Rattle.bit_stuffing.specs.declared.piece.Piece.{Piece}
use Rattle.bit_stuffing.specs.declared.piece.Piece.TheVariants.{Whole}
use Rattle.bit_stuffing.specs.Sent.{octets_if_whole}
use Rattle.bit_stuffing.proofs.Found.{pieces-none}
use Rattle.bit_stuffing.proofs.Sent.{found-is-sent}
use Rattle.bit_stuffing.proofs.Fill.{bits-append, phase-low}
use Rattle.line_run.proofs.Patterns.{AreSeen, none-seen}
use Rattle.line_run.proofs.Fits.{fit-slot, fit-slots, fit-front, fit-last}

-- a whole piece that ends so many bits before that place, or another piece
abbrev pub IsEarly : ℕ → ℕ → Found → Type 0
IsEarly lag end found = found.piece ≡ Whole → found.place + lag ≤ end

-- each whole piece and each sight of a pattern ends so many bits before the last bit
pub record Settled (lag : ℕ) (bits : List Bool) : Type 0 where
  pub pieces : All (IsEarly lag (length bits)) (pieces_of bits)
  pub sights : All (λ (sight : Sight). sight.place + lag ≤ length bits) (sights_of bits)

-- slots of a size that leaves so many bits behind all that is found in them
pub record LeavesTime (lag size : ℕ) : Type 0 where
  pub long : 552 < size
  pub frames : lag ≤ 512
  pub patterns : 359 + lag ≤ size

-- what one slot adds

slot-early : (lag size start phase : ℕ) (behind : Bool) (signal : Signal) (added : List Found) → lag ≤ 512 → Fits size phase signal
    → FoundIn size start phase behind (slot_of size signal) added
    → All (IsEarly lag (start + size)) added
slot-early lag size start phase behind signal added few fits h = grind (arith)

pattern-early : (lag count start place end : ℕ) (seen : Seen) → start + place + 36 * count + lag ≤ end + 36
    → All (λ (sight : Sight). sight.place + lag ≤ end) (sights_from count start place seen)
pattern-early lag zero start place end seen h = All-nil (λ (sight : Sight). sight.place + lag ≤ end)
pattern-early lag (suc count) start place end seen h =
    All-cons (λ (sight : Sight). sight.place + lag ≤ end) (record { place = start + place; seen = seen })
    (sights_from count start (place + 36) seen) (omega (arith, h))
    (pattern-early lag count start (place + 36) end seen (omega (arith, h)))

sights-early : (lag size start : ℕ) (signal : Signal) → 359 + lag ≤ size
    → All (λ (sight : Sight). sight.place + lag ≤ start + size) (seen_in start signal)
sights-early lag size start signal long = grind (arith, pattern-early)

-- slots one after another

pub record Adds (size : ℕ) (before : List Signal) (signal : Signal) : Type 0 where
  pub added : List Found
  pub all : pieces_of (signal_bits size (before ++ signal ∷ [])) ≡ pieces_of (signal_bits size before) ++ added
  pub found : FoundIn size (length (signal_bits size before)) (phase_after size (slots_of size before))
      (flags_behind false (slots_of size before)) (slot_of size signal) added
  pub sights : sights_of (signal_bits size (before ++ signal ∷ [])) ≡ sights_of (signal_bits size before) ++ seen_in
      (length (signal_bits size before)) signal
  pub wide : length (signal_bits size (before ++ signal ∷ [])) ≡ length (signal_bits size before) + size

pub slot-adds : (seen : AreSeen) (size : ℕ) (before : List Signal) (signal : Signal) → 552 < size → AreFit size 0 (before ++ signal ∷ [])
    → Adds size before signal
slot-adds seen size before signal long h =
    let joined : slots_of size (before ++ signal ∷ []) ≡ slots_of size before ++ slot_of size signal ∷ [] =
    map-append (slot_of size) before (signal ∷ []) in
    let are = fit-slots seen.plain size 0 (before ++ signal ∷ []) long (omega arith) h in
    let one = found-is-sent size (slots_of size before) (slot_of size signal) (subst (λ (xs : List Slot). AreSlots size 0 xs) joined are) in
    let phase : ℕ = phase_after size (slots_of size before) in
    let bits : List Bool = slot_bits size phase (slot_of size signal) in
    let full = length-slot_bits size phase (slot_of size signal)
    (fit-slot seen.plain size phase signal long (phase-low size 0 (slots_of size before) (omega arith))
    (fit-last size 0 before signal h)) in
    record {
      added = one.0;
      all = ap (λ xs. pieces_of (sent_bits size xs)) joined ∙ one.1.all;
      found = one.1.found;
      sights = seen.sent size before signal long are;
      wide = grind (arith, bits-append, length-append);
    }

settled-more : (seen : AreSeen) (lag size : ℕ) (before : List Signal) (signal : Signal) → LeavesTime lag size
    → AreFit size 0 (before ++ signal ∷ []) → Settled lag (signal_bits size before) → Settled lag (signal_bits size (before ++ signal ∷ []))
settled-more seen lag size before signal time h s =
    let a = slot-adds seen size before signal time.long h in
    let start : ℕ = length (signal_bits size before) in
    let end : ℕ = length (signal_bits size (before ++ signal ∷ [])) in
    let early = slot-early lag size start (phase_after size (slots_of size before))
    (flags_behind false (slots_of size before)) signal a.added time.frames (fit-last size 0 before signal h) a.found in
    record {
      pieces = subst (All (IsEarly lag end)) (sym a.all)
          (All-append (IsEarly lag end) (pieces_of (signal_bits size before)) a.added
          (All-weaker (IsEarly lag start) (IsEarly lag end) (λ found early whole. omega (arith, early whole, a.wide))
          (pieces_of (signal_bits size before)) s.pieces)
          (subst (λ (n : ℕ). All (IsEarly lag n) a.added) (sym a.wide) early));
      sights = subst (All (λ (sight : Sight). sight.place + lag ≤ end)) (sym a.sights)
          (All-append (λ (sight : Sight). sight.place + lag ≤ end) (sights_of (signal_bits size before)) (seen_in start signal)
          (All-weaker (λ (sight : Sight). sight.place + lag ≤ start) (λ (sight : Sight). sight.place + lag ≤ end)
          (λ sight early. omega (arith, early, a.wide)) (sights_of (signal_bits size before)) s.sights)
          (subst (λ (n : ℕ). All (λ (sight : Sight). sight.place + lag ≤ n) (seen_in start signal)) (sym a.wide)
          (sights-early lag size start signal time.patterns)));
    }

settled-from : (seen : AreSeen) (lag size : ℕ) (before more : List Signal) → LeavesTime lag size → AreFit size 0 (before ++ more)
    → Settled lag (signal_bits size before) → Settled lag (signal_bits size (before ++ more))
settled-from seen lag size before [] time h s = subst (λ (xs : List Signal). Settled lag (signal_bits size xs)) (sym (append-nil before)) s
settled-from seen lag size before (signal ∷ more) time h s =
    let split : (before ++ signal ∷ []) ++ more ≡ before ++ signal ∷ more = append_assoc before (signal ∷ []) more in
    let fit : AreFit size 0 ((before ++ signal ∷ []) ++ more) = subst (AreFit size 0) (sym split) h in
    subst (λ (xs : List Signal). Settled lag (signal_bits size xs)) split
    (settled-from seen lag size (before ++ signal ∷ []) more time fit
    (settled-more seen lag size before signal time (fit-front size 0 (before ++ signal ∷ []) more fit) s))

settled-none : (lag : ℕ) → Settled lag []
settled-none lag = grind (arith, pieces-none, none-seen)

pub settled-all : (seen : AreSeen) (lag size : ℕ) (signals : List Signal) → LeavesTime lag size → AreFit size 0 signals
    → Settled lag (signal_bits size signals)
settled-all seen lag size signals time h = settled-from seen lag size [] signals time h (settled-none lag)

-- all but the last bits of these, at most so many, were read
pub record Lags (lag : ℕ) (bits read : List Bool) : Type 0 where
  pub rest : List Bool
  pub goes_on : bits ≡ read ++ rest
  pub few : length rest ≤ lag

-- what is found in the bits was found in those that were read, but for pieces that aren't whole
pub record FindsNoMore (bits read : List Bool) : Type 0 where
  pub added : List Found
  pub pieces : pieces_of bits ≡ pieces_of read ++ added
  pub none : wholes added ≡ []
  pub sights : sights_of bits ≡ sights_of read

none-whole : (added : List Found) → All (λ (found : Found). found.piece ≡ Whole → ⊥) added → wholes added ≡ []
none-whole [] h = refl
none-whole (found ∷ added) h =
    let rest = none-whole added (All-tail (λ (one : Found). one.piece ≡ Whole → ⊥) found added h) in
    ap (λ xs. octets_if_whole found.piece found.octets ++ xs) rest ∙ append-nil (octets_if_whole found.piece found.octets)
    ∙ other found.piece found.octets (All-head (λ (one : Found). one.piece ≡ Whole → ⊥) found added h)
  where
    other : (piece : Piece) (octets : List ℕ) → (piece ≡ Whole → ⊥) → octets_if_whole piece octets ≡ []
    other piece octets n = grind (arith)

-- nothing has a property that contradicts itself
none-left : {X : Type 0} (P : X → Type 0) (xs : List X) → All P xs → ((x : X) → P x → ⊥) → xs ≡ []
none-left P [] h no_one = refl
none-left P (x ∷ xs) h no_one = absurd (no_one x (All-head P x xs h))

both : {X : Type 0} (P Q R : X → Type 0) (xs : List X) → All P xs → All Q xs → ((x : X) → P x → Q x → R x) → All R xs
both P Q R xs p q f = λ k d low. f _ (p k d low) (q k d low)

pub settled-finds : (seen : AreSeen) (lag : ℕ) (bits read : List Bool) → Settled lag bits → Lags lag bits read → FindsNoMore bits read
settled-finds seen lag bits read s l =
    let few : length bits ≤ length read + lag = omega (arith, ap length l.goes_on, length-append {A = Bool} read l.rest, l.few) in
    let p = pieces-stay read l.rest in
    let g = seen.stay read l.rest in
    let pieces : pieces_of bits ≡ pieces_of read ++ p.0 = ap pieces_of l.goes_on ∙ p.1.all in
    let sights : sights_of bits ≡ sights_of read ++ g.0 = ap sights_of l.goes_on ∙ g.1.all in
    let early : All (IsEarly lag (length bits)) p.0 = subst (All (IsEarly lag (length bits))) (drop-append_seam (pieces_of read) p.0)
    (All-drop (IsEarly lag (length bits)) (length (pieces_of read)) (pieces_of read ++ p.0)
    (subst (All (IsEarly lag (length bits))) pieces s.pieces)) in
    let soon : All (λ (sight : Sight). sight.place + lag ≤ length bits) g.0 =
    subst (All (λ (sight : Sight). sight.place + lag ≤ length bits)) (drop-append_seam (sights_of read) g.0)
    (All-drop (λ (sight : Sight). sight.place + lag ≤ length bits) (length (sights_of read)) (sights_of read ++ g.0)
    (subst (All (λ (sight : Sight). sight.place + lag ≤ length bits)) sights s.sights)) in
    let unseen : g.0 ≡ [] = none-left (λ (sight : Sight). ⊥) g.0
    (both (λ (sight : Sight). sight.place + lag ≤ length bits) (λ (sight : Sight). (length read < sight.place)
    × (sight.place ≤ length (read ++ l.rest))) (λ (sight : Sight). ⊥) g.0 soon g.1.places
    (λ sight a b. omega (arith, a, b.0, few))) (λ sight e. e) in grind (arith, none-whole, both, append-nil)
