-- Slots that fit one another, and what fits a slot.
use Rattle.line_run.proofs.Cited.{◌≡◌, ℕ, ◌+◌, ◌-◌, ◌*◌, ◌/◌, ◌<◌, ◌≤◌, Bool, List, [], ◌∷◌, ◌++◌, length, All, Some, arith, length-append}
use Rattle.line_run.proofs.Cited.{mul-suc, All-append, length-slot_bits, AreSlots, IsSlot, bits_from, flags, framed, next_phase, opening}
use Rattle.line_run.proofs.Cited.{phase_from, rest_of_flag, slot_bits, TAIL, Signal, slot_of, slots_of, FlagSlot, Check, check_for, checked}
use Rattle.line_run.proofs.Cited.{IsFrame, information_of, spelled, IsSendable, Frame, Sent, AreFit, Fits, OfOctets, IsCodable, signal_of}
use Rattle.line_run.proofs.Cited.{Role}
use Rattle.frame_check.specs.Division.{check_of, count_of}
use Rattle.frame_check.proofs.Checks.{check_of-is, length-check_of}
use Rattle.bit_stuffing.proofs.Fill.{length-flags, next-low}
use Rattle.bit_stuffing.proofs.Sizes.{length-empty, length-opening}
use Rattle.lapm_frames.proofs.Octets.{length-information, length-spelled, spelled-small}
use Rattle.lapm_frames.specs.declared.sent.Sent.TheVariants as sent
use Rattle.line_run.proofs.Patterns.{ArePlain}

pub fit-slot : (plain : ArePlain) (size phase : ℕ) (signal : Signal) → 552 < size → phase < 8 → Fits size phase signal
    → IsSlot size phase (slot_of size signal)
fit-slot plain size phase signal long low h = grind (arith, length-empty)

pub fit-slots : (plain : ArePlain) (size phase : ℕ) (signals : List Signal) → 552 < size → phase < 8 → AreFit size phase signals
    → AreSlots size phase (slots_of size signals)
fit-slots plain size phase [] long low h = tt
fit-slots plain size phase (signal ∷ signals) long low h = (
  fit-slot plain size phase signal long low h.0,
  fit-slots plain size (next_phase size phase (slot_of size signal)) signals long (next-low size phase (slot_of size signal)) h.1,
)

pub fit-front : (size phase : ℕ) (before more : List Signal) → AreFit size phase (before ++ more) → AreFit size phase before
fit-front size phase [] more h = tt
fit-front size phase (signal ∷ before) more h = (h.0, fit-front size (next_phase size phase (slot_of size signal)) before more h.1)

pub fit-last : (size phase : ℕ) (before : List Signal) (signal : Signal) → AreFit size phase (before ++ signal ∷ [])
    → Fits size (phase_from size phase (slots_of size before)) signal
fit-last size phase [] signal h = h.0
fit-last size phase (first ∷ before) signal h = fit-last size (next_phase size phase (slot_of size first)) before signal h.1

pub fit-more : (size phase : ℕ) (before : List Signal) (signal : Signal) → AreFit size phase before
    → Fits size (phase_from size phase (slots_of size before)) signal → AreFit size phase (before ++ signal ∷ [])
fit-more size phase [] signal h fits = (fits, tt)
fit-more size phase (first ∷ before) signal h fits =
    (h.0, fit-more size (next_phase size phase (slot_of size first)) before signal h.1 fits)

pub length-fit : (plain : ArePlain) (size phase : ℕ) (signals : List Signal) → 552 < size → phase < 8 → AreFit size phase signals
    → length (bits_from size phase (slots_of size signals)) ≡ size * length signals
length-fit plain size phase [] long low h = omega arith
length-fit plain size phase (signal ∷ signals) long low h =
    let slot = slot_of size signal in
    let rest = length-fit plain size (next_phase size phase slot) signals long (next-low size phase slot) h.1 in
    let both = length-append {A = Bool} (slot_bits size phase slot) (bits_from size (next_phase size phase slot) (slots_of size signals)) in
    let here = length-slot_bits size phase slot (fit-slot plain size phase signal long low h.0) in grind (arith, mul-suc)

-- how many octets a frame has

count-two : (check : Check) → (2 ≤ count_of check) × (count_of check ≤ 4)
count-two check = grind (arith)

length-whole : (check : Check) (sender : Role) (dlci : ℕ) (frame : Frame)
    → length (checked check sender dlci frame) ≡ length (spelled frame sender dlci) + count_of (check_for check frame)
length-whole check sender dlci frame = grind (arith, length-append, spelled, length-check_of)

pub few-besides : (check : Check) (sender : Role) (dlci : ℕ) (frame : Frame)
    → length (checked check sender dlci frame) ≤ 7 + length (information_of frame)
few-besides check sender dlci frame = grind (arith, length-whole, length-spelled, count-two)

-- frames that can be coded

pub short-codable : (check : Check) (sender : Role) (dlci symbols phase most : ℕ) (frame : Frame) → phase < 8
    → IsSendable (sent.Frame frame)
    → length (checked check sender dlci frame) ≤ most → 47 + 8 * most + 8 * most / 5 ≤ 4 * (symbols - TAIL)
    → IsCodable check sender dlci symbols phase (sent.Frame frame)
short-codable check sender dlci symbols phase most frame low is few room =
    let long = length-opening phase (checked check sender dlci frame) low in grind (arith)

-- the octets of a frame

checked-small : (check : Check) (sender : Role) (dlci : ℕ) (frame : Frame) → dlci < 64 → IsFrame frame
    → All (λ octet. octet < 256) (information_of frame) → All (λ octet. octet < 256) (checked check sender dlci frame)
checked-small check sender dlci frame low is h =
    let octets : List ℕ = spelled frame sender dlci in
    let kind : Check = check_for check frame in
    All-append (λ octet. octet < 256) octets (check_of kind octets) (spelled-small frame sender dlci low is h)
    (check_of-is kind octets).are_octets

pub spelled-octets : (check : Check) (sender : Role) (dlci : ℕ) (s : Sent) → dlci < 64 → IsSendable s
    → OfOctets (signal_of check sender dlci s)
spelled-octets check sender dlci s low is = grind (arith, checked-small)

some-flags : (count : ℕ) (before behind : List Bool) → 8 * count ≤ length (before ++ flags count ++ behind)
some-flags count before behind = grind (arith, length-append, flags, length-flags)

some-opening : (phase : ℕ) (frame : List ℕ) → 32 ≤ length (opening phase (Some frame))
some-opening phase frame = some-flags 4 (rest_of_flag phase) (framed (Some frame))

-- what can be coded fits

pub codable-sendable : (check : Check) (sender : Role) (dlci symbols phase : ℕ) (s : Sent) → IsCodable check sender dlci symbols phase s
    → IsSendable s
codable-sendable check sender dlci symbols phase s k = grind (arith)

frame-fits : (check : Check) (sender : Role) (dlci symbols phase : ℕ) (frame : Frame)
    → All (λ octet. octet < 256) (checked check sender dlci frame) → IsFrame frame
    → length (opening phase (Some (checked check sender dlci frame))) ≤ 4 * (symbols - TAIL)
    → Fits (4 * symbols) phase (FlagSlot (Some (checked check sender dlci frame)))
frame-fits check sender dlci symbols phase frame small is room = (
  record {
    small = small;
    low = omega (arith, length-whole check sender dlci frame, (length-spelled frame sender dlci).0, (count-two (check_for check frame)).0);
    high = omega (arith, few-besides check sender dlci frame, length-information frame is);
  },
  omega (arith, room, some-opening phase (checked check sender dlci frame)),
)

pub codable-fits : (check : Check) (sender : Role) (dlci symbols phase : ℕ) (s : Sent) → OfOctets (signal_of check sender dlci s)
    → IsCodable check sender dlci symbols phase s → Fits (4 * symbols) phase (signal_of check sender dlci s)
codable-fits check sender dlci symbols phase s small k = grind (arith, frame-fits)
