-- What is seen in slots is what was sent in them.
use Rattle.detection.proofs.Names.{◌≡◌, ℕ, ◌+◌, ◌<◌, ◌≤◌, Bool, true, false, if◌then◌else◌, List, [], ◌∷◌, ◌++◌, All, length, take, Option}
use Rattle.detection.proofs.Names.{Some, None, arith, append_assoc, refl, sym, ◌∙◌, ap, subst, false≢true, map-append, length-replicate}
use Rattle.detection.proofs.Names.{length-slot_bits, slot_bits, next_phase, IsSlot, AreSlots, EndsPattern, IsSeen, Signal, pattern_bits}
use Rattle.detection.proofs.Names.{slot_of, slots_of, PatternSlot, MarkSlot, FlagSlot, Seen}
use Rattle.std.proofs.lemmas.List.Elements.{All-head, All-tail}
use Rattle.bit_stuffing.specs.Slots.{phase_after}
use Rattle.bit_stuffing.proofs.Fill.{bits-append, next-low}
use Rattle.bit_stuffing.proofs.Sizes.{length-empty, length-opening}
use Rattle.detection.specs.Patterns.{seen_at}
use Rattle.detection.specs.Slots.{CanCarry, signal_bits}
use Rattle.detection.specs.Sights.{sights_of, seen_in, EndsInSlot, IsSent}
use Rattle.detection.proofs.Answered.{seen-once}
use Rattle.detection.proofs.Written.{pattern-plain, mark-plain}
use Rattle.detection.proofs.Sightings.{ranged, ranged-none, sights-ranged}
use Rattle.detection.proofs.Borders.{Ended, ended-start, ended-all, none-in_flags, none-in_marks, inside-patterns}
use Rattle.detection.proofs.Inside.{is_end, own, placed, ends-there, end-place, own-sights, length-pattern_bits}
use Rattle.bit_stuffing.proofs.Passing.{take-past}
use Rattle.bit_stuffing.proofs.Sent.{are-split}

-- one more slot

pub slot-added : (size : ℕ) (before : List Signal) (signal : Signal)
    → signal_bits size (before ++ signal ∷ []) ≡ signal_bits size before
    ++ slot_bits size (phase_after size (slots_of size before)) (slot_of size signal)
slot-added size before signal = grind (arith, map-append, bits-append)

pub place-added : (size : ℕ) (before : List Signal) (signal : Signal) (p : ℕ)
    → take (length (signal_bits size before) + p) (signal_bits size (before ++ signal ∷ []))
    ≡ signal_bits size before ++ take p (slot_bits size (phase_after size (slots_of size before)) (slot_of size signal))
place-added size before signal p = grind (arith, slot-added, take-past)

-- whatever came before
behind-more : (past bits : List Bool) (seen : Seen) → EndsPattern seen bits → EndsPattern seen (past ++ bits)
behind-more past bits seen x = record {
  before = past ++ x.before;
  a = x.a;
  b = x.b;
  e = x.e;
  a_gap = x.a_gap;
  b_gap = x.b_gap;
  e_gap = x.e_gap;
  ends = ap (λ l. past ++ l) x.ends ∙ sym (append_assoc past x.before _);
}

pub found-first : (size : ℕ) (before : List Signal) (seen : Seen) → EndsInSlot size before (PatternSlot seen) seen 71
found-first size before seen =
    subst (EndsPattern seen) (sym (place-added size before (PatternSlot seen) 71))
    (behind-more (signal_bits size before) (take 71 (pattern_bits size seen)) seen (ends-there size seen 0 (omega arith)))

-- the answer at each place of a slot

abbrev pub own_of : Signal → ℕ → Option Seen
own_of (PatternSlot kind) p = own kind p
own_of MarkSlot p = None
own_of (FlagSlot frame) p = None

pub seen-in_slot : (size phase : ℕ) (past : List Bool) (signal : Signal) → 552 < size → Ended past phase
    → IsSlot size phase (slot_of size signal) → (p : ℕ) → 0 < p → p ≤ length (slot_bits size phase (slot_of size signal))
    → IsSeen (past ++ take p (slot_bits size phase (slot_of size signal))) (own_of signal p)
seen-in_slot size phase past (FlagSlot frame) long h is p low high = λ seen x. none-in_flags size phase frame past h p low high seen x
seen-in_slot size phase past MarkSlot long h is p low high =
    λ seen x. none-in_marks size phase past h p low (omega (arith, high, length-replicate {A = Bool} size true)) seen x
seen-in_slot size phase past (PatternSlot kind) long h is p low high = each (is_end p) refl
  where
    each : (b : Bool) → is_end p ≡ b → IsSeen (past ++ take p (pattern_bits size kind)) (if b then Some kind else None)
    each true e =
        let k = end-place p e in
        behind-more past (take p (pattern_bits size kind)) kind
        (subst (λ n. EndsPattern kind (take n (pattern_bits size kind))) (sym k.2) (ends-there size kind k.0 k.1))
    each false e = λ seen x.
        let inside = inside-patterns size phase kind past h p low high seen x in
        false≢true (sym e ∙ (placed size kind seen p long (omega (arith, high, length-pattern_bits size kind (omega arith))) inside).0)

-- the slots before

module _ (size : ℕ) (before : List Signal) (signal : Signal) (long : 552 < size)
    (are : AreSlots size 0 (slots_of size (before ++ signal ∷ []))) where
  parts : AreSlots size 0 (slots_of size before) × IsSlot size (phase_after size (slots_of size before)) (slot_of size signal)
  parts = are-split size 0 (slots_of size before) (slot_of size signal)
      (subst (AreSlots size 0) (map-append (slot_of size) before (signal ∷ [])) are)

  ended : Ended (signal_bits size before) (phase_after size (slots_of size before))
  ended = ended-all size 0 [] before long parts.0 ended-start

  line : List Bool
  line = slot_bits size (phase_after size (slots_of size before)) (slot_of size signal)

  wide : length (slot_bits size (phase_after size (slots_of size before)) (slot_of size signal)) ≡ size
  wide = length-slot_bits size (phase_after size (slots_of size before)) (slot_of size signal) parts.1

  pub sent-only : (seen : Seen) (place : ℕ) → 0 < place → place ≤ size → EndsInSlot size before signal seen place
      → IsSent size signal seen place
  sent-only seen place low high x =
      each signal (phase_after size (slots_of size before)) (signal_bits size before) ended (omega (arith, high, wide))
      (subst (EndsPattern seen) (place-added size before signal place) x)
    where
      each : (signal : Signal) (phase : ℕ) (past : List Bool) → Ended past phase
          → place ≤ length (slot_bits size phase (slot_of size signal))
          → EndsPattern seen (past ++ take place (slot_bits size phase (slot_of size signal))) → IsSent size signal seen place
      each (FlagSlot frame) phase past h fits x = absurd (none-in_flags size phase frame past h place low fits seen x)
      each MarkSlot phase past h fits x = absurd (none-in_marks size phase past h place low high seen x)
      each (PatternSlot kind) phase past h fits x =
          let inside = inside-patterns size phase kind past h place low fits seen x in
          let same = (placed size kind seen place long high inside).1 in
          record { kind = ap PatternSlot same; inside = subst (λ k. EndsPattern seen (take place (pattern_bits size k))) same inside }

  own-all : (start : ℕ) → ranged (own_of signal) start size ≡ seen_in start signal
  own-all start = each signal
    where
      each : (signal : Signal) → ranged (own_of signal) start size ≡ seen_in start signal
      each (FlagSlot frame) = ranged-none (λ p. None) start size (λ p low high. refl)
      each MarkSlot = ranged-none (λ p. None) start size (λ p low high. refl)
      each (PatternSlot kind) = own-sights start size kind (omega arith)

  pub seen-sent : sights_of (signal_bits size (before ++ signal ∷ [])) ≡ sights_of (signal_bits size before)
      ++ seen_in (length (signal_bits size before)) signal
  seen-sent =
      let past : List Bool = signal_bits size before in
      ap sights_of (slot-added size before signal)
      ∙ sights-ranged past (slot_bits size (phase_after size (slots_of size before)) (slot_of size signal)) (own_of signal) (λ p low high.
      ap seen_at (take-past past (slot_bits size (phase_after size (slots_of size before)) (slot_of size signal)) p)
      ∙ sym (seen-once (past ++ take p (slot_bits size (phase_after size (slots_of size before)) (slot_of size signal))) (own_of signal p)
      (seen-in_slot size (phase_after size (slots_of size before)) past signal long ended parts.1 p low high)))
      ∙ ap (λ n. sights_of past ++ ranged (own_of signal) (length past) n) wide
      ∙ ap (λ l. sights_of past ++ l) (own-all (length past))

-- slots of any kinds
pub can-follow : (size phase : ℕ) (signals : List Signal) → 552 < size → phase < 8 → All (CanCarry size) signals
    → AreSlots size phase (slots_of size signals)
can-follow size phase [] long low all = tt
can-follow size phase (signal ∷ signals) long low all = (
  fits signal (All-head (CanCarry size) signal signals all),
  can-follow size (next_phase size phase (slot_of size signal)) signals long (next-low size phase (slot_of size signal))
      (All-tail (CanCarry size) signal signals all),
)
  where
    fits : (signal : Signal) → CanCarry size signal → IsSlot size phase (slot_of size signal)
    fits (PatternSlot seen) can = pattern-plain size seen (omega arith)
    fits MarkSlot can = mark-plain size (omega arith)
    fits (FlagSlot None) can = omega (arith, length-empty phase low)
    fits (FlagSlot (Some octets)) can = (can.0, omega (arith, can.1, length-opening phase octets low))
