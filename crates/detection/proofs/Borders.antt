-- A pattern never reaches over a border of slots.
use Rattle.detection.proofs.Names.{◌≡◌, ◌⊎◌, inl, inr, ℕ, ◌+◌, ◌-◌, ◌/◌, ◌%◌, ◌<◌, ◌≤◌, Bool, true, false, List, [], ◌∷◌, ◌++◌, length}
use Rattle.detection.proofs.Names.{get_or, take, drop, Option, arith, append_assoc, length-append, refl, sym, ◌∙◌, ap, subst, cases_lt}
use Rattle.detection.proofs.Names.{false≢true, append-nil, take-append-drop, length-take-le, length-replicate, get_or-take}
use Rattle.detection.proofs.Names.{get_or-replicate, get_or_append_left, get_or-append_right, get_or-append-add, length-slot_bits, flag}
use Rattle.detection.proofs.Names.{flags, opening, slot_bits, next_phase, IsSlot, AreSlots, Flags, second, ones, twice, EndsPattern, Signal}
use Rattle.detection.proofs.Names.{patterns, pattern_bits, slot_of, slots_of, PatternSlot, MarkSlot, FlagSlot, Seen, Odp, Adp}
use Rattle.bit_stuffing.specs.Slots.{Slot, bits_from, phase_from}
use Rattle.detection.proofs.Calm.{Calm, calm-behind, no_eight, no_eight-at, slot-begins, slot-calm}
use Rattle.detection.proofs.Twice.{length-twice, start-zero, gap-ones, second-zero, before_last, Longer, Over, split-ends}

-- what came before a slot: nothing, many ones, or a flag slot's bits
pub data Came : List Bool → Type 0 where
  Nothing : {past : List Bool} → past ≡ [] → Came past
  OnesLast : {past : List Bool} (front : List Bool) (n : ℕ) → past ≡ front ++ ones n → 94 ≤ n → Came past
  FlagsLast : {past : List Bool} (front bits : List Bool) → past ≡ front ++ bits → Calm bits 6 → 94 ≤ length bits → Came past

-- and how much of an unfinished flag comes last
pub record Ended (past : List Bool) (phase : ℕ) : Type 0 where
  pub front : List Bool
  pub cut : past ≡ front ++ take phase flag
  pub came : Came past

pub ended-start : Ended [] 0
ended-start = record { front = []; cut = refl; came = Came.Nothing refl }

pub ended-more : (size phase : ℕ) (past : List Bool) (signal : Signal) → 552 < size → IsSlot size phase (slot_of size signal)
    → Ended past phase → Ended (past ++ slot_bits size phase (slot_of size signal)) (next_phase size phase (slot_of size signal))
ended-more size phase past (PatternSlot seen) long is h = record {
  front = past ++ pattern_bits size seen;
  cut = sym (append-nil (past ++ pattern_bits size seen));
  came = Came.OnesLast (past ++ patterns 10 seen) (size - 360) (sym (append_assoc past (patterns 10 seen) (ones (size - 360))))
      (omega arith);
}
ended-more size phase past MarkSlot long is h = record {
  front = past ++ ones size;
  cut = sym (append-nil (past ++ ones size));
  came = Came.OnesLast past size refl (omega arith);
}
ended-more size phase past (FlagSlot frame) long is h = record {
  front = past ++ (opening phase frame ++ flags ((size - length (opening phase frame)) / 8));
  cut = right past (opening phase frame) (flags ((size - length (opening phase frame)) / 8))
      (take ((size - length (opening phase frame)) % 8) flag);
  came = Came.FlagsLast past (slot_bits size phase (Flags frame)) refl
      (calm-behind (take phase flag) (slot_bits size phase (Flags frame)) 6 (omega arith) (slot-calm size phase frame))
      (omega (arith, length-slot_bits size phase (Flags frame) is));
}
  where
    right : (a b c d : List Bool) → a ++ (b ++ (c ++ d)) ≡ (a ++ (b ++ c)) ++ d
    right a b c d = sym (append_assoc a (b ++ c) d ∙ ap (λ l. a ++ l) (append_assoc b c d))

pub ended-all : (size phase : ℕ) (past : List Bool) (signals : List Signal) → 552 < size → AreSlots size phase (slots_of size signals)
    → Ended past phase
    → Ended (past ++ bits_from size phase (slots_of size signals)) (phase_from size phase (slots_of size signals))
ended-all size phase past [] long are h = subst (λ l. Ended l phase) (sym (append-nil past)) h
ended-all size phase past (signal ∷ signals) long are h =
    let slot : Slot = slot_of size signal in
    let one = ended-more size phase past signal long are.0 h in
    let all = ended-all size (next_phase size phase slot) (past ++ slot_bits size phase slot) signals long are.1 one in
    subst (λ l. Ended l (phase_from size (next_phase size phase slot) (slots_of size signals)))
    (append_assoc past (slot_bits size phase slot) (bits_from size (next_phase size phase slot) (slots_of size signals))) all

-- A pattern that begins before a slot: what of it stands before the slot has at most seven ones of its first gap.
module _ (past : List Bool) (phase : ℕ) (h : Ended past phase) (seen : Seen) (a b e : ℕ) (a_low : 8 ≤ a) (a_high : a ≤ 17) (b_high : b ≤ 17)
    (e_high : e ≤ 17) where
  pub border : (bits before : List Bool) → 0 < length bits → (o : Over past bits before (twice seen a b e)) → length o.lead ≤ 16
  border bits before some o = each past o.past_is h.came
    where
      all : length o.lead + length bits ≡ 44 + a + b + e
      all = sym (length-append {A = Bool} o.lead bits) ∙ ap length (sym o.text_is) ∙ length-twice seen a b e

      -- the pattern's bits that stand before the slot
      lead-bit : (i : ℕ) → i < length o.lead → get_or o.lead i false ≡ get_or (twice seen a b e) i false
      lead-bit i l = sym (get_or_append_left o.lead bits false i l) ∙ ap (λ t. get_or t i false) (sym o.text_is)

      each : (past : List Bool) → past ≡ before ++ o.lead → Came past → length o.lead ≤ 16
      each past is (Came.Nothing none) =
          absurd (omega (arith, o.some, length-append {A = Bool} before o.lead, ap length is, ap length none))
      each past is (Came.OnesLast front n ones_last many) =
          let size : length front + n ≡ length before + length o.lead =
          omega (
            arith,
            length-append {A = Bool} front (ones n),
            length-replicate {A = Bool} n true,
            ap length ones_last,
            ap length is,
            length-append {A = Bool} before o.lead,
          ) in
          let none : length before + 0 ≡ length before = omega arith in
          let zero_there : get_or past (length before) false ≡ false =
          ap (λ t. get_or t (length before) false) is ∙ ap (λ i. get_or (before ++ o.lead) i false) (sym none)
          ∙ get_or-append-add before o.lead 0 false ∙ lead-bit 0 o.some ∙ start-zero seen a b e in
          let one_there : get_or past (length before) false ≡ true =
          ap (λ t. get_or t (length before) false) ones_last
          ∙ get_or-append_right front (ones n) (length front) (length before) false refl (omega (arith, size, all, some))
          ∙ get_or-replicate n (length before - length front) true false (omega (arith, size, o.some)) in
          absurd (false≢true (sym zero_there ∙ one_there))
      each past is (Came.FlagsLast front line flags_last calm many) = elim (cases_lt (length o.lead) 17) [
        | inl few ↦ omega arith
        | inr over ↦ absurd (ones_in (split-ends front line before o.lead (sym flags_last ∙ is)) over)
      ]
        where
          ones_in : Longer front line before o.lead ⊎ Over front line before o.lead → 17 ≤ length o.lead → ⊥
          ones_in (inr w) over = omega (arith, many, all, some, w.some, ap length w.text_is, length-append {A = Bool} w.lead line)
          ones_in (inl w) over =
              no_eight-at line (length w.more + 9) calm (omega (arith, over, ap length w.bits_is, length-append {A = Bool} w.more o.lead))
              (λ i l.
              let place : length w.more + 9 + i ≡ length w.more + (9 + i) = omega arith in
              ap (λ t. get_or t (length w.more + 9 + i) false) w.bits_is ∙ ap (λ j. get_or (w.more ++ o.lead) j false) place
              ∙ get_or-append-add w.more o.lead (9 + i) false
              ∙ lead-bit (9 + i) (omega arith) ∙ gap-ones seen a b e (9 + i) (omega arith) (omega arith))

  -- a bit of the slot, as one of the pattern
  pub slot-bit : (bits before : List Bool) (o : Over past bits before (twice seen a b e)) (i : ℕ)
      → get_or bits i false ≡ get_or (twice seen a b e) (length o.lead + i) false
  slot-bit bits before o i = sym (get_or-append-add o.lead bits i false) ∙ ap (λ t. get_or t (length o.lead + i) false) (sym o.text_is)

-- no pattern ends in a flag slot
pub none-in_flags : (size phase : ℕ) (frame : Option (List ℕ)) (past : List Bool) → Ended past phase → (p : ℕ) → 0 < p
    → p ≤ length (slot_bits size phase (Flags frame)) → (seen : Seen)
    → EndsPattern seen (past ++ take p (slot_bits size phase (Flags frame))) → ⊥
none-in_flags size phase frame past h p low high seen x =
    in_line (slot_bits size phase (Flags frame)) (slot-begins size phase frame) (slot-calm size phase frame) high x
  where
    in_line : (line : List Bool) → (rest : List Bool) × (take phase flag ++ line ≡ false ∷ rest) → Calm (take phase flag ++ line) 6
        → p ≤ length line → EndsPattern seen (past ++ take p line) → ⊥
    in_line line begins calm high x =
        each (split-ends h.front (take phase flag ++ take p line) (x.before ++ (before_last seen x.a x.b x.e ++ second seen)) (ones 8) same)
      where
        same : h.front ++ (take phase flag ++ take p line) ≡ (x.before ++ (before_last seen x.a x.b x.e ++ second seen)) ++ ones 8
        same =
            sym (append_assoc h.front (take phase flag) (take p line)) ∙ ap (λ l. l ++ take p line) (sym h.cut) ∙ x.ends
            ∙ sym (append_assoc x.before (before_last seen x.a x.b x.e ++ second seen) (ones 8))

        whole : (take phase flag ++ take p line) ++ drop p line ≡ take phase flag ++ line
        whole = append_assoc (take phase flag) (take p line) (drop p line) ∙ ap (λ l. take phase flag ++ l) (take-append-drop p line)

        some : 0 < length (take phase flag ++ take p line)
        some = omega (arith, low, length-append {A = Bool} (take phase flag) (take p line), length-take-le p line high)

        zero_first : get_or (take phase flag ++ take p line) 0 false ≡ false
        zero_first = grind (arith, get_or_append_left, line, some, whole, begins)

        each : Longer h.front (take phase flag ++ take p line) (x.before ++ (before_last seen x.a x.b x.e ++ second seen)) (ones 8)
            ⊎ Over h.front (take phase flag ++ take p line) (x.before ++ (before_last seen x.a x.b x.e ++ second seen)) (ones 8) → ⊥
        each (inl w) = grind (arith, no_eight, line, whole, append_assoc)
        each (inr w) =
            let none : length w.lead + 0 ≡ length w.lead = omega arith in
            let few : length w.lead < 8 =
            omega (arith, ap length w.text_is, length-append {A = Bool} w.lead (take phase flag ++ take p line), some) in
            let one : get_or (ones 8) (length w.lead) false ≡ true = get_or-replicate 8 (length w.lead) true false few in
            let zero_there : get_or (ones 8) (length w.lead) false ≡ false =
            ap (λ l. get_or l (length w.lead) false) w.text_is
            ∙ ap (λ i. get_or (w.lead ++ (take phase flag ++ take p line)) i false) (sym none)
            ∙ get_or-append-add w.lead (take phase flag ++ take p line) 0 false ∙ zero_first in
            false≢true (sym zero_there ∙ one)

-- nor in a mark slot
pub none-in_marks : (size phase : ℕ) (past : List Bool) → Ended past phase → (p : ℕ) → 0 < p → p ≤ size → (seen : Seen)
    → EndsPattern seen (past ++ take p (ones size)) → ⊥
none-in_marks size phase past h p low high seen x = each (split-ends past (take p (ones size)) x.before (twice seen x.a x.b x.e) x.ends)
  where
    wide : length (take p (ones size)) ≡ p
    wide = length-take-le p (ones size) (omega (arith, high, length-replicate {A = Bool} size true))

    one : (i : ℕ) → i < p → get_or (take p (ones size)) i false ≡ true
    one i l = get_or-take p (ones size) i false l ∙ get_or-replicate size i true false (omega arith)

    each : Longer past (take p (ones size)) x.before (twice seen x.a x.b x.e)
        ⊎ Over past (take p (ones size)) x.before (twice seen x.a x.b x.e) → ⊥
    each (inl w) =
        let none : length w.more + 0 ≡ length w.more = omega arith in
        let room : length w.more < p =
        omega (
          arith,
          wide,
          ap length w.bits_is,
          length-append {A = Bool} w.more (twice seen x.a x.b x.e),
          length-twice seen x.a x.b x.e,
        ) in
        let zero_there : get_or (take p (ones size)) (length w.more) false ≡ false =
        ap (λ l. get_or l (length w.more) false) w.bits_is ∙ ap (λ i. get_or (w.more ++ twice seen x.a x.b x.e) i false) (sym none)
        ∙ get_or-append-add w.more (twice seen x.a x.b x.e) 0 false ∙ start-zero seen x.a x.b x.e in
        false≢true (sym zero_there ∙ one (length w.more) room)
    each (inr w) =
        let short = border past phase h seen x.a x.b x.e x.a_gap.low x.a_gap.high x.b_gap.high x.e_gap.high (take p (ones size)) x.before
        (omega (arith, low, wide)) w in
        let place : length w.lead + (9 + x.a - length w.lead) ≡ 9 + x.a = omega (arith, short, x.a_gap.low) in
        let room : 9 + x.a - length w.lead < p =
        omega (
          arith,
          wide,
          short,
          x.a_gap.low,
          x.b_gap.low,
          x.e_gap.low,
          ap length w.text_is,
          length-append {A = Bool} w.lead (take p (ones size)),
          length-twice seen x.a x.b x.e,
        ) in
        let zero_there : get_or (take p (ones size)) (9 + x.a - length w.lead) false ≡ false =
        slot-bit past phase h seen x.a x.b x.e x.a_gap.low x.a_gap.high x.b_gap.high x.e_gap.high (take p (ones size)) x.before w
        (9 + x.a - length w.lead) ∙ ap (λ i. get_or (twice seen x.a x.b x.e) i false) place ∙ second-zero seen x.a x.b x.e in
        false≢true (sym zero_there ∙ one (9 + x.a - length w.lead) room)

-- the first zeros of a pattern slot

first-zero : (size : ℕ) (kind : Seen) → get_or (pattern_bits size kind) 0 false ≡ false
first-zero size q1 = grind (arith)

ninth-zero : (size : ℕ) (kind : Seen) → get_or (pattern_bits size kind) 8 false ≡ false
ninth-zero size Odp = refl
ninth-zero size Adp = refl

-- what ends in a pattern slot stands in it
pub inside-patterns : (size phase : ℕ) (kind : Seen) (past : List Bool) → Ended past phase → (p : ℕ) → 0 < p
    → p ≤ length (pattern_bits size kind) → (seen : Seen)
    → EndsPattern seen (past ++ take p (pattern_bits size kind)) → EndsPattern seen (take p (pattern_bits size kind))
inside-patterns size phase kind past h p low high seen x = each (split-ends past line x.before (twice seen x.a x.b x.e) x.ends)
  where
    line : List Bool
    line = take p (pattern_bits size kind)

    wide : length (take p (pattern_bits size kind)) ≡ p
    wide = length-take-le p (pattern_bits size kind) high

    each : Longer past (take p (pattern_bits size kind)) x.before (twice seen x.a x.b x.e)
        ⊎ Over past (take p (pattern_bits size kind)) x.before (twice seen x.a x.b x.e) → EndsPattern seen (take p (pattern_bits size kind))
    each (inl w) = record {
      before = w.more;
      a = x.a;
      b = x.b;
      e = x.e;
      a_gap = x.a_gap;
      b_gap = x.b_gap;
      e_gap = x.e_gap;
      ends = w.bits_is;
    }
    each (inr w) = absurd (elim (cases_lt (length w.lead) 9) [ inl near ↦ ninth near | inr far ↦ begins far ])
      where
        short : length w.lead ≤ 16
        short = border past phase h seen x.a x.b x.e x.a_gap.low x.a_gap.high x.b_gap.high x.e_gap.high
            (take p (pattern_bits size kind)) x.before (omega (arith, low, wide)) w

        room : 52 ≤ p
        room = omega (
          arith,
          wide,
          short,
          x.a_gap.low,
          x.b_gap.low,
          x.e_gap.low,
          ap length w.text_is,
          length-append {A = Bool} w.lead (take p (pattern_bits size kind)),
          length-twice seen x.a x.b x.e,
        )

        bit_at_place : (i : ℕ) → i < p → get_or (pattern_bits size kind) i false ≡ get_or (twice seen x.a x.b x.e) (length w.lead + i) false
        bit_at_place i l = sym (get_or-take p (pattern_bits size kind) i false l)
            ∙ slot-bit past phase h seen x.a x.b x.e x.a_gap.low x.a_gap.high x.b_gap.high x.e_gap.high
            (take p (pattern_bits size kind)) x.before w i

        ninth : length w.lead < 9 → ⊥
        ninth near = false≢true
            (sym (ninth-zero size kind) ∙ bit_at_place 8 (omega (arith, room))
            ∙ gap-ones seen x.a x.b x.e (length w.lead + 8) (omega (arith, w.some)) (omega (arith, x.a_gap.low)))

        begins : 9 ≤ length w.lead → ⊥
        begins far = false≢true
            (sym (first-zero size kind) ∙ bit_at_place 0 (omega (arith, room))
            ∙ gap-ones seen x.a x.b x.e (length w.lead + 0) (omega arith) (omega (arith, short, x.a_gap.low)))
