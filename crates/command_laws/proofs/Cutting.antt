-- The frames of slots of which the first bits aren't heard.
use Rattle.command_laws.proofs.Names.{◌≡◌, ◌⊎◌, inl, inr, ℕ, ◌+◌, ◌-◌, ◌*◌, ◌<◌, ◌≤◌, Bool, false, List, [], ◌∷◌, ◌++◌, All, length, map}
use Rattle.command_laws.proofs.Names.{take, drop, Some, None, arith, length-append, refl, sym, ◌∙◌, ap, subst, append-nil, map-append}
use Rattle.command_laws.proofs.Names.{take-append-drop, All-nil, All-cons, All-head, All-tail, Found, pieces_of, wholes, AreWholeOrAborted}
use Rattle.command_laws.proofs.Names.{Plain, Flags, LastPiecesAreFound, Piece, HEAD, TAIL, Signal, slot_of, slots_of, signal_bits, AreFit}
use Rattle.command_laws.proofs.Names.{IsPrefixOf}
use Rattle.std.proofs.Common.{min, append_assoc}
use Rattle.std.proofs.lemmas.List.{length-take, get_or-append-add, get_or_append_left}
use Rattle.std.proofs.lemmas.List.Elements.{All-append, All-weaker}
use Rattle.bit_stuffing.specs.declared.piece.Piece.TheVariants.{Whole}
use Rattle.bit_stuffing.specs.Flags.{bit_of, flag, FlagEndsAt}
use Rattle.bit_stuffing.specs.Slots.{flags, fill, rest_of_flag, framed, opening, slot_bits, sent_bits}
use Rattle.bit_stuffing.specs.Slots.{phase_after, flags_behind, AreSlots}
use Rattle.bit_stuffing.specs.Sent.{Added, FoundIn, whole_at, octets_if_whole}
use Rattle.bit_stuffing.specs.Tails.{behind, Misses}
use Rattle.bit_stuffing.proofs.Found.{pieces-none}
use Rattle.bit_stuffing.proofs.Sent.{found-is-sent, pieces-stay, wholes-append, IsExpected}
use Rattle.bit_stuffing.proofs.Tails.{flag-front, flag-longer}
use Rattle.detection.specs.Slots.Signal.{PatternSlot, MarkSlot, FlagSlot}
use Rattle.sample_line.proofs.Passing.{slot-added}
use Rattle.line_run.specs.Fitting.{Fits}
use Rattle.line_run.specs.Laws.{FirstOnesFit, SlotsThatFitAreSlots, SlotsHaveSize}
use Rattle.line_run.proofs.Fits.{fit-last}
use Rattle.bit_stuffing.proofs.Plain.{flag-back}

-- ---- lists of pieces

wholes-behind : (n : ℕ) (xs : List Found) → wholes (map (behind n) xs) ≡ wholes xs
wholes-behind n [] = refl
wholes-behind n (x ∷ xs) = ap (λ t. octets_if_whole x.piece x.octets ++ t) (wholes-behind n xs)

-- pieces none of which is whole
none-whole : (xs : List Found) → All (λ found. found.piece ≡ Whole → ⊥) xs → wholes xs ≡ []
none-whole [] h = refl
none-whole (x ∷ xs) h =
    ap (λ t. octets_if_whole x.piece x.octets ++ t) (none-whole xs (All-tail (λ found. found.piece ≡ Whole → ⊥) x xs h))
    ∙ ap (λ t. t ++ []) (each x.piece refl)
  where
    each : (piece : Piece) → x.piece ≡ piece → octets_if_whole piece x.octets ≡ []
    each piece e = grind (arith)

pub All-left : {X : Type 0} (P : X → Type 0) (xs ys : List X) → All P (xs ++ ys) → All P xs
All-left P [] ys h = All-nil P
All-left P (x ∷ xs) ys h = All-cons P x xs (All-head P x (xs ++ ys) h) (All-left P xs ys (All-tail P x (xs ++ ys) h))

pub All-right : {X : Type 0} (P : X → Type 0) (xs ys : List X) → All P (xs ++ ys) → All P ys
All-right P [] ys h = h
All-right P (x ∷ xs) ys h = All-right P xs ys (All-tail P x (xs ++ ys) h)

pub All-both : {X : Type 0} (P Q R : X → Type 0) → ((x : X) → P x → Q x → R x) → (xs : List X) → All P xs → All Q xs → All R xs
All-both P Q R f [] h g = All-nil R
All-both P Q R f (x ∷ xs) h g =
    All-cons R x xs (f x (All-head P x xs h) (All-head Q x xs g)) (All-both P Q R f xs (All-tail P x xs h) (All-tail Q x xs g))

-- two cuts of one list
abbrev Overlap : {X : Type 0} → List X → List X → List X → List X → Type 0
Overlap {X} m x p q = IsPrefixOf m p ⊎ ((z : List X) × (m ≡ p ++ z) × (z ++ x ≡ q))

overlap : {X : Type 0} (m x p q : List X) → m ++ x ≡ p ++ q → Overlap m x p q
overlap [] x p q e = inl (p, refl)
overlap (a ∷ m) x [] q e = inr (a ∷ m, refl, e)
overlap (a ∷ m) x (b ∷ p) q e = by (overlap m x p q cc)
  where
    same : a ≡ b
    same = cc

    by : Overlap m x p q → Overlap (a ∷ m) x (b ∷ p) q
    by given = grind (arith, same)

-- ---- where whole pieces stand

-- A whole piece stands behind a flag that doesn't begin before this place, and behind it so many bits are left as TAIL symbols have.
record StandsWell (all : List Bool) (start : ℕ) (found : Found) : Type 0 where
  pub flag_end : ℕ
  pub ends : FlagEndsAt all flag_end
  pub late : start + 8 ≤ flag_end
  pub before : flag_end < found.place
  pub room : found.place + 4 * TAIL ≤ length all

abbrev IfWhole : List Bool → ℕ → Found → Type 0
IfWhole all start found = found.piece ≡ Whole → StandsWell all start found

abbrev AllStand : List Bool → ℕ → List Found → Type 0
AllStand all start pieces = All (IfWhole all start) pieces

stand-longer : (all more : List Bool) (start earlier : ℕ) (pieces : List Found) → earlier ≤ start → AllStand all start pieces
    → AllStand (all ++ more) earlier pieces
stand-longer all more start earlier pieces l h =
    All-weaker (IfWhole all start) (IfWhole (all ++ more) earlier) (λ found stands whole. let s = stands whole in record {
      flag_end = s.flag_end;
      ends = flag-longer all more s.flag_end s.ends;
      late = omega (arith, s.late, l);
      before = s.before;
      room = omega (arith, s.room, length-append {A = Bool} all more);
    }) pieces h

stand-earlier : (all : List Bool) (start earlier : ℕ) (pieces : List Found) → earlier ≤ start → AllStand all start pieces
    → AllStand all earlier pieces
stand-earlier all start earlier pieces l h = grind (arith, append-nil, stand-longer)

slot-long : (size count past slot : ℕ) → past ≡ size * count → past + slot ≡ size * (count + 1) → slot ≡ size
slot-long size count past slot e f = grind (arith)

flag-between : (before after : List Bool) → FlagEndsAt (before ++ (flag ++ after)) (length before + 8)
flag-between before after = record {
  room = omega arith;
  within = omega (arith, length-append {A = Bool} before (flag ++ after), length-append {A = Bool} flag after);
  spelled = λ i l.
      let place : length before + 8 - 8 + i ≡ length before + i = omega arith in
      ap (bit_of (before ++ (flag ++ after))) place ∙ get_or-append-add before (flag ++ after) i false
      ∙ get_or_append_left flag after false i l;
}

-- the frame of a slot
framed-stands : (size phase : ℕ) (past : List Bool) (octets : List ℕ)
    → length (opening phase (Some octets)) + 4 * TAIL ≤ size → length (slot_bits size phase (Flags (Some octets))) ≡ size
    → StandsWell (past ++ slot_bits size phase (Flags (Some octets))) (length past)
    (whole_at (length past + length (opening phase (Some octets))) octets)
framed-stands size phase past octets room long =
    let rest : List Bool = rest_of_flag phase in
    let n : ℕ = size - length (opening phase (Some octets)) in
    let tail : List Bool = framed (Some octets) ++ fill n in
    let slot : List Bool = slot_bits size phase (Flags (Some octets)) in
    let split : slot ≡ rest ++ (flag ++ (flags 3 ++ tail)) =
    append_assoc (rest ++ flags 4) (framed (Some octets)) (fill n) ∙ append_assoc rest (flags 4) tail
    ∙ ap (λ l. rest ++ l) (append_assoc flag (flags 3) tail) in
    let whole : (past ++ rest) ++ (flag ++ (flags 3 ++ tail)) ≡ past ++ slot =
    append_assoc past rest (flag ++ (flags 3 ++ tail)) ∙ ap (λ l. past ++ l) (sym split) in
    let heads : length (past ++ rest) ≡ length past + length rest = length-append {A = Bool} past rest in
    record {
      flag_end = length (past ++ rest) + 8;
      ends = subst (λ bits. FlagEndsAt bits (length (past ++ rest) + 8)) whole (flag-between (past ++ rest) (flags 3 ++ tail));
      late = omega (arith, heads);
      before = omega (
        arith,
        heads,
        length-append {A = Bool} (rest ++ flags 4) (framed (Some octets)),
        length-append {A = Bool} rest (flags 4),
      );
      room = omega (arith, room, long, length-append {A = Bool} past slot);
    }

-- given bits
plain-stands : (size phase : ℕ) (past bits : List Bool) (flagged : Bool) (added : List Found)
    → FoundIn size (length past) phase flagged (Plain bits) added → AllStand (past ++ bits) (length past) added
plain-stands size phase past bits flagged added found = grind (arith)

signal-stands : (size phase : ℕ) (past : List Bool) (flagged : Bool) (x : Signal) (added : List Found)
    → Fits size phase x → length (slot_bits size phase (slot_of size x)) ≡ size
    → FoundIn size (length past) phase flagged (slot_of size x) added
    → AllStand (past ++ slot_bits size phase (slot_of size x)) (length past) added
signal-stands size phase past flagged (FlagSlot None) added fits long found = grind (arith)
signal-stands size phase past flagged (FlagSlot (Some octets)) added fits long found =
    let slot : List Bool = slot_bits size phase (Flags (Some octets)) in
    subst (AllStand (past ++ slot) (length past)) (sym found)
    (All-cons (IfWhole (past ++ slot) (length past)) (whole_at (length past + length (opening phase (Some octets))) octets) []
    (λ e. framed-stands size phase past octets fits.1 long) (All-nil (IfWhole (past ++ slot) (length past))))
signal-stands size phase past flagged (PatternSlot seen) added fits long found = grind (arith, plain-stands)
signal-stands size phase past flagged MarkSlot added fits long found = grind (arith, plain-stands)

-- ---- the pieces of more slots

record MoreStand (size : ℕ) (before more : List Signal) (added : List Found) : Type 0 where
  pub all : pieces_of (signal_bits size (before ++ more)) ≡ pieces_of (signal_bits size before) ++ added
  pub stand : AllStand (signal_bits size (before ++ more)) (length (signal_bits size before)) added
  pub longer : (rest : List Bool) × (signal_bits size (before ++ more) ≡ signal_bits size before ++ rest)

pub record SlotLaws : Type 0 where
  pub first : FirstOnesFit
  pub slots : SlotsThatFitAreSlots
  pub size : SlotsHaveSize

more-stand : SlotLaws → (size : ℕ) (before more : List Signal) → 4 * (HEAD + TAIL) < size → AreFit size 0 (before ++ more)
    → (added : List Found) × MoreStand size before more added
more-stand laws size before [] wide fit = (
  [],
  record {
    all = ap (λ l. pieces_of (signal_bits size l)) (append-nil before) ∙ sym (append-nil (pieces_of (signal_bits size before)));
    stand = All-nil (IfWhole (signal_bits size (before ++ [])) (length (signal_bits size before)));
    longer = ([], ap (signal_bits size) (append-nil before) ∙ sym (append-nil (signal_bits size before)));
  },
)
more-stand laws size before (x ∷ more) wide fit =
    let split : (before ++ x ∷ []) ++ more ≡ before ++ x ∷ more = append_assoc before (x ∷ []) more in
    let fit-split : AreFit size 0 ((before ++ x ∷ []) ++ more) = subst (AreFit size 0) (sym split) fit in
    let fit-one : AreFit size 0 (before ++ x ∷ []) = laws.first size (before ++ x ∷ []) more fit-split in
    let past : List Bool = signal_bits size before in
    let phase : ℕ = phase_after size (slots_of size before) in
    let slot : List Bool = slot_bits size phase (slot_of size x) in
    let joined : signal_bits size (before ++ x ∷ []) ≡ past ++ slot = slot-added size before x in
    let slots : AreSlots size 0 (slots_of size before ++ slot_of size x ∷ []) =
    subst (AreSlots size 0) (map-append (slot_of size) before (x ∷ [])) (laws.slots size (before ++ x ∷ []) wide fit-one) in
    let one = found-is-sent size (slots_of size before) (slot_of size x) slots in
    let sizes : length (past ++ slot) ≡ size * length (before ++ x ∷ []) =
    ap length (sym joined) ∙ laws.size size (before ++ x ∷ []) wide fit-one in
    let size-before : length past ≡ size * length before = laws.size size before wide (laws.first size before (x ∷ []) fit-one) in
    let long : length slot ≡ size = slot-long size (length before) (length past) (length slot) size-before
    (sym (length-append {A = Bool} past slot) ∙ sizes ∙ ap (λ n. size * n) (length-append {A = Signal} before (x ∷ []))) in
    let stands : AllStand (past ++ slot) (length past) one.0 =
    signal-stands size phase past (flags_behind false (slots_of size before)) x one.0
    (fit-last size 0 before x fit-one) long one.1.found in
    let rest = more-stand laws size (before ++ x ∷ []) more wide fit-split in
    let whole : signal_bits size (before ++ x ∷ more) ≡ (past ++ slot) ++ rest.1.longer.0 =
    ap (signal_bits size) (sym split) ∙ rest.1.longer.1 ∙ ap (λ l. l ++ rest.1.longer.0) joined in
    let added-one : pieces_of (signal_bits size (before ++ x ∷ [])) ≡ pieces_of past ++ one.0 =
    ap (λ l. pieces_of (sent_bits size l)) (map-append (slot_of size) before (x ∷ [])) ∙ one.1.all in
    let longer : length past ≤ length (signal_bits size (before ++ x ∷ [])) =
    omega (arith, ap length joined, length-append {A = Bool} past slot) in (
      one.0 ++ rest.0,
      record {
        all = ap (λ l. pieces_of (signal_bits size l)) (sym split) ∙ rest.1.all ∙ ap (λ l. l ++ rest.0) added-one
            ∙ append_assoc (pieces_of past) one.0 rest.0;
        stand = All-append (IfWhole (signal_bits size (before ++ x ∷ more)) (length past)) one.0 rest.0
            (subst (λ l. AllStand l (length past) one.0) (sym whole)
            (stand-longer (past ++ slot) rest.1.longer.0 (length past) (length past) one.0 (omega arith) stands))
            (subst (λ l. AllStand (signal_bits size l) (length past) rest.0) split
            (stand-earlier (signal_bits size ((before ++ x ∷ []) ++ more)) (length (signal_bits size (before ++ x ∷ []))) (length past)
            rest.0 longer rest.1.stand));
        longer = (slot ++ rest.1.longer.0, whole ∙ append_assoc past slot rest.1.longer.0);
      },
    )

-- ---- bits of which the first and the last ones aren't heard

-- What is found of the bits of these slots from a place on, where not all of them are heard: the last of their frames, without a gap.
pub record CutFinds (size : ℕ) (signals : List Signal) (from upto : ℕ) : Type 0 where
  pub missed : List Found
  pub all : wholes (pieces_of (signal_bits size signals))
      ≡ wholes missed ++ wholes (pieces_of (drop from (take upto (signal_bits size signals))))
  pub early : (before more : List Signal) → signals ≡ before ++ more → from ≤ length (signal_bits size before)
      → IsPrefixOf (wholes missed) (wholes (pieces_of (signal_bits size before)))
  pub others : AreWholeOrAborted (pieces_of (signal_bits size signals))
      → AreWholeOrAborted (pieces_of (drop from (take upto (signal_bits size signals))))

heard-expected : (n : ℕ) (pieces : List Found) → AreWholeOrAborted (map (behind n) pieces) → AreWholeOrAborted pieces
heard-expected n [] h = All-nil IsExpected
heard-expected n (x ∷ pieces) h =
    All-cons IsExpected x pieces (All-head IsExpected (behind n x) (map (behind n) pieces) h)
    (heard-expected n pieces (All-tail IsExpected (behind n x) (map (behind n) pieces) h))

module _ (laws : SlotLaws) (tails : LastPiecesAreFound) (size : ℕ) (signals : List Signal) (from upto : ℕ) (wide : 4 * (HEAD + TAIL) < size)
    (fit : AreFit size 0 signals) (few : length (signal_bits size signals) ≤ upto + 4 * TAIL) where
  abbrev bits : List Bool
  bits = signal_bits size signals

  abbrev heard : List Bool
  heard = take upto bits

  abbrev first : List Bool
  first = take from heard

  abbrev rest : List Bool
  rest = drop from heard

  abbrev missed : List Found
  missed = (tails first rest).0

  misses : Misses first rest missed
  misses = (tails first rest).1

  late : (added : List Found) × Added heard (drop upto bits) added
  late = pieces-stay heard (drop upto bits)

  abbrev behind_missed : List Found
  behind_missed = map (behind (length first)) (pieces_of rest) ++ late.0

  heard-split : first ++ rest ≡ heard
  heard-split = take-append-drop from heard

  bits-split : heard ++ drop upto bits ≡ bits
  bits-split = take-append-drop upto bits

  whole : pieces_of bits ≡ missed ++ behind_missed
  whole = ap pieces_of (sym bits-split) ∙ late.1.all ∙ ap (λ p. p ++ late.0) (ap pieces_of (sym heard-split) ∙ misses.all)
      ∙ append_assoc missed (map (behind (length first)) (pieces_of rest)) late.0

  all-stand : AllStand bits 0 (missed ++ behind_missed)
  all-stand =
      let m = more-stand laws size [] signals wide fit in
      let same : pieces_of bits ≡ m.0 = m.1.all ∙ ap (λ p. p ++ m.0) pieces-none in
      subst (AllStand bits 0) (sym same ∙ whole) m.1.stand

  long-heard : length heard ≡ min upto (length bits)
  long-heard = length-take upto bits

  nothing-late : wholes late.0 ≡ []
  nothing-late = none-whole late.0 (All-both (IfWhole bits 0)
      (λ found. (length heard < found.place) × (found.place ≤ length (heard ++ drop upto bits))) (λ found. found.piece ≡ Whole → ⊥)
      (λ found stands place is. let s = stands is in omega (arith, s.room, place.0, long-heard, few)) late.0
      (All-right (IfWhole bits 0) (map (behind (length first)) (pieces_of rest)) late.0
      (All-right (IfWhole bits 0) missed behind_missed all-stand)) late.1.places)

  behind-wholes : wholes behind_missed ≡ wholes (pieces_of rest)
  behind-wholes = wholes-append (map (behind (length first)) (pieces_of rest)) late.0
      ∙ ap (λ w. wholes (map (behind (length first)) (pieces_of rest)) ++ w) nothing-late
      ∙ append-nil (wholes (map (behind (length first)) (pieces_of rest))) ∙ wholes-behind (length first) (pieces_of rest)

  module _ (before more : List Signal) (split : signals ≡ before ++ more) (far : from ≤ length (signal_bits size before)) where
    abbrev pieces_before : List Found
    pieces_before = pieces_of (signal_bits size before)

    added : (added : List Found) × MoreStand size before more added
    added = more-stand laws size before more wide (subst (AreFit size 0) split fit)

    both : missed ++ behind_missed ≡ pieces_before ++ added.0
    both = sym whole ∙ ap (λ s. pieces_of (signal_bits size s)) split ∙ added.1.all

    stand : AllStand bits (length (signal_bits size before)) added.0
    stand = subst (λ s. AllStand (signal_bits size s) (length (signal_bits size before)) added.0) (sym split) added.1.stand

    -- a whole piece behind these slots isn't missed
    not-missed : (z : List Found) → missed ≡ pieces_before ++ z → AllStand bits (length (signal_bits size before)) z
        → All (λ found. found.piece ≡ Whole → ⊥) z
    not-missed z is stands k d within is_whole =
        let s = stands k d within is_whole in
        let in_heard : s.flag_end ≤ length heard = omega (arith, s.before, s.room, long-heard, few) in
        let of_heard : FlagEndsAt heard s.flag_end = flag-front heard (drop upto bits) s.flag_end in_heard
        (subst (λ l. FlagEndsAt l s.flag_end) (sym bits-split) s.ends) in
        let behind_first : length first + 8 ≤ s.flag_end = omega (arith, s.late, far, length-take from heard) in
        let of_rest : FlagEndsAt rest (s.flag_end - length first) = flag-back first rest s.flag_end behind_first
        (subst (λ l. FlagEndsAt l s.flag_end) (sym heard-split) of_heard) in
        let early = All-right (λ found. found.place ≤ length first + (s.flag_end - length first)) pieces_before z
        (subst (λ l. All (λ found. found.place ≤ length first + (s.flag_end - length first)) l) is
        (misses.early (s.flag_end - length first) of_rest)) k d within in
        omega (arith, s.before, behind_first, early)

    begins : Overlap missed behind_missed pieces_before added.0 → IsPrefixOf (wholes missed) (wholes pieces_before)
    begins (inl p) = (wholes p.0, sym (wholes-append missed p.0) ∙ ap wholes p.1)
    begins (inr o) =
        let z : List Found = o.0 in
        let stands : AllStand bits (length (signal_bits size before)) z =
        All-left (IfWhole bits (length (signal_bits size before))) z behind_missed
        (subst (AllStand bits (length (signal_bits size before))) (sym o.2) stand) in
        let none : wholes z ≡ [] = none-whole z (not-missed z o.1 stands) in
        let same : wholes missed ≡ wholes pieces_before =
        ap wholes o.1 ∙ wholes-append pieces_before z ∙ ap (λ w. wholes pieces_before ++ w) none ∙ append-nil (wholes pieces_before) in
        ([], append-nil (wholes missed) ∙ same)

    missed-begins : IsPrefixOf (wholes missed) (wholes pieces_before)
    missed-begins = begins (overlap missed behind_missed pieces_before added.0 both)

  pub cut-finds : CutFinds size signals from upto
  cut-finds = record {
    missed = missed;
    all = ap wholes whole ∙ wholes-append missed behind_missed ∙ ap (λ w. wholes missed ++ w) behind-wholes;
    early = missed-begins;
    others = λ h. heard-expected (length first) (pieces_of rest) (All-left IsExpected (map (behind (length first)) (pieces_of rest)) late.0
        (All-right IsExpected missed behind_missed (subst AreWholeOrAborted whole h)));
  }
