-- What is found at a bit, as a relation and as a function.
use Rattle.std.proofs.lemmas.List.{length_push}
use Rattle.bit_stuffing.proofs.Names.{◌≡◌, ℕ, zero, suc, ◌+◌, ◌-◌, ◌<◌, ◌≤◌, inl, inr, Bool, true, false, if◌then◌else◌, nat_lt, List, []}
use Rattle.bit_stuffing.proofs.Names.{◌∷◌, ◌++◌, All, length, take, get_or, Option, Some, None, arith, refl, sym, ◌∙◌, ap, subst}
use Rattle.bit_stuffing.proofs.Names.{false≢true, ltb-true, ltb-false, take_more, take-append-le, take_all, All-cons, All-nil, beq}
use Rattle.bit_stuffing.proofs.Names.{ends_with, option_map, flag, FlagEndsAt, OpenedAt, Aborts, Closes, Found, seven_ones, opened_before}
use Rattle.bit_stuffing.proofs.Names.{judged, octets_in, found_from, listed, content, IsWhole, Judged, IsAnswer, EndsWhole, Piece, Whole}
use Rattle.bit_stuffing.proofs.Names.{Ragged, Aborted, TooLong, TooShort}
use Rattle.std.specs.Option.{option_map_or}
use Rattle.bit_stuffing.specs.Pieces.{IsLent}
use Rattle.bit_stuffing.specs.Found.{found_at, answer_of, lent_of}
use Rattle.bit_stuffing.specs.Found.{found_before, pieces_of}
use Rattle.bit_stuffing.proofs.Openings.{opened-once, opened-stays, opened-by_flag, at_end, from_end, seven_at_end, seven_from_end}
use Rattle.bit_stuffing.proofs.Openings.{shut-stays, shut-quiet, seven-shuts, flag-near, quiet}
use Rattle.bit_stuffing.proofs.Between.{take-length}
use Rattle.bit_stuffing.proofs.EndsWith.{ends-flag, flag-ends, ends-seven, seven-ends}
use Rattle.bit_stuffing.proofs.Judged.{judged-is, judged-once, octets-whole, carries_once}
use Rattle.bit_stuffing.proofs.Contents.{piece-answer, no_closing, ends-closes, none-lent, closes-other}

-- where a flag is open
abbrev pub IsOpen : Option ℕ → List Bool → Type 0
IsOpen None bits = (p : ℕ) → OpenedAt bits p → ⊥
IsOpen (Some p) bits = OpenedAt bits p

open-step : (past : List Bool) (b : Bool) (before : Option ℕ) → IsOpen before past → (f s : Bool) → ends_with beq (past ++ b ∷ []) flag ≡ f
    → ends_with beq (past ++ b ∷ []) seven_ones ≡ s
    → IsOpen (if f then Some (length past + 1) else (if s then None else before)) (past ++ b ∷ [])
open-step past b before o true s e g = opened-by_flag past b (at_end past b (ends-flag (past ++ b ∷ []) e))
open-step past b before o false true e g = seven-shuts past b (seven_at_end past b (ends-seven (past ++ b ∷ []) g))
open-step past b None o false false e g = shut-stays past b (λ f. false≢true (sym e ∙ flag-ends (past ++ b ∷ []) (from_end past b f))) o
open-step past b (Some p) o false false e g = opened-stays past b p o
    (λ f. false≢true (sym e ∙ flag-ends (past ++ b ∷ []) (from_end past b f)))
    (λ s. false≢true (sym g ∙ seven-ends (past ++ b ∷ []) (seven_from_end past b s)))

open-at : (past bits : List Bool) (b : Bool) (place : ℕ) (before : Option ℕ) → bits ≡ past ++ b ∷ [] → place ≡ length past + 1
    → IsOpen before past
    → IsOpen (if ends_with beq bits flag then Some place else (if ends_with beq bits seven_ones then None else before)) bits
open-at past bits b place before e n o = grind (arith, open-step)

pub is_open : (bits : List Bool) (n : ℕ) → n ≤ length bits → IsOpen (opened_before bits n) (take n bits)
is_open bits zero h = λ p o. absurd (omega (arith, o.flag_ends.room, o.flag_ends.within))
is_open bits (suc n) h =
    let e : suc n ≡ n + 1 = omega arith in
    let more : take (suc n) bits ≡ take n bits ++ get_or bits n false ∷ [] =
    ap (λ m. take m bits) e ∙ take_more bits n false (omega arith) in
    let wide : length (take n bits) ≡ n = take-length bits n (omega arith) in
    open-at (take n bits) (take (suc n) bits) (get_or bits n false) (suc n) (opened_before bits n) more (omega arith)
    (is_open bits n (omega arith))

-- where a flag is open before the last bit
pub open_before : (past : List Bool) (bit : Bool) → IsOpen (opened_before (past ++ bit ∷ []) (length (past ++ bit ∷ []) - 1)) past
open_before past bit =
    let n : length (past ++ bit ∷ []) - 1 ≡ length past = omega (arith, length_push past bit) in
    let front : take (length past) (past ++ bit ∷ []) ≡ past =
    take-append-le (length past) past (bit ∷ []) (omega arith) ∙ take_all (length past) past (omega arith) in
    rw n (subst (IsOpen (opened_before (past ++ bit ∷ []) (length past))) front
    (is_open (past ++ bit ∷ []) (length past) (omega (arith, length_push past bit))))

-- what is found at the last of the bits past ++ bit
abbrev ones_found : List Bool → Found
ones_found bits = record { place = length bits; piece = Aborted; octets = [] }

abbrev closed_found : List Bool → ℕ → Found
closed_found bits p =
    record { place = length bits; piece = judged (content bits p); octets = octets_in (judged (content bits p)) (content bits p) }

data IsFound (past : List Bool) (bit : Bool) : Option Found → Type 0 where
  Quiet : (Aborts past (past ++ bit ∷ []) → ⊥) → (Closes past (past ++ bit ∷ []) → ⊥) → IsFound past bit None
  Ones : Aborts past (past ++ bit ∷ []) → IsFound past bit (Some (ones_found (past ++ bit ∷ [])))
  Closed : (closes : Closes past (past ++ bit ∷ [])) → IsFound past bit (Some (closed_found (past ++ bit ∷ []) closes.opened))

found-from : (past : List Bool) (bit : Bool) (o : Option ℕ) → IsOpen o past → IsFound past bit (found_from (past ++ bit ∷ []) o)
found-from past bit None o = let none = shut-quiet past bit o in Quiet none.0 none.1
found-from past bit (Some p) o = flags (ends_with beq (past ++ bit ∷ []) flag) refl
  where
    far : FlagEndsAt (past ++ bit ∷ []) (length (past ++ bit ∷ [])) → (t : Bool) → nat_lt (p + 8) (length (past ++ bit ∷ [])) ≡ t
        → IsFound past bit (if t then Some (closed_found (past ++ bit ∷ []) p) else None)
    far f true e = Closed (record { opened = p; is_opened = o; closing = f; some = ltb-true (p + 8) (length (past ++ bit ∷ [])) e })
    far f false e =
        let none = flag-near past bit (at_end past bit f)
        (λ q k. let same : q ≡ p = opened-once past q p k o in
        omega (arith, ltb-false (p + 8) (length (past ++ bit ∷ [])) e, length_push past bit)) in
        Quiet none.0 none.1

    sevens : (FlagEndsAt (past ++ bit ∷ []) (length (past ++ bit ∷ [])) → ⊥) → (t : Bool) → ends_with beq (past ++ bit ∷ []) seven_ones ≡ t
        → IsFound past bit (if t then Some (ones_found (past ++ bit ∷ [])) else None)
    sevens no_flag true e = Ones (record { opened = p; is_opened = o; seventh = ends-seven (past ++ bit ∷ []) e })
    sevens no_flag false e =
        let none = quiet past bit (λ f. no_flag (from_end past bit f))
        (λ s. false≢true (sym e ∙ seven-ends (past ++ bit ∷ []) (seven_from_end past bit s))) in
        Quiet none.0 none.1

    flags : (t : Bool) → ends_with beq (past ++ bit ∷ []) flag ≡ t
        → IsFound past bit (if t then
        (if nat_lt (p + 8) (length (past ++ bit ∷ [])) then Some (closed_found (past ++ bit ∷ []) p) else None)
        else (if ends_with beq (past ++ bit ∷ []) seven_ones then Some (ones_found (past ++ bit ∷ [])) else None))
    flags true e = far (ends-flag (past ++ bit ∷ []) e) (nat_lt (p + 8) (length (past ++ bit ∷ []))) refl
    flags false e = sevens (λ f. false≢true (sym e ∙ flag-ends (past ++ bit ∷ []) f)) (ends_with beq (past ++ bit ∷ []) seven_ones) refl

found-is : (past : List Bool) (bit : Bool) → IsFound past bit (found_at (past ++ bit ∷ []))
unfolding found_at
found-is past bit = found-from past bit (opened_before (past ++ bit ∷ []) (length (past ++ bit ∷ []) - 1)) (open_before past bit)

found-once : (past : List Bool) (bit : Bool) (a b : Option Found) → IsFound past bit a → IsFound past bit b → a ≡ b
found-once past bit a b (Quiet n m) (Quiet k l) = refl
found-once past bit a b (Quiet n m) (Ones y) = absurd (n y)
found-once past bit a b (Quiet n m) (Closed y) = absurd (m y)
found-once past bit a b (Ones x) (Quiet n m) = absurd (n x)
found-once past bit a b (Ones x) (Ones y) = refl
found-once past bit a b (Ones x) (Closed y) = absurd (no_closing past bit x y)
found-once past bit a b (Closed x) (Quiet n m) = absurd (m x)
found-once past bit a b (Closed x) (Ones y) = absurd (no_closing past bit y x)
found-once past bit a b (Closed x) (Closed y) =
    ap (λ o. Some (closed_found (past ++ bit ∷ []) o)) (opened-once past x.opened y.opened x.is_opened y.is_opened)

-- it is found at this place
place-is : (past : List Bool) (bit : Bool) (found : Option Found) → IsFound past bit found
    → All (λ one. one.place ≡ length past + 1) (listed found)
place-is past bit found (Quiet n m) = All-nil (λ one. one.place ≡ length past + 1)
place-is past bit found (Ones x) =
    All-cons (λ one. one.place ≡ length past + 1) (ones_found (past ++ bit ∷ [])) [] (length_push past bit)
    (All-nil (λ one. one.place ≡ length past + 1))
place-is past bit found (Closed x) =
    All-cons (λ one. one.place ≡ length past + 1) (closed_found (past ++ bit ∷ []) x.opened) [] (length_push past bit)
    (All-nil (λ one. one.place ≡ length past + 1))

pub found-place : (past : List Bool) (bit : Bool) → All (λ one. one.place ≡ length past + 1) (listed (found_at (past ++ bit ∷ [])))
found-place past bit = place-is past bit (found_at (past ++ bit ∷ [])) (found-is past bit)

-- what is found is this, once it is known what ends at the bit
pub found-quiet : (past : List Bool) (bit : Bool) → (Aborts past (past ++ bit ∷ []) → ⊥) → (Closes past (past ++ bit ∷ []) → ⊥)
    → found_at (past ++ bit ∷ []) ≡ None
found-quiet past bit n m = found-once past bit _ _ (found-is past bit) (Quiet n m)

pub found-ones : (past : List Bool) (bit : Bool) → Aborts past (past ++ bit ∷ [])
    → found_at (past ++ bit ∷ []) ≡ Some (record { place = length (past ++ bit ∷ []); piece = Aborted; octets = [] })
found-ones past bit x = found-once past bit _ _ (found-is past bit) (Ones x)

pub found-whole : (past : List Bool) (bit : Bool) (closes : Closes past (past ++ bit ∷ [])) (octets : List ℕ)
    → IsWhole (content (past ++ bit ∷ []) closes.opened) octets
    → found_at (past ++ bit ∷ []) ≡ Some (record { place = length (past ++ bit ∷ []); piece = Whole; octets = octets })
found-whole past bit closes octets w =
    found-once past bit _ _ (found-is past bit) (Closed closes)
    ∙ rw (piece_is, octets-whole (content (past ++ bit ∷ []) closes.opened) octets w) refl
  where
    piece_is : judged (content (past ++ bit ∷ []) closes.opened) ≡ Whole
    piece_is = judged-once (content (past ++ bit ∷ []) closes.opened) (judged (content (past ++ bit ∷ []) closes.opened)) Whole
        (judged-is (content (past ++ bit ∷ []) closes.opened)) (octets, w)

-- the answer

answer-of_found : (past : List Bool) (bit : Bool) (found : Option Found) → IsFound past bit found
    → IsAnswer past bit (option_map (λ one. one.piece) found)
answer-of_found past bit found (Quiet n m) = (n, m)
answer-of_found past bit found (Ones x) = x
answer-of_found past bit found (Closed x) =
    piece-answer past bit (judged (content (past ++ bit ∷ []) x.opened)) x (judged-is (content (past ++ bit ∷ []) x.opened))

pub answer-is : (past : List Bool) (bit : Bool) → IsAnswer past bit (answer_of (past ++ bit ∷ []))
answer-is past bit = answer-of_found past bit (found_at (past ++ bit ∷ [])) (found-is past bit)

-- the same as an answer
data IsAnswered (past : List Bool) (bit : Bool) : Option Piece → Type 0 where
  Quiet : (Aborts past (past ++ bit ∷ []) → ⊥) → (Closes past (past ++ bit ∷ []) → ⊥) → IsAnswered past bit None
  Ones : Aborts past (past ++ bit ∷ []) → IsAnswered past bit (Some Aborted)
  Closed : (piece : Piece) (closes : Closes past (past ++ bit ∷ [])) → Judged (content (past ++ bit ∷ []) closes.opened) piece
      → IsAnswered past bit (Some piece)

answered : (past : List Bool) (bit : Bool) (answer : Option Piece) → IsAnswer past bit answer → IsAnswered past bit answer
answered past bit None h = IsAnswered.Quiet h.0 h.1
answered past bit (Some Aborted) h = IsAnswered.Ones h
answered past bit (Some Whole) h = IsAnswered.Closed Whole h.0 h.1
answered past bit (Some Ragged) h = IsAnswered.Closed Ragged h.0 h.1
answered past bit (Some TooLong) h = IsAnswered.Closed TooLong h.0 h.1
answered past bit (Some TooShort) h = IsAnswered.Closed TooShort h.0 h.1

-- a bit has one answer
pub is_answer : (past : List Bool) (bit : Bool) (answer : Option Piece) → IsAnswer past bit answer → answer ≡ answer_of (past ++ bit ∷ [])
is_answer past bit answer h = each answer (answered past bit answer h)
  where
    each : (answer : Option Piece) → IsAnswered past bit answer → answer ≡ answer_of (past ++ bit ∷ [])
    each answer (IsAnswered.Quiet n m) = ap (option_map (λ one. one.piece)) (sym (found-quiet past bit n m))
    each answer (IsAnswered.Ones x) = ap (option_map (λ one. one.piece)) (sym (found-ones past bit x))
    each answer (IsAnswered.Closed piece x j) =
        ap Some (judged-once (content (past ++ bit ∷ []) x.opened) piece (judged (content (past ++ bit ∷ []) x.opened)) j
        (judged-is (content (past ++ bit ∷ []) x.opened)))
        ∙ ap (option_map (λ one. one.piece)) (sym (found-once past bit _ _ (found-is past bit) (Closed x)))

-- the octets that are lent

lent-closed : (past : List Bool) (bit : Bool) (closes : Closes past (past ++ bit ∷ [])) (piece : Piece)
    → Judged (content (past ++ bit ∷ []) closes.opened) piece
    → IsLent (past ++ bit ∷ []) (octets_in piece (content (past ++ bit ∷ []) closes.opened))
lent-closed past bit c Whole (octets, w) = inl (record {
  past = past;
  last = bit;
  splits = refl;
  closes = c;
  whole = subst (IsWhole (content (past ++ bit ∷ []) c.opened)) (sym (octets-whole (content (past ++ bit ∷ []) c.opened) octets w)) w;
})
lent-closed past bit c Ragged j = inr (refl, closes-other past bit c Ragged j (λ e. absurd cc))
lent-closed past bit c TooLong j = inr (refl, closes-other past bit c TooLong j (λ e. absurd cc))
lent-closed past bit c TooShort j = inr (refl, closes-other past bit c TooShort j (λ e. absurd cc))
lent-closed past bit c Aborted j = absurd j

lent-of_found : (past : List Bool) (bit : Bool) (found : Option Found) → IsFound past bit found
    → IsLent (past ++ bit ∷ []) (option_map_or (λ one. one.octets) found [])
lent-of_found past bit found (Quiet n m) = inr (refl, none-lent past bit m)
lent-of_found past bit found (Ones x) = inr (refl, none-lent past bit (no_closing past bit x))
lent-of_found past bit found (Closed x) =
    lent-closed past bit x (judged (content (past ++ bit ∷ []) x.opened)) (judged-is (content (past ++ bit ∷ []) x.opened))

lent-start : IsLent [] (lent_of [])
unfolding found_at
lent-start = inr (
  refl,
  λ other w. let n : 0 ≡ length (w.past ++ w.last ∷ []) = ap length w.splits in
      absurd (omega (arith, n, length_push w.past w.last)),
)

-- a stream that has a bit has a last one
pub last_bit : (bits : List Bool) → 0 < length bits → bits ≡ take (length bits - 1) bits ++ get_or bits (length bits - 1) false ∷ []
last_bit bits some =
    let e : length bits - 1 + 1 ≡ length bits = omega arith in
    sym (take_all (length bits) bits (omega arith)) ∙ ap (λ n. take n bits) (sym e) ∙ take_more bits (length bits - 1) false (omega arith)

pub lent-is : (bits : List Bool) → IsLent bits (lent_of bits)
lent-is [] = lent-start
lent-is (b ∷ rest) =
    let past = take (length (b ∷ rest) - 1) (b ∷ rest) in
    let bit = get_or (b ∷ rest) (length (b ∷ rest) - 1) false in
    let split : b ∷ rest ≡ past ++ bit ∷ [] = last_bit (b ∷ rest) (omega arith) in
    subst (λ bits. IsLent bits (lent_of bits)) (sym split) (lent-of_found past bit (found_at (past ++ bit ∷ [])) (found-is past bit))

ends-once : (bits : List Bool) (a b : List ℕ) → EndsWhole bits a → EndsWhole bits b → a ≡ b
ends-once bits a b x y =
    let c = ends-closes x.past x.last a (subst (λ l. EndsWhole l a) x.splits x) in
    let d = ends-closes x.past x.last b (subst (λ l. EndsWhole l b) x.splits y) in
    let same : d.0.opened ≡ c.0.opened = opened-once x.past d.0.opened c.0.opened d.0.is_opened c.0.is_opened in
    let w = subst (λ p. IsWhole (content (x.past ++ x.last ∷ []) p) b) same d.1 in
    carries_once (content (x.past ++ x.last ∷ []) c.0.opened) a b c.1.carries w.carries

pub lent-once : (bits : List Bool) (a b : List ℕ) → IsLent bits a → IsLent bits b → a ≡ b
lent-once bits a b (inl x) (inl y) = ends-once bits a b x y
lent-once bits a b (inl x) (inr y) = absurd (y.1 a x)
lent-once bits a b (inr x) (inl y) = absurd (x.1 b y)
lent-once bits a b (inr x) (inr y) = x.0 ∙ sym y.0

-- one more bit
found_before-front : (bits more : List Bool) (n : ℕ) → n ≤ length bits → found_before (bits ++ more) n ≡ found_before bits n
found_before-front bits more zero h = refl
found_before-front bits more (suc n) h =
    let e : take (suc n) (bits ++ more) ≡ take (suc n) bits = take-append-le (suc n) bits more h in
    rw (found_before-front bits more n (omega arith)) (ap (λ t. found_before bits n ++ listed (found_at t)) e)

pub pieces-none : pieces_of [] ≡ []
unfolding pieces_of
pieces-none = refl

pub pieces-more : (bits : List Bool) (bit : Bool) → pieces_of (bits ++ bit ∷ []) ≡ pieces_of bits ++ listed (found_at (bits ++ bit ∷ []))
unfolding pieces_of
pieces-more bits bit =
    let n : length (bits ++ bit ∷ []) ≡ suc (length bits) = omega (arith, length_push bits bit) in
    let all : take (suc (length bits)) (bits ++ bit ∷ []) ≡ bits ++ bit ∷ [] =
    take_all (suc (length bits)) (bits ++ bit ∷ []) (omega (arith, n)) in
    ap (found_before (bits ++ bit ∷ [])) n ∙ ap (λ t. found_before (bits ++ bit ∷ []) (length bits) ++ listed (found_at t)) all
    ∙ ap (λ t. t ++ listed (found_at (bits ++ bit ∷ []))) (found_before-front bits (bit ∷ []) (length bits) (omega arith))
