-- One direction of a link, seen from the parts of two accounts and the slots on their lines.
use Rattle.link_account.proofs.Names.{◌≡◌, ℕ, ◌+◌, ◌-◌, ◌%◌, ◌<◌, ◌≤◌, ◌≢◌, ◌&&◌, max, Bool, true, false, cond, nat_eq, nat_lt, List, []}
use Rattle.link_account.proofs.Names.{◌∷◌, ◌++◌, length, slice_index_or, arith, refl, sym, ◌∙◌, ap, subst, Option, Some, None, ◌||◌}
use Rattle.link_account.proofs.Names.{false≢true, eqb-false, append-nil, append_assoc, AllByRecursion, I, Rej, Rnr, Rr, Srej, Sent, Held}
use Rattle.link_account.proofs.Names.{is_held, with_held, Incoming, after_kind, after_take, asks, kind_of, next_expected, Gap, InOrder}
use Rattle.link_account.proofs.Names.{Kept, Repeat, meant, from_number, with_number, Outgoing, advanced, after_next, gone_back, next_among}
use Rattle.link_account.proofs.Names.{next_number, selected, sent_among, wait_ended, Slot, ltb-true, eqb-true}
use Rattle.std.proofs.Common.{zero, suc}
use Rattle.std.specs.List.{range_with_len}
use Rattle.lapm_receiver.specs.Held.{missing_from, first_outside, is_among}
use Rattle.link_account.proofs.Flow.{Segment, Reply, Flow, Sound, IsChoice, IsAskable, IsRising, IsHeldRight, keeps-sent, keeps-told}
use Rattle.link_account.proofs.Flow.{keeps-dropped, keeps-forgotten, keeps-acked, keeps-chosen, keeps-taken, keeps-kept, meant-found}
use Rattle.link_account.proofs.Flow.{with_number-all, from_number-choices, all_weaker, rising-lower}
use Rattle.lapm_frames.specs.declared.sent.Sent.TheVariants as slots

-- what a slot is in the two flows
abbrev pub segment_of : Sent → ℕ → List Segment
segment_of (slots.Frame (I ns nr pf info)) n = record { number = n; info = info } ∷ []
segment_of sent n = []

abbrev pub asked_of : Sent → ℕ → Option ℕ
asked_of (slots.Frame (Srej command nr pf)) n = Some n
asked_of sent n = None

abbrev pub segments_in : List Slot → List Segment
segments_in [] = []
segments_in (slot ∷ rest) = segment_of slot.sent slot.number ++ segments_in rest

abbrev pub replies_in : List Slot → List Reply
replies_in [] = []
replies_in (slot ∷ rest) = (record { told = slot.told; asked = asked_of slot.sent slot.number }) ∷ replies_in rest

-- the numbers of a frame are those meant, modulo 128
abbrev pub IsSpelled : Sent → ℕ → ℕ → Type 0
IsSpelled (slots.Frame (I ns nr pf info)) n told = (ns ≡ n % 128) × (nr ≡ told % 128)
IsSpelled (slots.Frame (Rr command nr pf)) n told = nr ≡ told % 128
IsSpelled (slots.Frame (Rnr command nr pf)) n told = nr ≡ told % 128
IsSpelled (slots.Frame (Rej command nr pf)) n told = nr ≡ told % 128
IsSpelled (slots.Frame (Srej command nr pf)) n told = nr ≡ n % 128
IsSpelled sent n told = Unit {0}

-- one direction: a sender's part, a receiver's part, what is on the line between them and on the line back
abbrev pub flow : ℕ → Bool → Outgoing → Incoming → List Slot → List Slot → Flow
flow w srej o i forward back = record {
  window = w;
  srej = srej;
  pieces = o.pieces;
  front = o.front;
  high = o.high;
  from = o.from;
  chosen = o.chosen;
  taken = i.taken;
  held = i.held;
  segments = segments_in forward;
  replies = replies_in back;
}

abbrev pub Goes : ℕ → Bool → Outgoing → Incoming → List Slot → List Slot → Type 0
Goes w srej o i forward back = Sound (flow w srej o i forward back)

segments_in-snoc : (line : List Slot) (slot : Slot) → segments_in (line ++ slot ∷ []) ≡ segments_in line ++ segment_of slot.sent slot.number
segments_in-snoc [] slot = append-nil (segment_of slot.sent slot.number)
segments_in-snoc (s ∷ line) slot =
    ap (λ l. segment_of s.sent s.number ++ l) (segments_in-snoc line slot)
    ∙ sym (append_assoc (segment_of s.sent s.number) (segments_in line) (segment_of slot.sent slot.number))

replies_in-snoc : (line : List Slot) (slot : Slot)
    → replies_in (line ++ slot ∷ []) ≡ replies_in line ++ (record { told = slot.told; asked = asked_of slot.sent slot.number }) ∷ []
replies_in-snoc [] slot = refl
replies_in-snoc (s ∷ line) slot = ap (λ l. (record { told = s.told; asked = asked_of s.sent s.number }) ∷ l) (replies_in-snoc line slot)

-- A sender hears the oldest slot of the line back.

pub back-forgotten : (w : ℕ) (srej : Bool) (o : Outgoing) (i : Incoming) (forward : List Slot) (slot : Slot) (rest : List Slot)
    → Goes w srej o i forward (slot ∷ rest) → Goes w srej o i forward rest
back-forgotten w srej o i forward slot rest h = grind (arith, keeps-forgotten)

-- its N(R) is found
pub ack-found : (w : ℕ) (srej : Bool) (o : Outgoing) (i : Incoming) (forward : List Slot) (slot : Slot) (rest : List Slot)
    → Goes w srej o i forward (slot ∷ rest) → meant o.front o.high (slot.told % 128) ≡ Some slot.told
ack-found w srej o i forward slot rest h = grind (arith, meant-found)

pub back-advanced : (w : ℕ) (srej : Bool) (o : Outgoing) (i : Incoming) (forward : List Slot) (slot : Slot) (rest : List Slot)
    → Goes w srej o i forward (slot ∷ rest) → Goes w srej (advanced o slot.told) i forward rest
back-advanced w srej o i forward slot rest h =
    keeps-acked (flow w srej o i forward rest) (record { told = slot.told; asked = asked_of slot.sent slot.number }) (replies_in rest)
    (max o.from slot.told) (from_number slot.told o.chosen) h
    (omega arith) (omega (arith, h.to_send.high, h.told.each.0.high, h.range.nexts))
    (from_number-choices o.front o.high slot.told o.chosen h.to_send.choices)

pub back-rejected : (w : ℕ) (srej : Bool) (o : Outgoing) (i : Incoming) (forward : List Slot) (slot : Slot) (rest : List Slot)
    → Goes w srej o i forward (slot ∷ rest) → Goes w srej (gone_back (advanced o slot.told)) i forward rest
back-rejected w srej o i forward slot rest h =
    keeps-acked (flow w srej o i forward rest) (record { told = slot.told; asked = asked_of slot.sent slot.number })
    (replies_in rest) slot.told (from_number slot.told o.chosen) h
    (omega arith) (omega (arith, h.told.each.0.high, h.range.nexts))
    (from_number-choices o.front o.high slot.told o.chosen h.to_send.choices)

pub back-replied : (w : ℕ) (srej : Bool) (o : Outgoing) (i : Incoming) (forward : List Slot) (slot : Slot) (rest : List Slot)
    → Goes w srej o i forward (slot ∷ rest) → Goes w srej (wait_ended (advanced o slot.told)) i forward rest
back-replied w srej o i forward slot rest h =
    keeps-acked (flow w srej o i forward rest) (record { told = slot.told; asked = asked_of slot.sent slot.number })
    (replies_in rest) slot.told [] h
    (omega arith) (omega (arith, h.told.each.0.high, h.range.nexts)) tt

pub back-selected : (w : ℕ) (srej : Bool) (o : Outgoing) (i : Incoming) (forward : List Slot) (command pf : Bool) (nr n told : ℕ)
    (rest : List Slot)
    → Goes w srej o i forward ((record { sent = slots.Frame (Srej command nr pf); number = n; told = told }) ∷ rest) → nr ≡ n % 128
    → (selected nr o ≡ Some (record o { chosen = with_number n o.chosen }))
    × Goes w srej (record o { chosen = with_number n o.chosen }) i forward rest
back-selected w srej o i forward command pf nr n told rest h e = grind (arith, meant-found, keeps-chosen, keeps-forgotten, with_number-all)

-- A receiver hears the oldest slot of the line to it.

-- nothing but an I frame is a segment
pub line-passed : (w : ℕ) (srej : Bool) (o : Outgoing) (i : Incoming) (slot : Slot) (rest back : List Slot)
    → segment_of slot.sent slot.number ≡ [] → Goes w srej o i (slot ∷ rest) back → Goes w srej o i rest back
line-passed w srej o i slot rest back e h = subst (λ l. Sound (record (flow w srej o i rest back) { segments = l ++ segments_in rest })) e h

segments-dropped : (p : Flow) (l rest : List Segment) → Sound (record p { segments = l ++ rest }) → Sound (record p { segments = rest })
segments-dropped p [] rest h = h
segments-dropped p (s ∷ l) rest h = segments-dropped p l rest (keeps-dropped p s (l ++ rest) h)

pub line-lost : (w : ℕ) (srej : Bool) (o : Outgoing) (i : Incoming) (slot : Slot) (rest back : List Slot)
    → Goes w srej o i (slot ∷ rest) back → Goes w srej o i rest back
line-lost w srej o i slot rest back h = segments-dropped (flow w srej o i rest back) (segment_of slot.sent slot.number) (segments_in rest) h

-- how far a segment lies from the next one expected says which it is
distance-0 : (n r w front high : ℕ) → n < high → r ≤ n + w → high ≤ front + w → front ≤ r → w ≤ 127 → (n % 128 + 128 - r % 128) % 128 ≡ 0
    → n ≡ r
distance-0 n r w front high a b c d few e = omega arith

distance-of : (n r w front high : ℕ) → n < high → r ≤ n + w → high ≤ front + w → front ≤ r → w ≤ 64 → (n % 128 + 128 - r % 128) % 128 < w
    → n ≡ r + (n % 128 + 128 - r % 128) % 128
distance-of n r w front high a b c d few e = omega arith

-- the oldest slot is an I frame, and the receiver takes it
pub line-taken : (w : ℕ) (srej : Bool) (o : Outgoing) (i : Incoming) (ns nr : ℕ) (pf : Bool) (info : List ℕ) (n told : ℕ)
    (rest back : List Slot)
    → Goes w srej o i ((record { sent = slots.Frame (I ns nr pf info); number = n; told = told }) ∷ rest) back → ns ≡ n % 128 → i.window ≡ w
    → i.srej ≡ srej
    → Goes w srej o (after_take ns info i) rest back
line-taken w srej o i ns nr pf info n told rest back h spelled window same =
    subst (λ m. Goes w srej o (after_take m info i) rest back) (sym spelled)
    (go (nat_eq d 0) refl (nat_lt d i.window) refl i.srej refl (is_held (r + d) i.held) refl)
  where
    r : ℕ
    r = length i.taken

    d : ℕ
    d = (n % 128 + 128 - length i.taken % 128) % 128

    p : Flow
    p = flow w srej o i rest back

    s : Segment
    s = record { number = n; info = info }

    go : (z : Bool) → nat_eq d 0 ≡ z → (l : Bool) → nat_lt d i.window ≡ l → (y : Bool) → i.srej ≡ y → (k : Bool)
        → is_held (r + d) i.held ≡ k
        → Goes w srej o (after_kind (cond z InOrder (cond l (cond y (cond k Repeat Kept) Gap) Repeat)) d info i) rest back
    go true z l t y u k v =
        keeps-taken p s (segments_in rest) h
        (distance-0 n r w o.front o.high h.line.each.0.below h.line.each.0.near h.range.highs h.range.fronts h.width.high (eqb-true d 0 z))
    go false z false t y u k v = keeps-dropped p s (segments_in rest) h
    go false z true t false u k v = keeps-dropped p s (segments_in rest) h
    go false z true t true u true v = keeps-dropped p s (segments_in rest) h
    go false z true t true u false v =
        let near : d < w = subst (λ x. d < x) window (ltb-true d i.window t) in
        let at : n ≡ r + d = distance-of n r w o.front o.high h.line.each.0.below h.line.each.0.near h.range.highs h.range.fronts
        (h.width.selective (sym same ∙ u)) near in
        let far : d ≢ 0 = eqb-false d 0 z in
        subst (λ m. Sound (record p { segments = segments_in rest; held = with_held (record { number = m; info = info }) i.held })) at
        (keeps-kept p s (segments_in rest) h (omega (arith, at, far)) (ap (λ m. is_held m i.held) at ∙ v))

-- InOrder comes exactly where the meant number is the next one expected
pub order-exact : (w : ℕ) (srej : Bool) (o : Outgoing) (i : Incoming) (nr : ℕ) (pf : Bool) (info : List ℕ) (n told : ℕ)
    (rest back : List Slot)
    → Goes w srej o i ((record { sent = slots.Frame (I (n % 128) nr pf info); number = n; told = told }) ∷ rest) back → i.window ≡ w
    → i.srej ≡ srej
    → (kind_of (n % 128) i ≡ InOrder → n ≡ next_expected i) × (n ≡ next_expected i → kind_of (n % 128) i ≡ InOrder)
    × (kind_of (n % 128) i ≡ Kept → (next_expected i + 1 ≤ n) × (n + 1 ≤ next_expected i + w))
order-exact w srej o i nr pf info n told rest back h window same = grind (arith, distance-0, eqb-true, ltb-true, distance-of, eqb-false)

-- An end speaks.

-- what it sends is no segment
pub line-quiet : (w : ℕ) (srej : Bool) (o : Outgoing) (i : Incoming) (line back : List Slot) (slot : Slot)
    → segment_of slot.sent slot.number ≡ [] → Goes w srej o i line back → Goes w srej o i (line ++ slot ∷ []) back
line-quiet w srej o i line back slot e h = grind (arith, segments_in-snoc, append-nil)

-- or it is the next segment
pub line-sent : (w : ℕ) (srej : Bool) (o : Outgoing) (i : Incoming) (line back : List Slot) (n ns nr told : ℕ) (pf : Bool)
    → Goes w srej o i line back → o.window ≡ w → next_number o ≡ Some n
    → Goes w srej (after_next o) i
    (line ++ (record { sent = slots.Frame (I ns nr pf (slice_index_or o.pieces n [])); number = n; told = told }) ∷ []) back
line-sent w srej o i line back n ns nr told pf h window e =
    subst (λ l. Sound (record (flow w srej (after_next o) i line back) { segments = l }))
    (sym (segments_in-snoc line (record { sent = slots.Frame (I ns nr pf (slice_index_or o.pieces n [])); number = n; told = told })))
    (awaits (o.awaited || o.paused) o.chosen refl e)
  where
    p : Flow
    p = flow w srej o i line back

    q : Outgoing → Flow
    q b = record (flow w srej b i line back) {
      segments = segments_in line ++ (record { number = n; info = slice_index_or o.pieces n [] }) ∷ [];
    }

    fresh_one : (t u : Bool) → nat_lt o.from (length o.pieces) ≡ t → nat_lt o.from (o.front + o.window) ≡ u → [] ≡ o.chosen
        → cond (t && u) (Some o.from) None ≡ Some n → Sound (q (sent_among [] o))
    fresh_one true true t u c e =
        let at : o.from ≡ n = cc in
        let some : o.from < length o.pieces = ltb-true o.from (length o.pieces) t in
        let free : o.from < o.front + o.window = ltb-true o.from (o.front + o.window) u in
        subst (λ m. Sound (record
        p {
          segments = segments_in line ++ (record { number = n; info = slice_index_or o.pieces n [] }) ∷ [];
          high = max o.high (m + 1);
          from = m + 1;
          chosen = o.chosen;
        })) (sym at)
        (keeps-sent p n (n + 1) o.chosen h (omega (arith, h.to_send.low, at)) (omega (arith, some, at)) (omega (arith, free, at, window))
        (omega (arith, h.to_send.low, at)) (omega arith)
        (all_weaker (IsChoice o.front o.high) (IsChoice o.front (max o.high (n + 1))) o.chosen
        (λ m (a, b). (a, omega (arith, b))) h.to_send.choices))
    fresh_one t u t2 u2 c e = grind (arith)

    picks : (l : List ℕ) → l ≡ o.chosen → next_among l o ≡ Some n → Sound (q (sent_among l o))
    picks [] c e = fresh_one (nat_lt o.from (length o.pieces)) (nat_lt o.from (o.front + o.window)) refl refl c e
    picks (m ∷ rest) c e =
        let at : m ≡ n = cc in
        let all = subst (AllByRecursion (IsChoice o.front o.high)) (sym c) h.to_send.choices in
        subst (λ m. Sound (record
        p {
          segments = segments_in line ++ (record { number = n; info = slice_index_or o.pieces n [] }) ∷ [];
          high = max o.high (m + 1);
          from = o.from;
          chosen = rest;
        })) (sym at)
        (keeps-sent p n o.from rest h (omega (arith, all.0.0, at)) (omega (arith, all.0.1, at, h.range.offers))
        (omega (arith, all.0.1, at, h.range.highs)) h.to_send.low (omega (arith, h.to_send.high))
        (all_weaker (IsChoice o.front o.high) (IsChoice o.front (max o.high (n + 1))) rest (λ m (a, b). (a, omega (arith, b))) all.1))

    awaits : (t : Bool) (l : List ℕ) → l ≡ o.chosen → cond t None (next_among l o) ≡ Some n → Sound (q (sent_among l o))
    awaits t l c e = grind (arith, picks)

-- and it tells what its receiver expects
pub back-told : (w : ℕ) (srej : Bool) (o : Outgoing) (i : Incoming) (forward back : List Slot) (sent : Sent) (n : ℕ)
    → Goes w srej o i forward back → IsAskable (length i.taken) o.high (asked_of sent n)
    → Goes w srej o i forward (back ++ (record { sent = sent; number = n; told = next_expected i }) ∷ [])
back-told w srej o i forward back sent n h askable =
    subst (λ l. Sound (record (flow w srej o i forward back) { replies = l }))
    (sym (replies_in-snoc back (record { sent = sent; number = n; told = next_expected i })))
    (keeps-told (flow w srej o i forward back) (asked_of sent n) h askable)

-- the number that an SREJ asks for
range-lies : (a k m low high : ℕ) → low ≤ a → a + k ≤ high → AllByRecursion (λ n. (low ≤ n) × (n < high)) (range_with_len a k)
range-lies a zero m low high h e = tt
range-lies a (suc k) m low high h e = ((h, omega arith), range-lies (a + 1) k m low high (omega arith) (omega arith))

all_append : (P : ℕ → Type 0) (xs ys : List ℕ) → AllByRecursion P xs → AllByRecursion P ys → AllByRecursion P (xs ++ ys)
all_append P [] ys h k = k
all_append P (x ∷ xs) ys h k = (h.0, all_append P xs ys h.1 k)

missing-lies : (low r high : ℕ) (hs : List Held) → low ≤ r → IsRising r hs → AllByRecursion (λ h. h.number < high) hs
    → AllByRecursion (λ n. (low ≤ n) × (n < high)) (missing_from r hs)
missing-lies low r high [] e rising all = tt
missing-lies low r high (k ∷ ks) e rising all =
    all_append (λ n. (low ≤ n) × (n < high)) (range_with_len r (k.number - r)) (missing_from (k.number + 1) ks)
    (range-lies r (k.number - r) 0 low high e (omega (arith, rising.0, all.0)))
    (missing-lies low (k.number + 1) high ks (omega (arith, rising.0)) rising.1 all.1)

outside-lies : (P : ℕ → Type 0) (others ns : List ℕ) (n : ℕ) → AllByRecursion P ns → first_outside others ns ≡ Some n → P n
outside-lies P others [] n all e = cc
outside-lies P others (m ∷ ms) n all e = go (is_among m others) e (λ f. outside-lies P others ms n all.1 f)
  where
    go : (b : Bool) → cond b (first_outside others ms) (Some m) ≡ Some n → (first_outside others ms ≡ Some n → P n) → P n
    go b f more = grind (arith)

pub asked-lies : (w : ℕ) (srej : Bool) (o : Outgoing) (i : Incoming) (forward back : List Slot) (n : ℕ) → Goes w srej o i forward back
    → i.srej ≡ true → asks i ≡ Some n → (next_expected i ≤ n) × (n < o.high)
asked-lies w srej o i forward back n h used e = go i.srej used e
  where
    go : (b : Bool) → b ≡ true
        → cond b (first_outside i.asked (missing_from (next_expected i) i.held)) (cond i.rej (Some (next_expected i)) None) ≡ Some n
        → (next_expected i ≤ n) × (n < o.high)
    go true t f = outside-lies (λ n. (next_expected i ≤ n) × (n < o.high)) i.asked (missing_from (next_expected i) i.held) n
        (missing-lies (next_expected i) (next_expected i) o.high i.held (omega arith)
        (rising-lower (next_expected i + 1) (next_expected i) i.held (omega arith) h.held.rising)
        (all_weaker (IsHeldRight o.high o.pieces) (λ k. k.number < o.high) i.held (λ k q. q.below) h.held.right)) f
    go false t f = absurd (false≢true t)
