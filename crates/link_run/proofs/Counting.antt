-- What is kept of the segments that pass, by their numbers alone, is what a receiver's part takes and holds.
use Rattle.link_run.proofs.Names.{◌≡◌, ◌≢◌, ℕ, zero, suc, ◌+◌, ◌-◌, ◌%◌, ◌<◌, ◌≤◌, ◌||◌, max, Bool, true, false, cond, nat_eq, nat_lt, List}
use Rattle.link_run.proofs.Names.{[], ◌∷◌, ◌++◌, length, slice_index_or, arith, length-append, refl, sym, ◌∙◌, ap, subst, or_right, or_left}
use Rattle.link_run.proofs.Names.{concat, Held, is_held, rest_from, run_from, with_held, kind_at, false≢true, nat_tests, append_assoc}
use Rattle.link_run.proofs.Names.{Incoming, kind_of, offset, after_kind, after_take, Took, InOrder, Kept, IsTakenBy, Segment, keeping}
use Rattle.link_run.proofs.Names.{octets_in}
use Rattle.std.proofs.lemmas.Bool.{or_from}
use Rattle.link_account.proofs.Names.{AllByRecursion}
use Rattle.link_account.proofs.Names.{next_expected, Repeat}
use borrow.Author.Tests.{eqb-true}
use Rattle.link_run.specs.Taken.{is_among, beyond, missing_from, missing, info_of, infos_from}
use Rattle.link_account.proofs.Flow.{IsRising}

same-not : (m n : ℕ) → m ≢ n → nat_eq m n ≡ false
same-not m n h = grind (arith)

same-is : (m n : ℕ) → m ≡ n → nat_eq m n ≡ true
same-is m n e = grind (arith, nat_tests)

rises-low : (low m : ℕ) (hs : List Held) → m ≤ low → IsRising low hs → IsRising m hs
rises-low low m [] h r = tt
rises-low low m (x ∷ hs) h r = (omega (arith, h, r.0), r.1)

below-not : (low k : ℕ) (hs : List Held) → IsRising low hs → k < low → is_held k hs ≡ false
below-not low k [] r h = refl
below-not low k (x ∷ hs) r h =
    let here : nat_eq x.number k ≡ false = same-not x.number k (λ e. omega (arith, e, h, r.0)) in
    ap (λ b. b || is_held k hs) here ∙ below-not (x.number + 1) k hs r.1 (omega (arith, h, r.0))

-- a run of held segments
run-held : (r k : ℕ) (hs : List Held) → r ≤ k → k < r + length (run_from r hs) → is_held k hs ≡ true
run-held r k [] low high = absurd (omega (arith, low, high))
run-held r k (x ∷ hs) low high = go (nat_eq x.number r) refl (run-held (r + 1) k hs) high
  where
    go : (b : Bool) → nat_eq x.number r ≡ b → (r + 1 ≤ k → k < r + 1 + length (run_from (r + 1) hs) → is_held k hs ≡ true)
        → k < r + length (cond b (x.info ∷ run_from (r + 1) hs) []) → (nat_eq x.number k || is_held k hs) ≡ true
    go x e ih h = grind (arith)

run-stops : (r : ℕ) (hs : List Held) → IsRising r hs → is_held (r + length (run_from r hs)) hs ≡ false
run-stops r [] h = refl
run-stops r (x ∷ hs) h = go (nat_eq x.number r) refl (run-stops (r + 1) hs)
  where
    go : (b : Bool) → nat_eq x.number r ≡ b → (IsRising (r + 1) hs → is_held (r + 1 + length (run_from (r + 1) hs)) hs ≡ false)
        → (nat_eq x.number (r + length (cond b (x.info ∷ run_from (r + 1) hs) [])) || is_held
        (r + length (cond b (x.info ∷ run_from (r + 1) hs) [])) hs) ≡ false
    go b e ih = grind (arith, eqb-true, rises-low, same-not, same-is, below-not)

rest-held : (r k : ℕ) (hs : List Held) → r + length (run_from r hs) ≤ k → is_held k (rest_from r hs) ≡ is_held k hs
rest-held r k [] h = refl
rest-held r k (x ∷ hs) h = go (nat_eq x.number r) refl (rest-held (r + 1) k hs) h
  where
    go : (b : Bool) → nat_eq x.number r ≡ b → (r + 1 + length (run_from (r + 1) hs) ≤ k → is_held k (rest_from (r + 1) hs) ≡ is_held k hs)
        → r + length (cond b (x.info ∷ run_from (r + 1) hs) []) ≤ k
        → is_held k (cond b (rest_from (r + 1) hs) (x ∷ hs)) ≡ (nat_eq x.number k || is_held k hs)
    go b e ih l = grind (arith, eqb-true, same-not)

rest-rises : (r : ℕ) (hs : List Held) → IsRising r hs → IsRising (r + length (run_from r hs) + 1) (rest_from r hs)
rest-rises r [] h = tt
rest-rises r (x ∷ hs) h = go (nat_eq x.number r) refl (rest-rises (r + 1) hs)
  where
    go : (b : Bool) → nat_eq x.number r ≡ b → (IsRising (r + 1) hs → IsRising (r + 1 + length (run_from (r + 1) hs) + 1) (rest_from (r + 1) hs))
        → IsRising (r + length (cond b (x.info ∷ run_from (r + 1) hs) []) + 1) (cond b (rest_from (r + 1) hs) (x ∷ hs))
    go b e ih = grind (arith, eqb-true, rises-low, same-is)

-- one more is held
with-held : (s : Held) (k : ℕ) (hs : List Held) → is_held k (with_held s hs) ≡ (nat_eq s.number k || is_held k hs)
with-held s k [] = refl
with-held s k (x ∷ hs) = go (nat_lt s.number x.number) (with-held s k hs)
  where
    go : (b : Bool) → is_held k (with_held s hs) ≡ (nat_eq s.number k || is_held k hs)
        → is_held k (cond b (s ∷ x ∷ hs) (x ∷ with_held s hs)) ≡ (nat_eq s.number k || (nat_eq x.number k || is_held k hs))
    go x ih = grind (arith)

with-rises : (low : ℕ) (s : Held) (hs : List Held) → IsRising low hs → low ≤ s.number → is_held s.number hs ≡ false
    → IsRising low (with_held s hs)
with-rises low s [] r l n = (l, tt)
with-rises low s (x ∷ hs) r l n = go (nat_lt s.number x.number) refl (with-rises (x.number + 1) s hs r.1)
  where
    go : (b : Bool) → nat_lt s.number x.number ≡ b
        → (x.number + 1 ≤ s.number → is_held s.number hs ≡ false → IsRising (x.number + 1) (with_held s hs))
        → IsRising low (cond b (s ∷ x ∷ hs) (x ∷ with_held s hs))
    go b e ih = grind (arith, same-is)

-- one more is kept
among-more : (n : ℕ) (ss : List Segment) (s : Segment) → is_among n (ss ++ s ∷ []) ≡ (is_among n ss || nat_eq s.number n)
among-more n [] s = grind (arith)
among-more n (x ∷ ss) s =
    ap (λ b. nat_eq x.number n || b) (among-more n ss s) ∙ sym (assoc (nat_eq x.number n) (is_among n ss) (nat_eq s.number n))
  where
    assoc : (a b c : Bool) → ((a || b) || c) ≡ (a || (b || c))
    assoc x b c = grind (arith)

or-right-false : (b c : Bool) → c ≡ false → (b || c) ≡ b
or-right-false x c e = grind (arith)

among-beyond : (n : ℕ) (ss : List Segment) → is_among n ss ≡ true → n < beyond ss
among-beyond n [] e = absurd (false≢true e)
among-beyond n (s ∷ ss) e = go (nat_eq s.number n) refl (among-beyond n ss) e
  where
    go : (b : Bool) → nat_eq s.number n ≡ b → (is_among n ss ≡ true → n < beyond ss) → (b || is_among n ss) ≡ true
        → n < max (s.number + 1) (beyond ss)
    go b z ih h = grind (arith, eqb-true)

missing-at : (fuel n r : ℕ) (ss : List Segment) → n ≤ r → ((k : ℕ) → n ≤ k → k < r → is_among k ss ≡ true) → is_among r ss ≡ false
    → r ≤ n + fuel → missing_from fuel n ss ≡ r
missing-at zero n r ss low all stop high = omega (arith, low, high)
missing-at (suc fuel) n r ss low all stop high =
    go (is_among n ss) refl (λ l. missing-at fuel (n + 1) r ss l (λ k m h. all k (omega (arith, m)) h) stop (omega (arith, high)))
  where
    go : (b : Bool) → is_among n ss ≡ b → (n + 1 ≤ r → missing_from fuel (n + 1) ss ≡ r) → cond b (missing_from fuel (n + 1) ss) n ≡ r
    go b e ih = grind (arith)

-- what is kept of what passed, and what a receiver's part has: how many it took, what it holds, and whether it asks by SREJ
pub record TracksIn (ss : List Segment) (r : ℕ) (held : List Held) (srej : Bool) : Type 0 where
  pub below : (n : ℕ) → n < r → is_among n ss ≡ true
  pub next : is_among r ss ≡ false
  pub above : (n : ℕ) → r < n → is_among n ss ≡ is_held n held
  pub rising : IsRising (r + 1) held
  pub plain : srej ≡ false → held ≡ []

abbrev pub Tracks : List Segment → Incoming → Type 0
Tracks ss i = TracksIn ss (length i.taken) i.held i.srej

pub none-tracks : (srej : Bool) → TracksIn [] 0 [] srej
none-tracks srej = record { below = λ n h. absurd (omega (arith, h)); next = refl; above = λ n h. refl; rising = tt; plain = λ e. refl }

pub as-tracks : (ss : List Segment) (r r' : ℕ) (held held' : List Held) (srej srej' : Bool) → r' ≡ r → held' ≡ held → srej' ≡ srej
    → TracksIn ss r held srej → TracksIn ss r' held' srej'
as-tracks ss r r' held held' srej srej' p q e t = rw (p, q, e) t

pub missing-is : (ss : List Segment) (r : ℕ) (held : List Held) (srej : Bool) → TracksIn ss r held srej → missing ss ≡ r
missing-is ss r held srej t = grind (arith, missing-at, among-beyond)

-- a segment that comes again changes nothing
pub keeping-again : (srej : Bool) (ss : List Segment) (s : Segment) → is_among s.number ss ≡ true → keeping srej ss s ≡ ss
keeping-again srej ss s e = ap (λ b. cond b ss (cond (srej || nat_eq s.number (missing ss)) (ss ++ s ∷ []) ss)) e

keeping-new : (srej : Bool) (ss : List Segment) (s : Segment) → is_among s.number ss ≡ false → (srej || nat_eq s.number (missing ss)) ≡ true
    → keeping srej ss s ≡ ss ++ s ∷ []
keeping-new srej ss s e f = grind (arith)

keeping-none : (srej : Bool) (ss : List Segment) (s : Segment) → is_among s.number ss ≡ false
    → (srej || nat_eq s.number (missing ss)) ≡ false → keeping srej ss s ≡ ss
keeping-none srej ss s e f = grind (arith)

pub record SameTaken (i j : Incoming) : Type 0 where
  pub taken : j.taken ≡ i.taken
  pub held : j.held ≡ i.held
  pub srej : j.srej ≡ i.srej

idle-kind : (kind : Took) (o : ℕ) (info : List ℕ) (i : Incoming) → (kind ≡ InOrder → ⊥) → (kind ≡ Kept → ⊥)
    → SameTaken i (after_kind kind o info i)
idle-kind p o info i h k = grind (arith)

pub same-tracks : (ss : List Segment) (i j : Incoming) → SameTaken i j → Tracks ss i → Tracks ss j
same-tracks ss i j e t = as-tracks ss (length i.taken) (length j.taken) i.held j.held i.srej j.srej (ap length e.taken) e.held e.srej t

-- the next segment
in-order : (ss : List Segment) (r : ℕ) (held : List Held) (srej : Bool) (s : Segment) → TracksIn ss r held srej → s.number ≡ r
    → TracksIn (ss ++ s ∷ []) (r + 1 + length (run_from (r + 1) held)) (rest_from (r + 1) held) srej
in-order ss r held srej s t e =
    let m = r + 1 + length (run_from (r + 1) held) in
    record {
      below = λ n h. among-more n ss s ∙ below-m n h (nat_lt n r) refl (nat_eq n r) refl;
      next = among-more m ss s
          ∙ or_from (is_among m ss) (nat_eq s.number m) (t.above m (omega arith) ∙ run-stops (r + 1) held t.rising)
          (same-not s.number m (λ z. omega (arith, z, e)));
      above = λ n h. among-more n ss s
          ∙ or-right-false (is_among n ss) (nat_eq s.number n) (same-not s.number n (λ z. omega (arith, z, e, h)))
          ∙ t.above n (omega (arith, h)) ∙ sym (rest-held (r + 1) n held (omega (arith, h)));
      rising = rest-rises (r + 1) held t.rising;
      plain = λ z. ap (rest_from (r + 1)) (t.plain z);
    }
  where
    below-m : (n : ℕ) → n < r + 1 + length (run_from (r + 1) held) → (b : Bool) → nat_lt n r ≡ b → (c : Bool) → nat_eq n r ≡ c
        → (is_among n ss || nat_eq s.number n) ≡ true
    below-m n h b z c y = grind (arith, eqb-true, same-is, run-held, held)

-- a later one that is held
kept-later : (ss : List Segment) (r : ℕ) (held : List Held) (s : Segment) (srej : Bool) → srej ≡ true → TracksIn ss r held srej
    → r < s.number → is_held s.number held ≡ false
    → TracksIn (ss ++ s ∷ []) r (with_held (record { number = s.number; info = s.info }) held) srej
kept-later ss r held s srej on t h not = grind (arith, among-more, same-not, with-held, with-rises)

-- what a segment is to a receiver's part, by how far its number is ahead
not-kept : (i : Incoming) (o : ℕ) → i.srej ≡ false → kind_at i o ≡ Kept → ⊥
not-kept i o e k = grind (arith)

kind-ahead : (i : Incoming) (o : ℕ) → 1 ≤ o → o < i.window → i.srej ≡ true
    → kind_at i o ≡ cond (is_held (next_expected i + o) i.held) Repeat Kept
kind-ahead i o some near on = grind (arith, same-not)

ahead : (i : Incoming) (n : ℕ) → next_expected i ≤ n → n < next_expected i + 128 → offset i (n % 128) ≡ n - next_expected i
ahead i n low high = omega (arith, low, high)

-- one segment comes
pub one-comes : (srej : Bool) (ss : List Segment) (i : Incoming) (s : Segment) (ns : ℕ) → Tracks ss i → srej ≡ i.srej
    → IsTakenBy i ns s.number → ns ≡ s.number % 128 → s.number < length i.taken + i.window → i.window ≤ 127
    → Tracks (keeping srej ss s) (after_take ns s.info i)
one-comes srej ss i s ns t on by spelled near width =
    go (nat_lt s.number (length i.taken)) refl (nat_eq s.number (length i.taken)) refl i.srej refl
  where
    still : (s.number ≢ length i.taken) → (kind_of ns i ≡ Kept → ⊥) → keeping srej ss s ≡ ss
        → Tracks (keeping srej ss s) (after_take ns s.info i)
    still other not-k same = grind (arith, same-tracks, idle-kind)

    later-held : length i.taken < s.number → i.srej ≡ true → (b : Bool) → is_held s.number i.held ≡ b
        → Tracks (keeping srej ss s) (after_take ns s.info i)
    later-held less sr true h = grind (arith, still, keeping-again, srej, ahead, kind-ahead)
    later-held less sr false h =
        let off : offset i ns ≡ s.number - length i.taken =
        ap (offset i) spelled ∙ ahead i s.number (omega (arith, less)) (omega (arith, near, width)) in
        let at : length i.taken + offset i ns ≡ s.number = omega (arith, off, less) in
        let kind-is : kind_of ns i ≡ Kept =
        kind-ahead i (offset i ns) (omega (arith, off, less)) (omega (arith, off, less, near)) sr
        ∙ ap (λ m. cond (is_held m i.held) Repeat Kept) at ∙ ap (λ b. cond b Repeat Kept) h in
        subst (λ k. Tracks (keeping srej ss s) (after_kind k (offset i ns) s.info i)) (sym kind-is)
        (subst (λ m. TracksIn (keeping srej ss s) (length i.taken) (with_held (record { number = m; info = s.info }) i.held) i.srej)
        (sym at)
        (subst (λ l. TracksIn l (length i.taken) (with_held (record { number = s.number; info = s.info }) i.held) i.srej)
        (sym (keeping-new srej ss s (t.above s.number less ∙ h) (or_left srej (nat_eq s.number (missing ss)) (on ∙ sr))))
        (kept-later ss (length i.taken) i.held s i.srej sr t less h)))

    next-one : s.number ≡ length i.taken → Tracks (keeping srej ss s) (after_take ns s.info i)
    next-one e =
        let kind-is = by.1 e in
        let m = missing-is ss (length i.taken) i.held i.srej t in
        let new = keeping-new srej ss s (ap (λ k. is_among k ss) e ∙ t.next)
        (or_right srej (nat_eq s.number (missing ss)) (same-is s.number (missing ss) (e ∙ sym m))) in
        subst (λ k. Tracks (keeping srej ss s) (after_kind k (offset i ns) s.info i)) (sym kind-is)
        (subst (λ l. TracksIn l (length (i.taken ++ (s.info ∷ run_from (length i.taken + 1) i.held)))
        (rest_from (length i.taken + 1) i.held) i.srej) (sym new)
        (as-tracks (ss ++ s ∷ []) (length i.taken + 1 + length (run_from (length i.taken + 1) i.held))
        (length (i.taken ++ (s.info ∷ run_from (length i.taken + 1) i.held))) (rest_from (length i.taken + 1) i.held)
        (rest_from (length i.taken + 1) i.held) i.srej i.srej
        (omega (arith, length-append i.taken (s.info ∷ run_from (length i.taken + 1) i.held))) refl refl
        (in-order ss (length i.taken) i.held i.srej s t e)))

    go : (a : Bool) → nat_lt s.number (length i.taken) ≡ a → (b : Bool) → nat_eq s.number (length i.taken) ≡ b → (c : Bool) → i.srej ≡ c
        → Tracks (keeping srej ss s) (after_take ns s.info i)
    go true x b y c z =
        let less : s.number < length i.taken = grind (arith, nat_tests) in
        still (λ q. omega (arith, q, less)) (λ q. omega (arith, (by.2 q).0, less)) (keeping-again srej ss s (t.below s.number less))
    go false x true y c z = next-one (eqb-true s.number (length i.taken) y)
    go false x false y true z =
        let low : length i.taken ≤ s.number = grind (arith, nat_tests) in
        let other : s.number ≢ length i.taken = (λ q. false≢true (sym y ∙ same-is s.number (length i.taken) q)) in
        later-held (omega (arith, low, other)) z (is_held s.number i.held) refl
    go false x false y false z =
        let low : length i.taken ≤ s.number = grind (arith, nat_tests) in
        let other : s.number ≢ length i.taken = (λ q. false≢true (sym y ∙ same-is s.number (length i.taken) q)) in
        let not-among : is_among s.number ss ≡ false = t.above s.number (omega (arith, low, other)) ∙ ap (is_held s.number) (t.plain z) in
        let m = missing-is ss (length i.taken) i.held i.srej t in
        still other (λ q. not-kept i (offset i ns) z q)
        (keeping-none srej ss s not-among
        (or_from srej (nat_eq s.number (missing ss)) (on ∙ z) (same-not s.number (missing ss) (λ q. other (q ∙ m)))))

-- the octets
abbrev pub AreRight : List (List ℕ) → List Segment → Type 0
AreRight pieces ss = AllByRecursion (λ (s : Segment). (s.number < length pieces) × (s.info ≡ slice_index_or pieces s.number [])) ss

info-right : (pieces : List (List ℕ)) (n : ℕ) (ss : List Segment) → AreRight pieces ss → is_among n ss ≡ true
    → info_of n ss ≡ slice_index_or pieces n []
info-right pieces n [] h e = absurd (false≢true e)
info-right pieces n (s ∷ ss) h e = go (nat_eq s.number n) refl (info-right pieces n ss h.1) e
  where
    go : (b : Bool) → nat_eq s.number n ≡ b → (is_among n ss ≡ true → info_of n ss ≡ slice_index_or pieces n [])
        → (b || is_among n ss) ≡ true → cond b s.info (info_of n ss) ≡ slice_index_or pieces n []
    go b z ih k = grind (arith, eqb-true)

-- the first of a list from a place on
infos-are : (taken rest : List (List ℕ)) (ss : List Segment) (n : ℕ) (done : List (List ℕ)) → length done ≡ n
    → ((k : ℕ) → n ≤ k → k < n + length taken → info_of k ss ≡ slice_index_or (done ++ (taken ++ rest)) k [])
    → infos_from (length taken) n ss ≡ taken
infos-are [] rest ss n done e h = refl
infos-are (x ∷ taken) rest ss n done e h =
    let here : info_of n ss ≡ x =
    h n (omega arith) (omega arith) ∙ ap (λ k. slice_index_or (done ++ (x ∷ (taken ++ rest))) k []) (sym e)
    ∙ at-seam done x (taken ++ rest) in
    let later = infos-are taken rest ss (n + 1) (done ++ x ∷ []) (omega (arith, e, length-append done (x ∷ [])))
    (λ k l m. h k (omega (arith, l)) (omega (arith, m))
    ∙ ap (λ ys. slice_index_or ys k []) (sym (append_assoc done (x ∷ []) (taken ++ rest)))) in
    ap (λ y. y ∷ infos_from (length taken) (n + 1) ss) here ∙ ap (λ ys. x ∷ ys) later
  where
    at-seam : (ys : List (List ℕ)) (z : List ℕ) (zs : List (List ℕ)) → slice_index_or (ys ++ (z ∷ zs)) (length ys) [] ≡ z
    at-seam [] z zs = refl
    at-seam (y ∷ ys) z zs = at-seam ys z zs

pub octets-are : (pieces : List (List ℕ)) (ss : List Segment) (i : Incoming) (rest : List (List ℕ)) → Tracks ss i → AreRight pieces ss
    → i.taken ++ rest ≡ pieces → octets_in ss ≡ concat i.taken
octets-are pieces ss i rest t h e =
    let m = missing-is ss (length i.taken) i.held i.srej t in
    ap (λ k. concat (infos_from k 0 ss)) m
    ∙ ap concat (infos-are i.taken rest ss 0 [] refl
    (λ k l n. info-right pieces k ss h (t.below k (omega (arith, n))) ∙ ap (λ ys. slice_index_or ys k []) (sym e)))
