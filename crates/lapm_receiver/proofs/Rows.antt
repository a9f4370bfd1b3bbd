-- Rows of slots, and what stands in them.
use Rattle.lapm_receiver.proofs.Names.{◌≡◌, ℕ, zero, suc, ◌+◌, ◌-◌, ◌<◌, ◌≤◌, Bool, true, false, cond, List, [], ◌∷◌, ◌++◌, length, drop}
use Rattle.lapm_receiver.proofs.Names.{replicate, nat_eq, nat_lt, nat_le, Some, None, refl, sym, ap, subst, ◌∙◌, arith, drop_of_length-le}
use Rattle.lapm_receiver.proofs.Names.{nat_tests, length-append, length-drop, find, slice_get, is_some, Option, Held, is_held, with_held}
use Rattle.lapm_receiver.proofs.Names.{run_from, rest_from, missing_from, Arrived, info_at, any_held, missing_among, IsRising}
use Rattle.std.proofs.Common.{◌^◌, ◌&&◌}
use Rattle.std.proofs.Common.{set, Bor}
use Rattle.std.specs.Prelude.{unwrap_or, IfSome}
use Rattle.std.specs.Option.{option_copied}
use Rattle.std.specs.List.{position, position_or_len}
use Rattle.std.proofs.lemmas.List.Sums.{prefix_len-le-length}
use Rattle.lapm_receiver.specs.Slots.{is_empty, ready_of, held_from, held_after}

abbrev pub Row : Type 0
Row = List (Option (List ℕ))

-- empty slots
pub ready-fill : (n : ℕ) → ready_of (replicate n None) ≡ []
ready-fill n = grind (arith)

held_from-fill : (m n : ℕ) → held_from m (replicate n None) ≡ []
held_from-fill m zero = refl
held_from-fill m (suc n) = held_from-fill (m + 1) n

pub held_after-fill : (m n : ℕ) → held_after m (replicate n None) ≡ []
held_after-fill m n = grind (arith, held_from-fill)

-- how many stand before the first empty slot
pub ready-length : (ss : Row) → length (ready_of ss) ≡ position_or_len is_empty ss
ready-length [] = refl
ready-length (None ∷ ss) = refl
ready-length (Some info ∷ ss) = let rest : length (ready_of ss) ≡ position_or_len is_empty ss = ready-length ss in omega (arith, rest)

pub ready-count : (ss : Row) (o : Option ℕ) → o ≡ position is_empty ss → unwrap_or o (length ss) ≡ length (ready_of ss)
ready-count ss o e = grind (arith, prefix_len-le-length, ready-length)

-- no number lies before the first one
before-first : (m n : ℕ) (ss : Row) → m < n → is_held m (held_from n ss) ≡ false
before-first m n [] l = refl
before-first m n (None ∷ ss) l = before-first m (n + 1) ss (omega arith)
before-first m n (Some info ∷ ss) l = grind (arith, nat_tests, before-first m (n + 1) ss (omega arith))

run-later : (n m : ℕ) (ss : Row) → n < m → run_from n (held_from m ss) ≡ []
run-later n m [] l = refl
run-later n m (None ∷ ss) l = run-later n (m + 1) ss (omega arith)
run-later n m (Some info ∷ ss) l = let other : nat_eq m n ≡ false = grind (arith, nat_tests) in rw other refl

rest-later : (n m : ℕ) (ss : Row) → n < m → rest_from n (held_from m ss) ≡ held_from m ss
rest-later n m [] l = refl
rest-later n m (None ∷ ss) l = rest-later n (m + 1) ss (omega arith)
rest-later n m (Some info ∷ ss) l = let other : nat_eq m n ≡ false = grind (arith, nat_tests) in rw other refl

-- what follows without a gap stands before the first empty slot
pub run-ready : (n : ℕ) (ss : Row) → run_from n (held_from n ss) ≡ ready_of ss
run-ready n [] = refl
run-ready n (None ∷ ss) = run-later n (n + 1) ss (omega arith)
run-ready n (Some info ∷ ss) = let same : nat_eq n n ≡ true = grind (arith, nat_tests) in
    rw same (ap (λ xs. info ∷ xs) (run-ready (n + 1) ss))

pub rest-after : (n k : ℕ) (ss : Row) → k ≡ n + length (ready_of ss) → rest_from n (held_from n ss) ≡ held_after k ss
rest-after n k [] e = refl
rest-after n k (None ∷ ss) e = let same : k ≡ n = omega (arith, e) in rw same (rest-later n (n + 1) ss (omega arith))
rest-after n k (Some info ∷ ss) e = grind (arith, nat_tests, rest-after (n + 1) k ss (omega (arith, e)))

-- whether a slot is full
abbrev pub full : Option (Option (List ℕ)) → Bool
full slot = is_some (info_at slot)

pub held-at : (m n k : ℕ) (ss : Row) → m ≡ n + k → is_held m (held_from n ss) ≡ full (slice_get ss k)
held-at m n k [] e = refl
held-at m n zero (None ∷ ss) e = before-first m (n + 1) ss (omega arith)
held-at m n zero (Some info ∷ ss) e = let same : nat_eq n m ≡ true = grind (arith, nat_tests) in rw same refl
held-at m n (suc k) (None ∷ ss) e = held-at m (n + 1) k ss (omega arith)
held-at m n (suc k) (Some info ∷ ss) e = grind (arith, nat_tests, held-at m (n + 1) k ss (omega arith))

-- a slot is filled
with-first : (m n : ℕ) (info : List ℕ) (ss : Row) → m < n
    → with_held (record { number = m; info = info }) (held_from n ss) ≡ (record { number = m; info = info }) ∷ held_from n ss
with-first m n info [] l = refl
with-first m n info (None ∷ ss) l = with-first m (n + 1) info ss (omega arith)
with-first m n info (Some other ∷ ss) l = let less : nat_lt m n ≡ true = grind (arith, nat_tests) in rw less refl

pub held-set : (m n k : ℕ) (info : List ℕ) (ss : Row) → m ≡ n + k → k < length ss → full (slice_get ss k) ≡ false
    → held_from n (set ss k (Some info)) ≡ with_held (record { number = m; info = info }) (held_from n ss)
held-set m n k info [] e l f = absurd (omega (arith, l))
held-set m n zero info (None ∷ ss) e l f = grind (arith, with-first)
held-set m n zero info (Some other ∷ ss) e l f = cc
held-set m n (suc k) info (None ∷ ss) e l f = held-set m (n + 1) k info ss (omega arith) (omega (arith, l)) f
held-set m n (suc k) info (Some other ∷ ss) e l f = grind (arith, nat_tests, held-set m (n + 1) k)

-- an empty slot goes behind the others
pub ready-snoc : (ss : Row) → ready_of (ss ++ None ∷ []) ≡ ready_of ss
ready-snoc [] = refl
ready-snoc (None ∷ ss) = refl
ready-snoc (Some info ∷ ss) = ap (λ xs. info ∷ xs) (ready-snoc ss)

held_from-snoc : (n : ℕ) (ss : Row) → held_from n (ss ++ None ∷ []) ≡ held_from n ss
held_from-snoc n [] = refl
held_from-snoc n (None ∷ ss) = held_from-snoc (n + 1) ss
held_from-snoc n (Some info ∷ ss) = ap (λ hs. (record { number = n; info = info }) ∷ hs) (held_from-snoc (n + 1) ss)

pub held_after-snoc : (n : ℕ) (ss : Row) → held_after n (ss ++ None ∷ []) ≡ held_after n ss
held_after-snoc n [] = refl
held_after-snoc n (None ∷ ss) = held_from-snoc (n + 1) ss
held_after-snoc n (Some info ∷ ss) = held_after-snoc n ss

-- the missing numbers
none-held : (n : ℕ) (ss : Row) → any_held ss ≡ false → held_from n ss ≡ []
none-held n [] e = refl
none-held n (None ∷ ss) e = none-held (n + 1) ss e
none-held n (Some info ∷ ss) e = cc

none-missing : (low n : ℕ) (ss : Row) → any_held ss ≡ false → missing_among low n ss ≡ None
none-missing low n [] e = refl
none-missing low n (None ∷ ss) e = rw e (none-missing low (n + 1) ss e)
none-missing low n (Some info ∷ ss) e = cc

missing-next : (n m : ℕ) (ss : Row) → n < m → any_held ss ≡ true
    → missing_from n (held_from m ss) ≡ n ∷ missing_from (n + 1) (held_from m ss)
missing-next n m [] l e = cc
missing-next n m (None ∷ ss) l e = missing-next n (m + 1) ss (omega arith) e
missing-next n m (Some info ∷ ss) l e =
    let one : m - n ≡ suc (m - (n + 1)) = omega arith in
    rw one refl

missing-full : (n : ℕ) (info : List ℕ) (hs : List Held)
    → missing_from n ((record { number = n; info = info }) ∷ hs) ≡ missing_from (n + 1) hs
missing-full n info hs = let none : n - n ≡ 0 = omega arith in rw none refl

pub find-missing : (low n : ℕ) (ss : Row) → find (λ m. nat_le low m) (missing_from n (held_from n ss)) ≡ missing_among low n ss
find-missing low n [] = refl
find-missing low n (Some info ∷ ss) = grind (arith, missing-full, find-missing low (n + 1) ss)
find-missing low n (None ∷ ss) = by (any_held ss) refl (find-missing low (n + 1) ss)
  where
    by : (t : Bool) → any_held ss ≡ t
        → find (λ m. nat_le low m) (missing_from (n + 1) (held_from (n + 1) ss)) ≡ missing_among low (n + 1) ss
        → find (λ m. nat_le low m) (missing_from n (held_from (n + 1) ss)) ≡ cond (t && nat_le low n) (Some n)
        (missing_among low (n + 1) ss)
    by t e rest = grind (arith, missing-next, none-held, none-missing)

-- what is kept of a row
abbrev pub seen : ℕ → ℕ → Row → Arrived
seen room taken ss = record { room = room; taken = taken; ready = ready_of ss; held = held_after taken ss }

same-seen : (room taken : ℕ) (ss : Row) (ready : List (List ℕ)) (held : List Held) → ready_of ss ≡ ready → held_after taken ss ≡ held
    → seen room taken ss ≡ record { room = room; taken = taken; ready = ready; held = held }
same-seen room taken ss ready held r h = grind (arith)

-- The calls, of a view of slots. The next segment is taken.
pub seen-take : (room taken : ℕ) (ss : Row) (info : List ℕ) (v : Arrived) → seen room taken ss ≡ v → v.ready ≡ [] → 0 < length ss
    → seen room (taken + length (ready_of (set ss 0 (Some info)))) (set ss 0 (Some info))
    ≡ record v {
      taken = v.taken + length (info ∷ run_from (v.taken + 1) v.held);
      ready = info ∷ run_from (v.taken + 1) v.held;
      held = rest_from (v.taken + 1) v.held;
    }
seen-take room taken ss info v e =
    subst (λ v. v.ready ≡ [] → 0 < length ss → seen room (taken + length (ready_of (set ss 0 (Some info)))) (set ss 0 (Some info))
    ≡ record v {
      taken = v.taken + length (info ∷ run_from (v.taken + 1) v.held);
      ready = info ∷ run_from (v.taken + 1) v.held;
      held = rest_from (v.taken + 1) v.held;
    }) e (core ss)
  where
    core : (ss : Row) → ready_of ss ≡ [] → 0 < length ss
        → seen room (taken + length (ready_of (set ss 0 (Some info)))) (set ss 0 (Some info))
        ≡ record {
          room = room;
          taken = taken + length (info ∷ run_from (taken + 1) (held_after taken ss));
          ready = info ∷ run_from (taken + 1) (held_after taken ss);
          held = rest_from (taken + 1) (held_after taken ss);
        }
    core [] r l = absurd (omega (arith, l))
    core (Some other ∷ rest) r l = cc
    core (None ∷ rest) r l = grind (arith, run-ready, same-seen, rest-after)

-- a segment ahead is held
pub seen-held : (room taken k : ℕ) (ss : Row) (v : Arrived) → seen room taken ss ≡ v → v.ready ≡ [] → 1 ≤ k
    → is_held (v.taken + k) v.held ≡ full (slice_get ss k)
seen-held room taken k ss v e = subst (λ v. v.ready ≡ [] → 1 ≤ k → is_held (v.taken + k) v.held ≡ full (slice_get ss k)) e (core k ss)
  where
    core : (k : ℕ) (ss : Row) → ready_of ss ≡ [] → 1 ≤ k → is_held (taken + k) (held_after taken ss) ≡ full (slice_get ss k)
    core k [] r l = refl
    core k (Some info ∷ rest) r l = cc
    core zero (None ∷ rest) r l = absurd (omega (arith, l))
    core (suc k) (None ∷ rest) r l = held-at (taken + suc k) (taken + 1) k rest (omega arith)

pub seen-keep : (room taken k : ℕ) (ss : Row) (info : List ℕ) (v : Arrived) → seen room taken ss ≡ v → v.ready ≡ [] → 1 ≤ k → k < length ss
    → is_held (v.taken + k) v.held ≡ false
    → seen room taken (set ss k (Some info)) ≡ record v { held = with_held (record { number = v.taken + k; info = info }) v.held }
seen-keep room taken k ss info v e = subst (λ v. v.ready ≡ [] → 1 ≤ k → k < length ss → is_held (v.taken + k) v.held ≡ false
    → seen room taken (set ss k (Some info)) ≡ record v { held = with_held (record { number = v.taken + k; info = info }) v.held }) e
    (core k ss)
  where
    core : (k : ℕ) (ss : Row) → ready_of ss ≡ [] → 1 ≤ k → k < length ss → is_held (taken + k) (held_after taken ss) ≡ false
        → seen room taken (set ss k (Some info)) ≡ record
        (seen room taken ss) { held = with_held (record { number = taken + k; info = info }) (held_after taken ss) }
    core k [] r l w f = absurd (omega (arith, w))
    core k (Some other ∷ rest) r l w f = cc
    core zero (None ∷ rest) r l w f = absurd (omega (arith, l))
    core (suc k) (None ∷ rest) r l w f = grind (arith, same-seen, set, held-set, held-at)

-- the first segment is delivered
pub next-row : (room : ℕ) (info : List ℕ) (ss : Row) → length ss ≡ room → Some info ≡ info_at (slice_get ss 0)
    → drop (length (drop 1 ss ++ None ∷ []) - room) (drop 1 ss ++ None ∷ []) ≡ drop 1 ss ++ None ∷ []
next-row room info ss l e = grind (arith, length-append)

pub seen-deliver : (room taken : ℕ) (info : List ℕ) (ss : Row) (v : Arrived) → seen room taken ss ≡ v → Some info ≡ info_at (slice_get ss 0)
    → seen room taken (drop 1 ss ++ None ∷ []) ≡ record v { ready = drop 1 v.ready }
seen-deliver room taken info ss v e first = grind (arith, same-seen, ready-snoc, held_after-snoc)

pub ready-first : (room taken : ℕ) (info : List ℕ) (ss : Row) (v : Arrived) → seen room taken ss ≡ v → Some info ≡ info_at (slice_get ss 0)
    → v.ready ≡ info ∷ ready_of (drop 1 ss ++ None ∷ [])
ready-first room taken info ss v e first = grind (arith, ready-snoc)

pub none-ready : (room taken : ℕ) (ss : Row) (v : Arrived) → seen room taken ss ≡ v → full (slice_get ss 0) ≡ false → v.ready ≡ []
none-ready room taken ss v e first = subst (λ v. v.ready ≡ []) e (core ss first)
  where
    core : (ss : Row) → full (slice_get ss 0) ≡ false → ready_of ss ≡ []
    core [] f = refl
    core (None ∷ rest) f = refl
    core (Some info ∷ rest) f = cc

-- what stands behind the first empty slot
pub after-first : (taken : ℕ) (ss : Row) → held_after taken ss ≡ held_from taken (drop (position_or_len is_empty ss) ss)
after-first taken [] = refl
after-first taken (None ∷ ss) = refl
after-first taken (Some info ∷ ss) = grind (arith, after-first taken ss)

-- a slot within is there
pub slot-there : (ss : Row) (k : ℕ) → None ≡ slice_get ss k → k < length ss → ⊥
slot-there [] k e l = omega arith
slot-there (s ∷ ss) zero e l = cc
slot-there (s ∷ ss) (suc k) e l = slot-there ss k e (omega arith)

-- a number below the room is a slot's
pub seen-room : (room taken k : ℕ) (ss : Row) (v : Arrived) → seen room taken ss ≡ v → length ss ≡ room → k < v.room → k < length ss
seen-room room taken k ss v e = subst (λ v. length ss ≡ room → k < v.room → k < length ss) e (λ full l. omega (arith, full, l))

-- slots that were filled up
pub seen-fill : (room n : ℕ) → seen room 0 (replicate n None) ≡ record { room = room; taken = 0; ready = []; held = [] }
seen-fill room n = same-seen room 0 (replicate n None) [] [] (ready-fill n) (held_after-fill 0 n)

-- a reference says as much as what it points to
pub copied-some : {X : Type 0} (o : Option (Bor X)) → is_some (option_copied o) ≡ is_some o
copied-some o = grind (arith)

-- the slots from one on
row-at : (k : ℕ) (ss : Row) → k < length ss → drop k ss ≡ info_at (slice_get ss k) ∷ drop (suc k) ss
row-at k [] l = absurd (omega (arith, l))
row-at zero (s ∷ ss) l = refl
row-at (suc k) (s ∷ ss) l = row-at k ss (omega (arith, l))

-- the scan for a missing number has come down to a place
pub record Scans (low first start : ℕ) (ss : Row) (later : Bool) (missing : Option ℕ) (place : ℕ) : Type 0 where
  pub above : start ≤ place
  pub later_is : later ≡ any_held (drop place ss)
  pub missing_is : missing ≡ missing_among low (first + (place - start)) (drop place ss)

-- it goes on at the slot below
scans-full : (low n : ℕ) (slot : Option (List ℕ)) (ss : Row) → is_some slot ≡ true
    → (true ≡ any_held (slot ∷ ss)) × (missing_among low (n + 1) ss ≡ missing_among low n (slot ∷ ss))
scans-full low n q2 ss e = grind (arith)

scans-empty : (low n : ℕ) (slot : Option (List ℕ)) (ss : Row) → is_some slot ≡ false
    → (any_held ss ≡ any_held (slot ∷ ss))
    × (cond (any_held ss && nat_le low n) (Some n) (missing_among low (n + 1) ss) ≡ missing_among low n (slot ∷ ss))
scans-empty low n q2 ss e = grind (arith)

row-next : (k place : ℕ) (ss : Row) → place ≡ suc k → k < length ss → drop k ss ≡ info_at (slice_get ss k) ∷ drop place ss
row-next k place ss is l = subst (λ p. drop k ss ≡ info_at (slice_get ss k) ∷ drop p ss) (sym is) (row-at k ss l)

pub full-slot : (low first start place k : ℕ) (ss : Row) (later : Bool) (missing : Option ℕ) → place ≡ suc k
    → Scans low first start ss later missing place → start < place → place ≤ length ss
    → is_some (info_at (slice_get ss k)) ≡ true → Scans low first start ss true missing k
full-slot low first start place k ss later missing is h s l e =
    let at : drop k ss ≡ info_at (slice_get ss k) ∷ drop place ss = row-next k place ss is (omega (arith, is, l)) in
    let number : first + (place - start) ≡ first + (k - start) + 1 = omega (arith, is, s) in
    let step : (true ≡ any_held (info_at (slice_get ss k) ∷ drop place ss))
    × (missing_among low (first + (k - start) + 1) (drop place ss) ≡ missing_among low (first + (k - start))
    (info_at (slice_get ss k) ∷ drop place ss)) = scans-full low (first + (k - start)) (info_at (slice_get ss k)) (drop place ss) e in
    record {
      above = omega (arith, is, s);
      later_is = rw at step.0;
      missing_is = rw at (h.missing_is ∙ ap (λ n. missing_among low n (drop place ss)) number ∙ step.1);
    }

pub empty-slot : (low first start place k : ℕ) (ss : Row) (later : Bool) (missing : Option ℕ) → place ≡ suc k
    → Scans low first start ss later missing place → start < place → place ≤ length ss
    → is_some (info_at (slice_get ss k)) ≡ false
    → Scans low first start ss later (cond (later && nat_le low (first + (k - start))) (Some (first + (k - start))) missing) k
empty-slot low first start place k ss later missing is h s l e =
    let at : drop k ss ≡ info_at (slice_get ss k) ∷ drop place ss = row-next k place ss is (omega (arith, is, l)) in
    let number : first + (place - start) ≡ first + (k - start) + 1 = omega (arith, is, s) in
    let next : missing ≡ missing_among low (first + (k - start) + 1) (drop place ss) =
    h.missing_is ∙ ap (λ n. missing_among low n (drop place ss)) number in
    let step : (any_held (drop place ss) ≡ any_held (info_at (slice_get ss k) ∷ drop place ss))
    × (cond (any_held (drop place ss) && nat_le low (first + (k - start))) (Some (first + (k - start)))
    (missing_among low (first + (k - start) + 1) (drop place ss)) ≡ missing_among low (first + (k - start))
    (info_at (slice_get ss k) ∷ drop place ss))
    = scans-empty low (first + (k - start)) (info_at (slice_get ss k)) (drop place ss) e in
    record {
      above = omega (arith, is, s);
      later_is = rw at (h.later_is ∙ step.0);
      missing_is = ap (λ t. cond (t && nat_le low (first + (k - start))) (Some (first + (k - start))) missing) h.later_is
          ∙ ap (λ m. cond (any_held (drop place ss) && nat_le low (first + (k - start))) (Some (first + (k - start))) m) next
          ∙ step.1
          ∙ ap (λ xs. missing_among low (first + (k - start)) xs) (sym at);
    }

pub found-slot : (low first start place k : ℕ) (ss : Row) (later : Bool) (missing : Option ℕ) → place ≡ suc k
    → Scans low first start ss later missing place → start < place → place ≤ length ss
    → is_some (info_at (slice_get ss k)) ≡ false → later ≡ true → low ≤ first + (k - start)
    → Scans low first start ss later (Some (first + (k - start))) k
found-slot low first start place k ss later missing is h s l e t high =
    let test : nat_le low (first + (k - start)) ≡ true = grind (arith, nat_tests, high) in
    let chosen : cond (later && nat_le low (first + (k - start))) (Some (first + (k - start))) missing ≡ Some (first + (k - start)) =
    rw (t, test) refl in
    subst (λ m. Scans low first start ss later m k) chosen (empty-slot low first start place k ss later missing is h s l e)

pub low-slot : (low first start place k : ℕ) (ss : Row) (later : Bool) (missing : Option ℕ) → place ≡ suc k
    → Scans low first start ss later missing place → start < place → place ≤ length ss
    → is_some (info_at (slice_get ss k)) ≡ false → later ≡ true → first + (k - start) < low → Scans low first start ss later missing k
low-slot low first start place k ss later missing is h s l e t less =
    let test : nat_le low (first + (k - start)) ≡ false = grind (arith, nat_tests, less) in
    let chosen : cond (later && nat_le low (first + (k - start))) (Some (first + (k - start))) missing ≡ missing = rw (t, test) refl in
    subst (λ m. Scans low first start ss later m k) chosen (empty-slot low first start place k ss later missing is h s l e)

pub last-slot : (low first start place k : ℕ) (ss : Row) (later : Bool) (missing : Option ℕ) → place ≡ suc k
    → Scans low first start ss later missing place → start < place → place ≤ length ss
    → is_some (info_at (slice_get ss k)) ≡ false → later ≡ false → Scans low first start ss later missing k
last-slot low first start place k ss later missing is h s l e t =
    let chosen : cond (later && nat_le low (first + (k - start))) (Some (first + (k - start))) missing ≡ missing = rw t refl in
    subst (λ m. Scans low first start ss later m k) chosen (empty-slot low first start place k ss later missing is h s l e)

-- what is missing lies within the row
pub missing-within : (low n : ℕ) (ss : Row) → IfSome (missing_among low n ss) (λ m. m < n + length ss)
missing-within low n [] = tt
missing-within low n (Some info ∷ ss) = further (missing_among low (n + 1) ss) (missing-within low (n + 1) ss)
  where
    further : (o : Option ℕ) → IfSome o (λ m. m < n + 1 + length ss) → IfSome o (λ m. m < n + suc (length ss))
    further o h = grind (arith)
missing-within low n (None ∷ ss) = by (any_held ss && nat_le low n) (missing_among low (n + 1) ss) (missing-within low (n + 1) ss)
  where
    by : (t : Bool) (o : Option ℕ) → IfSome o (λ m. m < n + 1 + length ss) → IfSome (cond t (Some n) o) (λ m. m < n + suc (length ss))
    by t o h = grind (arith)

-- no number is found where all slots are full
pub none-found : (low room taken : ℕ) (ss : Row) (v : Arrived) → seen room taken ss ≡ v → None ≡ position is_empty ss
    → None ≡ find (λ n. nat_le low n) (missing_from v.taken v.held)
none-found low room taken ss v e none = grind (arith, after-first, nat_tests, drop_of_length-le)

-- else it is found from the first empty slot on
pub found-from : (low room taken start : ℕ) (ss : Row) (v : Arrived) → seen room taken ss ≡ v → Some start ≡ position is_empty ss
    → missing_among low taken (drop start ss) ≡ find (λ n. nat_le low n) (missing_from v.taken v.held)
found-from low room taken start ss v e some = grind (arith, after-first, find-missing)

-- what stands in a row rises
rising-lower : (n m : ℕ) (hs : List Held) → n ≤ m → IsRising m hs → IsRising n hs
rising-lower n m [] l r = tt
rising-lower n m (h ∷ hs) l r = (omega (arith, l, r.0), r.1)

rising-from : (n : ℕ) (ss : Row) → IsRising n (held_from n ss)
rising-from n [] = tt
rising-from n (None ∷ ss) = rising-lower n (n + 1) (held_from (n + 1) ss) (omega arith) (rising-from (n + 1) ss)
rising-from n (Some info ∷ ss) = (omega arith, rising-from (n + 1) ss)

pub seen-rising : (room taken : ℕ) (ss : Row) (v : Arrived) → seen room taken ss ≡ v → IsRising v.taken v.held
seen-rising room taken ss v e = grind (arith, after-first, rising-from)

-- what is found is small
pub found-small : (low taken start : ℕ) (ss : Row) (o : Option ℕ) → o ≡ missing_among low taken (drop start ss) → taken < 2 ^ 57
    → length ss < 2 ^ 8 → IfSome o (λ n. n < 2 ^ 58)
found-small low taken start ss o e few room =
    subst (λ o. IfSome o (λ n. n < 2 ^ 58)) (sym e)
    (by (missing_among low taken (drop start ss)) (missing-within low taken (drop start ss)))
  where
    by : (o : Option ℕ) → IfSome o (λ n. n < taken + length (drop start ss)) → IfSome o (λ n. n < 2 ^ 58)
    by o h = grind (arith, length-drop)
