-- A machine of two counters, for bits of which only the runs of ones are known.
use Rattle.std.proofs.lemmas.List.{length_push}
use Rattle.bit_stuffing.proofs.Names.{◌≡◌, ◌≢◌, ℕ, ◌+◌, ◌<◌, min, Bool, true, false, if◌then◌else◌, nat_eq, List, [], ◌∷◌, ◌++◌, length}
use Rattle.bit_stuffing.proofs.Names.{Option, Some, None, arith, append_assoc, refl, sym, ◌∙◌, ap, subst, false≢true, eqb-true, append-nil}
use Rattle.bit_stuffing.proofs.Names.{CountsSince, OpenedAt, SevenOnesEndAt, Aborts, Closes, Found, listed}
use Rattle.std.proofs.lemmas.Bool.{eqb-false}
use Rattle.bit_stuffing.specs.Found.{found_at, pieces_of}
use Rattle.bit_stuffing.proofs.Ones.{CountsOnes, one-more, zero-more, no_flag-one, flag-six, six-flag, seven-ones, ones-seven}
use Rattle.bit_stuffing.proofs.Ones.{no_seven-zero, opened-few}
use Rattle.bit_stuffing.proofs.Openings.{opened-once, opened-stays, at_end, seven_at_end, flag-opens, seven-shuts, counts-more, shut-stays}
use Rattle.bit_stuffing.proofs.Found.{found-quiet, pieces-more}

-- the ones at the end, up to seven, and the bits behind the flag that is open, up to eight
pub record Counters : Type 0 where
  pub ones : ℕ
  pub since : Option ℕ

pub record Counts (k : Counters) (bits : List Bool) : Type 0 where
  pub ones : CountsOnes k.ones bits
  pub since : CountsSince k.since bits

-- one more bit

abbrev pub since_one : ℕ → Option ℕ → Option ℕ
since_one ones None = None
since_one ones (Some count) = if nat_eq ones 6 then None else Some (min count 7 + 1)

abbrev pub since_zero : ℕ → Option ℕ → Option ℕ
since_zero ones None = if nat_eq ones 6 then Some 0 else None
since_zero ones (Some count) = if nat_eq ones 6 then Some 0 else Some (min count 7 + 1)

abbrev pub step : Counters → Bool → Counters
step k true = record { ones = min k.ones 6 + 1; since = since_one k.ones k.since }
step k false = record { ones = 0; since = since_zero k.ones k.since }

abbrev pub run : Counters → List Bool → Counters
run k [] = k
run k (b ∷ s) = run (step k b) s

-- whether something is found at the bit: an abort at a one, a piece at a zero

abbrev pub is_open : Option ℕ → Bool
is_open None = false
is_open (Some count) = true

abbrev pub is_far : Option ℕ → Bool
is_far None = false
is_far (Some count) = nat_eq count 8

abbrev pub speaks : Counters → Bool → Bool
speaks k true = if nat_eq k.ones 6 then is_open k.since else false
speaks k false = if nat_eq k.ones 6 then is_far k.since else false

-- nothing is found at any of the bits
abbrev pub Still : Counters → List Bool → Type 0
Still k [] = Unit {0}
Still k (b ∷ s) = (speaks k b ≡ false) × Still (step k b) s

pub run-append : (k : Counters) (s t : List Bool) → run k (s ++ t) ≡ run (run k s) t
run-append k [] t = refl
run-append k (b ∷ s) t = run-append (step k b) s t

pub still-append : (k : Counters) (s t : List Bool) → Still k s → Still (run k s) t → Still k (s ++ t)
still-append k [] t h g = g
still-append k (b ∷ s) t h g = (h.0, still-append (step k b) s t h.1 g)

-- a one ends no seven ones unless it is the seventh
few-no_seven : (k : Counters) (past : List Bool) (count : ℕ) → Counts k past → k.ones ≢ 6 → CountsSince (Some count) past
    → SevenOnesEndAt (past ++ true ∷ []) (length past + 1) → ⊥
few-no_seven k past count h other s e = other (omega (arith, ones-seven past k.ones h.ones e, opened-few past k.ones s.0 h.ones s.1))

pub counts-step : (k : Counters) (past : List Bool) (b : Bool) → Counts k past → Counts (step k b) (past ++ b ∷ [])
counts-step k past true h = record { ones = one-more past k.ones h.ones; since = each k.since h.since (nat_eq k.ones 6) refl }
  where
    each : (since : Option ℕ) → CountsSince since past → (b : Bool) → nat_eq k.ones 6 ≡ b
        → CountsSince (since_one k.ones since) (past ++ true ∷ [])
    each None s b e = shut-stays past true (no_flag-one past) s
    each (Some count) s true e = let six : k.ones ≡ 6 = eqb-true k.ones 6 e in
        rw e (seven-shuts past true (seven-ones past (rw six at h.ones)))
    each (Some count) s false e =
        rw e (counts-more past true (no_flag-one past) (few-no_seven k past count h (eqb-false k.ones 6 e) s) count s)
counts-step k past false h = record { ones = zero-more past; since = each k.since h.since (nat_eq k.ones 6) refl }
  where
    each : (since : Option ℕ) → CountsSince since past → (b : Bool) → nat_eq k.ones 6 ≡ b
        → CountsSince (since_zero k.ones since) (past ++ false ∷ [])
    each None s true e = let six : k.ones ≡ 6 = eqb-true k.ones 6 e in rw e (flag-opens past false (flag-six past (rw six at h.ones)))
    each None s false e = rw e (shut-stays past false (λ f. eqb-false k.ones 6 e (six-flag past k.ones h.ones f)) s)
    each (Some count) s true e = grind (arith, eqb-true, flag-opens, flag-six)
    each (Some count) s false e =
        rw e (counts-more past false (λ f. eqb-false k.ones 6 e (six-flag past k.ones h.ones f)) (no_seven-zero past) count s)

pub counts-run : (k : Counters) (past s : List Bool) → Counts k past → Counts (run k s) (past ++ s)
counts-run k past [] h = subst (Counts k) (sym (append-nil past)) h
counts-run k past (b ∷ s) h = grind (arith, counts-run (step k b) (past ++ b ∷ []) s (counts-step k past b h), append_assoc, counts-step)

-- where the counters say nothing, nothing is found
no_abort : (k : Counters) (past : List Bool) (b : Bool) → Counts k past → speaks k b ≡ false → Aborts past (past ++ b ∷ []) → ⊥
no_abort k past false h e a = no_seven-zero past (seven_at_end past false a.seventh)
no_abort k past true h e a = each k.since refl h.since (nat_eq k.ones 6) refl
  where
    each : (since : Option ℕ) → k.since ≡ since → CountsSince since past → (t : Bool) → nat_eq k.ones 6 ≡ t → ⊥
    each None g s t f = s a.opened a.is_opened
    each (Some count) g s true f = let said : true ≡ false = rw (f, g) at e in false≢true (sym said)
    each (Some count) g s false f = few-no_seven k past count h (eqb-false k.ones 6 f) s (seven_at_end past true a.seventh)

pub no_close : (k : Counters) (past : List Bool) (b : Bool) → Counts k past → speaks k b ≡ false → Closes past (past ++ b ∷ []) → ⊥
no_close k past true h e c = no_flag-one past (at_end past true c.closing)
no_close k past false h e c = each k.since refl h.since (nat_eq k.ones 6) refl
  where
    each : (since : Option ℕ) → k.since ≡ since → CountsSince since past → (t : Bool) → nat_eq k.ones 6 ≡ t → ⊥
    each None g s t f = s c.opened c.is_opened
    each (Some count) g s false f = eqb-false k.ones 6 f (six-flag past k.ones h.ones (at_end past false c.closing))
    each (Some count) g s true f =
        let near : nat_eq count 8 ≡ false = rw (f, g) at e in
        eqb-false count 8 near (omega (arith, s.2, c.some, length_push past false, opened-once past c.opened s.0 c.is_opened s.1))

-- what is found along bits behind others
abbrev pub along : List Bool → List Bool → List Found
along past [] = []
along past (b ∷ s) = listed (found_at (past ++ b ∷ [])) ++ along (past ++ b ∷ []) s

pub pieces-along : (past s : List Bool) → pieces_of (past ++ s) ≡ pieces_of past ++ along past s
pieces-along past [] = ap pieces_of (append-nil past) ∙ sym (append-nil (pieces_of past))
pieces-along past (b ∷ s) = grind (arith, pieces-along (past ++ b ∷ []) s, append_assoc, pieces-more, listed)

pub along-append : (past s t : List Bool) → along past (s ++ t) ≡ along past s ++ along (past ++ s) t
along-append past [] t = ap (λ l. along l t) (sym (append-nil past))
along-append past (b ∷ s) t = grind (arith, along-append (past ++ b ∷ []) s t, listed, append_assoc)

pub along-still : (k : Counters) (past s : List Bool) → Counts k past → Still k s → along past s ≡ []
along-still k past [] h g = refl
along-still k past (b ∷ s) h g =
    let none = found-quiet past b (no_abort k past b h g.0) (no_close k past b h g.0) in
    rw (none, along-still (step k b) (past ++ b ∷ []) s (counts-step k past b h) g.1) refl

-- the bits before which fewer than six ones stand: none of them ends a flag
abbrev pub Below6 : Counters → List Bool → Type 0
Below6 k [] = Unit {0}
Below6 k (b ∷ s) = (k.ones < 6) × Below6 (step k b) s

pub below-append : (k : Counters) (s t : List Bool) → Below6 k s → Below6 (run k s) t → Below6 k (s ++ t)
below-append k [] t h g = g
below-append k (b ∷ s) t h g = (h.0, below-append (step k b) s t h.1 g)

pub few_not : (n : ℕ) → n < 6 → nat_eq n 6 ≡ false
few_not n h = grind (arith, eqb-true)

pub below-still : (k : Counters) (s : List Bool) → Below6 k s → Still k s
below-still k [] h = tt
below-still k (true ∷ s) h = let e = few_not k.ones h.0 in (rw e refl, below-still (step k true) s h.1)
below-still k (false ∷ s) h = let e = few_not k.ones h.0 in (rw e refl, below-still (step k false) s h.1)

-- what is open stays open
open-step : (k : Counters) (past : List Bool) (b : Bool) (count p : ℕ) → Counts k past → k.ones < 6 → k.since ≡ Some count → OpenedAt past p
    → OpenedAt (past ++ b ∷ []) p
open-step k past true count p h few e o =
    opened-stays past true p o (no_flag-one past)
    (few-no_seven k past count h (λ q. absurd (omega arith)) (subst (λ s. CountsSince s past) e h.since))
open-step k past false count p h few e o =
    opened-stays past false p o (λ f. let q = six-flag past k.ones h.ones f in absurd (omega arith)) (no_seven-zero past)

since-step : (k : Counters) (b : Bool) (count : ℕ) → k.ones < 6 → k.since ≡ Some count → (step k b).since ≡ Some (min count 7 + 1)
since-step k b count few e = grind (arith, few_not)

pub open-run : (k : Counters) (past s : List Bool) (count p : ℕ) → Counts k past → Below6 k s → k.since ≡ Some count → OpenedAt past p
    → OpenedAt (past ++ s) p
open-run k past [] count p h below e o = subst (λ l. OpenedAt l p) (sym (append-nil past)) o
open-run k past (b ∷ s) count p h below e o = subst (λ l. OpenedAt l p) (append_assoc past (b ∷ []) s)
    (open-run (step k b) (past ++ b ∷ []) s (min count 7 + 1) p (counts-step k past b h) below.1 (since-step k b count below.0 e)
    (open-step k past b count p h below.0 e o))

-- the same by a test, for bits that are written out
abbrev pub still_test : Counters → List Bool → Bool
still_test k [] = true
still_test k (b ∷ s) = if speaks k b then false else still_test (step k b) s

pub still-of : (k : Counters) (s : List Bool) → still_test k s ≡ true → Still k s
still-of k [] e = tt
still-of k (b ∷ s) e = grind (arith, still-of (step k b) s)

-- one part after another
pub run-both : (k m e : Counters) (s t : List Bool) → (run k s ≡ m) × Still k s → (run m t ≡ e) × Still m t
    → (run k (s ++ t) ≡ e) × Still k (s ++ t)
run-both k m e s t a b = grind (arith, run-append, still-append)
