-- A frame in a flag slot.
use Rattle.bit_stuffing.proofs.Names.{◌≡◌, ℕ, ◌+◌, ◌-◌, ◌≤◌, min, Bool, false, List, [], ◌∷◌, ◌++◌, length, take, drop, Some, arith}
use Rattle.bit_stuffing.proofs.Names.{append_assoc, length-append, refl, ◌∙◌, ap, subst, take-append-le, drop-append-le, take_all}
use Rattle.bit_stuffing.proofs.Names.{drop_all, flag, OpenedAt, Closes, content, flags, fill, rest_of_flag, opening, slot_bits, Flags}
use Rattle.bit_stuffing.proofs.Names.{stuffed, length-bits_of, bits_of}
use Rattle.bit_stuffing.specs.declared.piece.TheConstants.{SHORTEST}
use Rattle.bit_stuffing.proofs.Ones.{flag-six}
use Rattle.bit_stuffing.proofs.Openings.{opened-once, flag-closes, is_far}
use Rattle.bit_stuffing.proofs.Counters.{Counters, Counts, run, Still, run-append, counts-run, Below6, below-append, below-still, open-run}
use Rattle.bit_stuffing.proofs.Counters.{run-both}
use Rattle.bit_stuffing.proofs.States.{open_at, Between, run-stuffed, seven, run-seven, run-opens}

-- a frame between an open flag and the closing one
pub record Framed (past body : List Bool) (sent : List ℕ) : Type 0 where
  pub closed : Closes (past ++ body) ((past ++ body) ++ false ∷ [])
  pub content_is : (c : Closes (past ++ body) ((past ++ body) ++ false ∷ []))
      → content ((past ++ body) ++ false ∷ []) c.opened ≡ stuffed 5 (bits_of sent)

opened-here : (past : List Bool) → Counts (open_at 0) past → OpenedAt past (length past)
opened-here past f = grind (arith)

-- a flag ends behind six ones, eight bits or more behind the flag that is open
closes-here : (past : List Bool) → Counts (record { ones = 6; since = Some 8 }) past → Closes past (past ++ false ∷ [])
closes-here past h = grind (arith, flag-closes, flag-six, is_far)

long_enough : (m : List Bool) → 1 ≤ length m → 1 ≤ length (stuffed 5 m)
long_enough m h = grind (arith)

run-body : (m : List Bool) → 1 ≤ length m
    → Below6 (open_at 0) (stuffed 5 m ++ seven) × (run (open_at 0) (stuffed 5 m ++ seven) ≡ record { ones = 6; since = Some 8 })
run-body m long =
    let g = run-stuffed 5 m 0 0 refl (omega arith) in
    let r = run-seven g.1.0 (min 8 (0 + length (stuffed 5 m))) (omega (arith, g.1.1)) (omega (arith, long_enough m long)) (omega arith) in
    grind (arith, below-append, seven, r, run-append, run)

cut : (past s : List Bool) → content ((past ++ (s ++ seven)) ++ false ∷ []) (length past) ≡ s
cut past s =
    let e : (past ++ (s ++ seven)) ++ false ∷ [] ≡ (past ++ s) ++ flag = grind (arith, append_assoc, seven) in
    let n : length ((past ++ s) ++ flag) - 8 ≡ length (past ++ s) = eight_less (past ++ s) in
    let front : take (length (past ++ s)) ((past ++ s) ++ flag) ≡ past ++ s =
    take-append-le (length (past ++ s)) (past ++ s) flag (omega arith) ∙ take_all (length (past ++ s)) (past ++ s) (omega arith) in
    let none : drop (length past) past ≡ [] = drop_all (length past) past (omega arith) in
    grind (arith, content, drop-append-le)
  where
    eight_less : (l : List Bool) → length (l ++ flag) - 8 ≡ length l
    eight_less l = omega (arith, length-append {A = Bool} l flag)

pub frame-found : (past : List Bool) (sent : List ℕ) → Counts (open_at 0) past → 1 ≤ length (bits_of sent)
    → Framed past (stuffed 5 (bits_of sent) ++ seven) sent
frame-found past sent f long = record { closed = closed; content_is = λ c. content_is c }
  where
    r : Below6 (open_at 0) (stuffed 5 (bits_of sent) ++ seven)
        × (run (open_at 0) (stuffed 5 (bits_of sent) ++ seven) ≡ record { ones = 6; since = Some 8 })
    r = run-body (bits_of sent) long

    found : Counts (record { ones = 6; since = Some 8 }) (past ++ (stuffed 5 (bits_of sent) ++ seven))
    found = subst (λ k. Counts k (past ++ (stuffed 5 (bits_of sent) ++ seven))) r.1
        (counts-run (open_at 0) past (stuffed 5 (bits_of sent) ++ seven) f)

    closed : Closes (past ++ (stuffed 5 (bits_of sent) ++ seven)) ((past ++ (stuffed 5 (bits_of sent) ++ seven)) ++ false ∷ [])
    closed = closes-here (past ++ (stuffed 5 (bits_of sent) ++ seven)) found

    opened : OpenedAt (past ++ (stuffed 5 (bits_of sent) ++ seven)) (length past)
    opened = open-run (open_at 0) past (stuffed 5 (bits_of sent) ++ seven) 0 (length past) f r.0 refl (opened-here past f)

    content_is : (c : Closes (past ++ (stuffed 5 (bits_of sent) ++ seven)) ((past ++ (stuffed 5 (bits_of sent) ++ seven)) ++ false ∷ []))
        → content ((past ++ (stuffed 5 (bits_of sent) ++ seven)) ++ false ∷ []) c.opened ≡ stuffed 5 (bits_of sent)
    content_is c =
        let p : c.opened ≡ length past =
        opened-once (past ++ (stuffed 5 (bits_of sent) ++ seven)) c.opened (length past) c.is_opened opened in
        ap (content ((past ++ (stuffed 5 (bits_of sent) ++ seven)) ++ false ∷ [])) p ∙ cut past (stuffed 5 (bits_of sent))

-- a frame in a slot
abbrev pub before_last : ℕ → List ℕ → List Bool
before_last phase sent = (rest_of_flag phase ++ flags 4) ++ (stuffed 5 (bits_of sent) ++ seven)

pub slot-split : (size phase : ℕ) (sent : List ℕ)
    → slot_bits size phase (Flags (Some sent)) ≡ before_last phase sent ++ false ∷ fill (size - length (opening phase (Some sent)))
slot-split size phase sent = grind (arith, flags, fill, seven, append_assoc)

pub last_place : (phase : ℕ) (sent : List ℕ) → length (opening phase (Some sent)) ≡ length (before_last phase sent) + 1
last_place phase sent = grind (arith, flags, seven, length-append)

pub bits-some : (sent : List ℕ) → SHORTEST ≤ length sent → 1 ≤ length (bits_of sent)
bits-some sent h = grind (arith, length-bits_of)

-- the states in a slot with a frame
pub record InFrame (phase : ℕ) (k : Counters) (sent : List ℕ) : Type 0 where
  pub front : (run k (before_last phase sent) ≡ record { ones = 6; since = Some 8 }) × Still k (before_last phase sent)
  pub head : run k (rest_of_flag phase ++ flags 4) ≡ open_at 0

pub in-frame : (behind : Bool) (phase : ℕ) (k : Counters) (sent : List ℕ) → Between behind k phase → SHORTEST ≤ length sent
    → InFrame phase k sent
in-frame behind phase k sent between long =
    let h = run-opens behind k phase between in
    let r = run-body (bits_of sent) (bits-some sent long) in
    record {
      front = run-both k (open_at 0) (record { ones = 6; since = Some 8 }) (rest_of_flag phase ++ flags 4)
          (stuffed 5 (bits_of sent) ++ seven) h (r.1, below-still (open_at 0) (stuffed 5 (bits_of sent) ++ seven) r.0);
      head = h.0;
    }
