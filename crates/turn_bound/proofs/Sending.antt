use Rattle.turn_bound.proofs.Names.{◌≡◌, ℕ, ◌+◌, ◌<◌, ◌≤◌, ◌&&◌, ◌||◌, not, Bool, true, false, cond, nat_eq, nat_lt, List, [], ◌∷◌, length}
use Rattle.turn_bound.proofs.Names.{arith, refl, ap, subst, Option, Some, None, ◌-◌, ◌*◌, ◌%◌, nat_le, ◌++◌, length-append, OwnBreaks}
use Rattle.turn_bound.proofs.Names.{after_answer, after_ask, after_brk, ticked, waits, after_next, next_among, sent_among, all_weaker}
use Rattle.turn_bound.proofs.Names.{is_some, AllByRecursion, nat_tests, Outgoing, is_outstanding, next_number, running}
use Rattle.std.proofs.Common.{max}
use Rattle.turn_bound.proofs.Value.{Rates, AreRates, Ticks, left, is_waiting, IsChosen, Sends, one_if, sender_value, tries_fit}
use Rattle.turn_bound.proofs.Value.{ticks-later, Breaks, is_breaking, break_left, break_value, ends, paid}

-- The turn goes on to the next one.

pub record WaitedWell (z : Rates) (total turn : ℕ) (o : Outgoing) (timer : Option ℕ) (new : Outgoing) (timer' : Option ℕ) : Type 0 where
  pub sends : Sends z (turn + 1) (turn + 1) new timer'
  pub waits : is_waiting new ≡ is_waiting o
  pub falls : sender_value z total (turn + 1) new timer' + one_if (is_waiting o) ≤ sender_value z total turn o timer

-- by another clock
with-clock : {z : Rates} {before turn before' turn' : ℕ} {o : Outgoing} {timer timer' : Option ℕ} → Sends z before turn o timer
    → (count : ℕ) (awaited : Bool) → is_some timer' ≡ (is_outstanding o || (awaited || o.paused)) → Ticks z before' turn' count timer'
    → Sends z before' turn' (record o { count = count; awaited = awaited }) timer'
with-clock s count awaited cause ticks = grind (arith)

-- without an expiry
pub waited-quiet : (z : Rates) (total turn : ℕ) (o : Outgoing) (timer : Option ℕ) → AreRates z → Sends z (turn + 1) turn o timer
    → ((set : ℕ) → timer ≡ Some set → nat_eq turn (set + z.period) ≡ false)
    → WaitedWell z total turn o timer o timer
waited-quiet z total turn o timer y s quiet = assumption (
  with-clock s o.count o.awaited s.cause (on timer refl s.ticks),
  falling timer refl s.ticks s.cause,
)
  where
    on : (timer' : Option ℕ) → timer ≡ timer' → Ticks z (turn + 1) turn o.count timer' → Ticks z (turn + 1) (turn + 1) o.count timer'
    on None e h = h
    on (Some set) e h = record {
      tied = h.tied;
      started = h.started;
      within = let q = quiet set e in
          let other : nat_eq turn (set + z.period) ≡ false = q in grind (arith, nat_tests, h.within);
      tried = h.tried;
    }

    falling : (timer' : Option ℕ) → timer ≡ timer' → Ticks z (turn + 1) turn o.count timer' → is_some timer' ≡ is_waiting o
        → sender_value z total (turn + 1) o timer' + one_if (is_waiting o) ≤ sender_value z total turn o timer'
    falling b e h c = grind (arith)

-- and with one
pub waited-expired : (z : Rates) (total turn : ℕ) (o : Outgoing) (set : ℕ) → AreRates z → Sends z (turn + 1) turn o (Some set)
    → nat_eq turn (set + z.period) ≡ true → nat_eq o.count o.tries ≡ false
    → WaitedWell z total turn o (Some set) (record o { count = o.count + 1; awaited = true }) (Some turn)
waited-expired z total turn o set y s due more = grind (arith, with-clock, tries_fit)

-- a segment is sent
pub record SentWell (z : Rates) (total turn : ℕ) (o : Outgoing) (timer : Option ℕ) (new : Outgoing) (timer' : Option ℕ) : Type 0 where
  pub sends : Sends z (turn + 1) (turn + 1) new timer'
  pub waits : is_waiting new ≡ true
  pub falls : sender_value z total (turn + 1) new timer' + cond (is_waiting o) 0 (z.room + 1) ≤ sender_value z total (turn + 1) o timer

sent-on : (z : Rates) (total turn : ℕ) (o : Outgoing) (timer : Option ℕ) (from high : ℕ) (chosen : List ℕ) → AreRates z
    → Sends z (turn + 1) (turn + 1) o timer → o.awaited || o.paused ≡ false
    → o.front ≤ from → from ≤ high → high ≤ length o.pieces → high ≤ o.front + o.window → o.front < high → o.front < total
    → AllByRecursion (IsChosen o.front high) chosen
    → SentWell z total turn o timer (record o { from = from; high = high; chosen = chosen }) (running turn timer)
sent-on z total turn o timer from high chosen y s idle front_from from_high high_pieces high_window less some choices =
    go (is_outstanding o) refl timer s.ticks s.cause
  where
    out' : nat_lt o.front high ≡ true
    out' = grind (arith, nat_tests)

    waits' : nat_lt o.front high || (o.awaited || o.paused) ≡ true
    waits' = rw out' refl

    free' : cond (not (nat_lt o.front high) && nat_lt o.front total) z.first 0 ≡ 0
    free' = rw out' refl

    sends : (timer' : Option ℕ) → is_some timer' ≡ true → Ticks z (turn + 1) (turn + 1) o.count timer'
        → Sends z (turn + 1) (turn + 1) (record o { from = from; high = high; chosen = chosen }) timer'
    sends timer' runs ticks = grind (arith)

    go : (out : Bool) → is_outstanding o ≡ out → (timer' : Option ℕ) → Ticks z (turn + 1) (turn + 1) o.count timer'
        → is_some timer' ≡ is_waiting o
        → SentWell z total turn o timer' (record o { from = from; high = high; chosen = chosen }) (running turn timer')
    go out e timer' ticks cause = grind (arith, idle, left, waits', free')

pub may-be : (b c : Bool) (m : Option ℕ) (n : ℕ) → cond (b || c) None m ≡ Some n → (b || c ≡ false) × (m ≡ Some n)
may-be b c m n e = grind (arith)

pub sent-well : (z : Rates) (total turn : ℕ) (o : Outgoing) (timer : Option ℕ) (n : ℕ) → AreRates z → Sends z (turn + 1) (turn + 1) o timer
    → length o.pieces ≤ total → next_number o ≡ Some n
    → SentWell z total turn o timer (after_next o) (running turn timer)
sent-well z total turn o timer n y s all e =
    let may = may-be o.awaited o.paused (next_among o.chosen o) n e in grind (arith, go)
  where
    idle : o.awaited || o.paused ≡ false
    idle = (may-be o.awaited o.paused (next_among o.chosen o) n e).0

    go : (chosen : List ℕ) → AllByRecursion (IsChosen o.front o.high) chosen → next_among chosen o ≡ Some n
        → SentWell z total turn o timer (sent_among chosen o) (running turn timer)
    go [] h f = in-order (nat_lt o.from (length o.pieces)) refl (nat_lt o.from (o.front + o.window)) refl f
      where
        in-order : (a : Bool) → nat_lt o.from (length o.pieces) ≡ a → (b : Bool) → nat_lt o.from (o.front + o.window) ≡ b
            → cond (a && b) (Some o.from) None ≡ Some n
            → SentWell z total turn o timer (sent_among [] o) (running turn timer)
        in-order true ea true eb f =
            let some : o.from < length o.pieces = grind (arith, nat_tests) in
            let free : o.from < o.front + o.window = grind (arith, nat_tests) in
            subst (λ c. SentWell z total turn o timer (record o { from = o.from + 1; high = max o.high (o.from + 1); chosen = c })
            (running turn timer)) refl
            (sent-on z total turn o timer (o.from + 1) (max o.high (o.from + 1)) o.chosen y s idle (omega (arith, s.front_from))
            (omega arith) (omega (arith, s.high_pieces, some)) (omega (arith, s.high_window, free))
            (omega (arith, s.front_from)) (omega (arith, s.front_from, some, all))
            (all_weaker (IsChosen o.front o.high) (IsChosen o.front (max o.high (o.from + 1))) o.chosen
            (λ k c. (c.0, omega (arith, c.1))) s.chosen))
        in-order a ea b eb f = grind (arith)
    go (m ∷ rest) h f = grind (arith, sent-on, all_weaker)

-- Pieces are offered.
pub offered-sends : (z : Rates) (before turn : ℕ) (o : Outgoing) (timer : Option ℕ) (pieces : List (List ℕ)) (ended : Bool)
    → Sends z before turn o timer → length o.pieces ≤ length pieces
    → Sends z before turn (record o { pieces = pieces; ended = ended }) timer
offered-sends z before turn o timer pieces ended s more = grind (arith)

pub later-sends : (z : Rates) (turn : ℕ) (o : Outgoing) (timer : Option ℕ) → Sends z turn turn o timer → Sends z (turn + 1) turn o timer
later-sends z turn o timer s = with-clock s o.count o.awaited s.cause (ticks-later z turn turn o.count timer s.ticks)

pub later-breaks : (z : Rates) (turn : ℕ) (b : OwnBreaks) → Breaks z turn turn b → Breaks z (turn + 1) turn b
later-breaks z turn b s = grind (arith)

-- within a turn
pub record ChangedWell (z : Rates) (breaks turn : ℕ) (b c : OwnBreaks) : Type 0 where
  pub sound : Breaks z (turn + 1) turn c
  pub falls : break_value z breaks turn c + ends z.room (is_breaking turn b) (is_breaking turn c) ≤ break_value z breaks turn b

pub ends-same : (k : ℕ) (b : Bool) → ends k b b ≡ 0
ends-same k b = grind (arith)

pub same-breaks : (z : Rates) (breaks turn : ℕ) (b : OwnBreaks) → Breaks z (turn + 1) turn b → ChangedWell z breaks turn b b
same-breaks z breaks turn b s = record { sound = s; falls = omega (arith, ends-same z.room (is_breaking turn b)) }

-- a BRKACK is heard
pub answered-well : (z : Rates) (breaks turn number : ℕ) (b : OwnBreaks) → AreRates z → Breaks z turn turn b
    → ChangedWell z breaks turn b (after_answer turn number b)
answered-well z breaks turn number b y s = go (waits b) refl (nat_eq number (b.answered % 2))
  where
    answered : OwnBreaks
    answered = record b { answered = b.answered + 1; brk = false; count = 0; rest = turn + 8 }

    go : (w : Bool) → waits b ≡ w → (right : Bool)
        → ChangedWell z breaks turn b
        (cond (w && right) (record b { answered = b.answered + 1; brk = false; count = 0; rest = turn + 8 }) b)
    go false e right = same-breaks z breaks turn b (later-breaks z turn b s)
    go true e false = same-breaks z breaks turn b (later-breaks z turn b s)
    go true e true = grind (arith, ends, tries_fit)

-- a break is asked for
pub asked-well : (z : Rates) (breaks turn l : ℕ) (b : OwnBreaks) → AreRates z → Breaks z (turn + 1) turn b
    → length (after_ask turn l b).lengths ≤ breaks → ChangedWell z breaks turn b (after_ask turn l b)
asked-well z breaks turn l b y s = go (waits b) refl (nat_le b.rest turn) refl
  where
    go : (w : Bool) → waits b ≡ w → (rested : Bool) → nat_le b.rest turn ≡ rested
        → length (cond (not w && rested) (record b { lengths = b.lengths ++ l ∷ []; brk = true; set = turn; count = 0 }) b).lengths ≤ breaks
        → ChangedWell z breaks turn b
        (cond (not w && rested) (record b { lengths = b.lengths ++ l ∷ []; brk = true; set = turn; count = 0 }) b)
    go true e rested f fits = same-breaks z breaks turn b s
    go false e false f fits = same-breaks z breaks turn b s
    go false e true f fits = grind (arith, length-append, ends, paid, tries_fit)

pub counts : (l m : Bool) → l ≡ m → one_if l ≡ one_if m
counts l m e = rw e refl

pub or-false : (w a : Bool) → w ≡ false → w || a ≡ a
or-false w a e = rw e refl

-- the turn goes on to the next one
pub record TickedWell (z : Rates) (breaks turn : ℕ) (b c : OwnBreaks) : Type 0 where
  pub sound : Breaks z (turn + 1) (turn + 1) c
  pub falls : break_value z breaks (turn + 1) c + one_if (is_breaking turn b) ≤ break_value z breaks turn b
  pub lives : is_breaking turn b ≡ false → is_breaking (turn + 1) c ≡ false
  pub lengths : c.lengths ≡ b.lengths
  pub waiting : waits c ≡ waits b

pub ticked-well : (z : Rates) (breaks turn : ℕ) (b c : OwnBreaks) → AreRates z → Breaks z (turn + 1) turn b
    → ticked turn z.period z.tries b ≡ Some c → TickedWell z breaks turn b c
ticked-well z breaks turn b c y s t = go (waits b) refl (nat_eq turn (b.set + z.period)) refl (nat_eq b.count z.tries) refl t
  where
    rest : (w : Bool) → waits b ≡ w → (w ≡ true → nat_eq turn (b.set + z.period) ≡ false) → TickedWell z breaks turn b b
    rest w e due = grind (arith, tries_fit, or-false, waits)

    go : (w : Bool) → waits b ≡ w → (due : Bool) → nat_eq turn (b.set + z.period) ≡ due → (spent : Bool) → nat_eq b.count z.tries ≡ spent
        → cond (w && due) (cond spent None (Some (record b { brk = true; set = turn; count = b.count + 1 }))) (Some b) ≡ Some c
        → TickedWell z breaks turn b c
    go true e true d true p f = cc
    go true e true d false p f =
        let same : record b { brk = true; set = turn; count = b.count + 1 } ≡ c = cc in
        let r = s.clock e in
        let now : turn ≡ b.set + z.period = grind (arith, nat_tests) in
        let fewer : b.count < z.tries = grind (arith, nat_tests, r.tried) in
        let old : break_left z turn b ≡ b.set + z.whole + 9 - (b.count * z.period + turn) = grind (arith) in
        let new : break_left z (turn + 1) (record b { brk = true; set = turn; count = b.count + 1 }) ≡ turn + z.whole + 9 -
        ((b.count + 1) * z.period + (turn + 1))
        = ap (λ w. cond w (turn + z.whole + 9 - ((b.count + 1) * z.period + (turn + 1))) (b.rest - (turn + 1))) e in
        let live : one_if (is_breaking turn b) ≡ 1 = rw e refl in grind (arith, tries_fit)
    go true e false d p q f = let same : b ≡ c = cc in subst (TickedWell z breaks turn b) same (rest true e (λ x. d))
    go false e d g p q f = let same : b ≡ c = cc in subst (TickedWell z breaks turn b) same (rest false e (λ x. cc))

pub brk-sent : (z : Rates) (before turn : ℕ) (b : OwnBreaks) → Breaks z before turn b → Breaks z before turn (after_brk b)
brk-sent z before turn b s = record { low = s.low; high = s.high; due = λ d. cc; clock = s.clock; rests = s.rests }
