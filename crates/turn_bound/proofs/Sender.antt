use Rattle.turn_bound.proofs.Names.{◌≡◌, ℕ, ◌+◌, ◌-◌, ◌*◌, ◌<◌, ◌≤◌, ◌&&◌, ◌||◌, not, Bool, true, false, cond, nat_lt, List, [], ◌∷◌}
use Rattle.turn_bound.proofs.Names.{length, arith, refl, sym, ap, Option, Some, None, with_number, gone_back, paused_at, wait_ended, acked}
use Rattle.turn_bound.proofs.Names.{acked_back, is_some, AllByRecursion, nat_tests, meant, Outgoing, is_outstanding, advanced, resumed}
use Rattle.turn_bound.proofs.Names.{ends_wait, timer_after}
use Rattle.turn_bound.proofs.Truths.{and-two}
use Rattle.link_account.proofs.Names.{Account}
use Rattle.lapm_sender.specs.Numbers.{from_number}
use Rattle.turn_bound.proofs.Value.{Rates, AreRates, Ticks, left, is_waiting, IsChosen, Sends, is_free, ends, sender_value, paid, cond-le}
use Rattle.turn_bound.proofs.Value.{stopped, left-some, ticks-now}
use Rattle.link_account.proofs.Flow.{with_number-all}

-- whether hearing ended what the clock ran for
abbrev pub ended : Outgoing → Outgoing → Bool
ended o new = ((o.awaited && not new.awaited) || (o.paused && not new.paused)) && not (is_waiting new)

-- what a number that was heard may make of the sender's part
pub record Heard (o new : Outgoing) : Type 0 where
  pub high : new.high ≡ o.high
  pub pieces : new.pieces ≡ o.pieces
  pub window : new.window ≡ o.window
  pub tries : new.tries ≡ o.tries
  pub front_low : o.front ≤ new.front
  pub front_from : new.front ≤ new.from
  pub from_high : new.from ≤ new.high
  pub chosen : AllByRecursion (IsChosen new.front new.high) new.chosen
  pub awaited : new.awaited ≡ true → o.awaited ≡ true
  pub paused : new.paused ≡ true → o.paused ≡ true
  pub count : new.count ≡ cond (nat_lt o.front new.front) 0 (cond (ended o new) 0 o.count)

-- the clock after it, by whether the front advances and whether there is anything to wait for
clock-after : (turn : ℕ) (out out' awaited awaited' paused paused' advances : Bool) (timer : Option ℕ)
    → (advances ≡ false → out ≡ out') → (awaited' ≡ true → awaited ≡ true) → (paused' ≡ true → paused ≡ true)
    → is_some timer ≡ (out || (awaited || paused))
    → cond (((awaited && not awaited') || (paused && not paused')) && not (out' || (awaited' || paused'))) None
    (cond advances (cond (out' || (awaited' || paused')) (Some turn) None) timer)
    ≡ cond (out' || (awaited' || paused')) (cond advances (Some turn) timer) None
clock-after turn out out' awaited awaited' paused paused' advances timer h1 h2 h3 h4 = grind (arith)

-- and its count
count-after : (count : ℕ) (out out' awaited awaited' paused paused' advances : Bool) (timer : Option ℕ)
    → (advances ≡ false → out ≡ out') → (awaited' ≡ true → awaited ≡ true) → (paused' ≡ true → paused ≡ true)
    → is_some timer ≡ (out || (awaited || paused)) → (timer ≡ None → count ≡ 0)
    → cond advances 0 (cond (((awaited && not awaited') || (paused && not paused')) && not (out' || (awaited' || paused'))) 0 count)
    ≡ cond (out' || (awaited' || paused')) (cond advances 0 count) 0
count-after count out out' awaited awaited' paused paused' advances timer h1 h2 h3 h4 h5 = grind (arith)

pub record HeardWell (z : Rates) (total turn : ℕ) (o : Outgoing) (timer : Option ℕ) (new : Outgoing) (timer' : Option ℕ)
    (more : ℕ) : Type 0 where
  pub sends : Sends z (turn + 1) turn new timer'
  pub falls : sender_value z total turn new timer' + ends z.room (is_waiting o) (is_waiting new) ≤ sender_value z total turn o timer + more

outstanding-same : (o new : Outgoing) → Heard o new → nat_lt o.front new.front ≡ false
    → (is_outstanding o ≡ is_outstanding new) × (o.front ≡ new.front)
outstanding-same o new h e = let same : o.front ≡ new.front = grind (arith, nat_tests, h.front_low) in (rw (same, h.high) refl, same)

waiting-less : (out awaited paused awaited' paused' : Bool) → (awaited' ≡ true → awaited ≡ true) → (paused' ≡ true → paused ≡ true)
    → (out || (awaited' || paused')) ≡ true → (out || (awaited || paused)) ≡ true
waiting-less out awaited paused awaited' paused' h1 h2 e = grind (arith)

pub heard-clock : (z : Rates) (turn : ℕ) (o new : Outgoing) (timer : Option ℕ) → Sends z turn turn o timer → Heard o new
    → (timer_after turn o new timer ≡ cond (is_waiting new) (cond (nat_lt o.front new.front) (Some turn) timer) None)
    × (new.count ≡ cond (is_waiting new) (cond (nat_lt o.front new.front) 0 o.count) 0)
heard-clock z turn o new timer s h = grind (arith, clock-after, outstanding-same, count-after, stopped)

waits-before : (o : Outgoing) (n : ℕ) → o.front < n → n ≤ o.high → is_waiting o ≡ true
waits-before o n less within = let t : nat_lt o.front o.high ≡ true = grind (arith, nat_tests) in rw t refl

pieces-same : (o new : Outgoing) → Heard o new → length new.pieces ≡ length o.pieces
pieces-same o new h = ap (λ l. length l) h.pieces

heard-sends : (z : Rates) (turn : ℕ) (o new : Outgoing) (timer timer' : Option ℕ) → Sends z turn turn o timer → Heard o new
    → (paused : Bool) (count : ℕ) → is_some timer' ≡ (is_outstanding new || (new.awaited || paused)) → Ticks z (turn + 1) turn count timer'
    → Sends z (turn + 1) turn (record new { paused = paused; count = count }) timer'
heard-sends z turn o new timer timer' s h paused count cause ticks = grind (arith)

pub ends-is : (k : ℕ) (a b a' b' : Bool) → a ≡ a' → b ≡ b' → ends k a b ≡ ends k a' b'
ends-is k a b a' b' e f = rw (e, f) refl

worth-same : (z : Rates) (total : ℕ) (o new : Outgoing) → Heard o new → nat_lt o.front new.front ≡ false
    → z.quota * (total - new.front) + cond (is_free total new) z.first 0 ≡ z.quota * (total - o.front) + cond (is_free total o) z.first 0
worth-same z total o new h e = grind (arith, outstanding-same)

-- an advance pays for all
falls-more : (q g w first rest rest' free free' old k : ℕ) (waits' : Bool) → rest' + q ≤ rest → free' ≤ g → q ≡ g + w + 1
    → rest' + free' + cond waits' (w + 1) 0 + ends k true waits' ≤ rest + free + old + 0
falls-more q g w first rest rest' free free' old k b h f e = grind (arith)

-- what is heard never makes a stopped clock run
pub heard-well : (z : Rates) (total turn : ℕ) (o new : Outgoing) (timer : Option ℕ) → AreRates z → Sends z turn turn o timer → Heard o new
    → length o.pieces ≤ total
    → HeardWell z total turn o timer new (timer_after turn o new timer) 0
heard-well z total turn o new timer y s h all =
    let clock = heard-clock z turn o new timer s h in
    go (nat_lt o.front new.front) refl (is_waiting new) refl (timer_after turn o new timer) clock.0 clock.1
  where
    within : new.front ≤ o.high
    within = omega (arith, h.front_from, h.from_high, h.high)

    below : o.high ≤ total
    below = omega (arith, s.high_pieces, all)

    now : left z turn 0 (Some turn) ≡ z.whole + 1
    now = omega arith

    advanced-on : (waiting : Bool) → is_waiting new ≡ waiting → nat_lt o.front new.front ≡ true → (timer' : Option ℕ)
        → left z turn new.count timer' ≡ cond waiting (z.whole + 1) 0
        → sender_value z total turn new timer' + ends z.room (is_waiting o) (is_waiting new) ≤ sender_value z total turn o timer + 0
    advanced-on waiting w e timer' l =
        let less : o.front < new.front = grind (arith, nat_tests) in
        let waits : is_waiting o ≡ true = waits-before o new.front less within in
        let fewer : total - new.front < total - o.front = omega (arith, less, within, below) in
        grind (arith, falls-more, left, paid, cond-le) steps 400000

    go : (advances : Bool) → nat_lt o.front new.front ≡ advances → (waiting : Bool) → is_waiting new ≡ waiting → (timer' : Option ℕ)
        → timer' ≡ cond waiting (cond advances (Some turn) timer) None → new.count ≡ cond waiting (cond advances 0 o.count) 0
        → HeardWell z total turn o timer new timer' 0
    go true e true w timer' t c = grind (arith, heard-sends, ticks-now, advanced-on, left, now)
    go true e false w timer' t c = grind (arith, heard-sends, advanced-on, left)
    go false e true w timer' t c = grind (arith, outstanding-same, waiting-less, worth-same, ends-is)
    go false e false w timer' t c = grind (arith, outstanding-same, left-some, worth-same, ends-is)

-- RNR: the other end counts as busy, and the clock begins
pub heard-busy : (z : Rates) (total turn : ℕ) (o new : Outgoing) (timer : Option ℕ) → AreRates z → Sends z turn turn o timer → Heard o new
    → length o.pieces ≤ total
    → HeardWell z total turn o timer (paused_at new) (Some turn) z.quota
heard-busy z total turn o new timer y s h all = assumption (
  heard-sends z turn o new timer (Some turn) s h true 0 (busy-waits (is_outstanding new) new.awaited) (ticks-now z turn),
  go (nat_lt o.front new.front) refl (is_waiting o) refl,
)
  where
    busy-waits : (out awaited : Bool) → true ≡ (out || (awaited || true))
    busy-waits out awaited = grind (arith)

    waits' : is_waiting (paused_at new) ≡ true
    waits' = sym (busy-waits (is_outstanding new) new.awaited)

    go : (advances : Bool) → nat_lt o.front new.front ≡ advances → (waited : Bool) → is_waiting o ≡ waited
        → sender_value z total turn (paused_at new) (Some turn) + ends z.room (is_waiting o)
        (is_waiting (paused_at new)) ≤ sender_value z total turn o timer + z.quota
    go advances e waited w = grind (arith, paid, cond-le, ends-is, waits-before, waits')

-- What each rule makes of the sender's part.

pub meant-range : (low high nr n : ℕ) → meant low high nr ≡ Some n → (low ≤ n) × (n ≤ high)
meant-range low high nr n e = grind (arith)

from_number-choices : (front high n : ℕ) (ns : List ℕ) → AllByRecursion (IsChosen front high) ns
    → AllByRecursion (IsChosen n high) (from_number n ns)
from_number-choices front high n [] all = tt
from_number-choices front high n (m ∷ ms) all = grind (arith, from_number-choices front high n ms all.1)

same-bool : (a b : Bool) (out : Bool) (c : ℕ) → c ≡ cond (((a && not a) || (b && not b)) && out) 0 c
same-bool a b out c = grind (arith)

pub heard-advanced : (z : Rates) (before turn : ℕ) (o : Outgoing) (timer : Option ℕ) (n : ℕ) → Sends z before turn o timer → o.front ≤ n
    → n ≤ o.high → Heard o (advanced o n)
heard-advanced z before turn o timer n s low within = grind (arith, from_number-choices, same-bool, advanced)

pub heard-gone_back : (o new : Outgoing) → Heard o new → Heard o (gone_back new)
heard-gone_back o new h = grind (arith)

-- the wait ends, of an end that awaits a poll
pub heard-wait_ended : (z : Rates) (before turn : ℕ) (o : Outgoing) (timer : Option ℕ) (n : ℕ) → Sends z before turn o timer → o.front ≤ n
    → n ≤ o.high → o.awaited ≡ true → Heard o (wait_ended (advanced o n))
heard-wait_ended z before turn o timer n s low within polled = grind (arith)

pub heard-resumed : (o new : Outgoing) → Heard o new → Heard o (resumed new)
heard-resumed o new h = go new.paused refl
  where
    go : (b : Bool) → new.paused ≡ b
        → Heard o (cond b (record new { paused = false; count = cond (is_outstanding new || new.awaited) new.count 0 }) new)
    go b e = grind (arith)

pub heard-selected : (z : Rates) (before turn : ℕ) (o : Outgoing) (timer : Option ℕ) (n : ℕ) → Sends z before turn o timer → o.front ≤ n
    → n < o.high → Heard o (record o { chosen = with_number n o.chosen })
heard-selected z before turn o timer n s low within = grind (arith, with_number-all, same-bool)

-- an acknowledgement, whether or not it is in the answer that is awaited, and one from which sending goes back
pub acked-heard : (z : Rates) (before turn : ℕ) (a : Account) (final command pf : Bool) (nr n : ℕ)
    → Sends z before turn a.outgoing a.wait.timer → ends_wait command pf a ≡ final → meant a.outgoing.front a.outgoing.high nr ≡ Some n
    → Heard a.outgoing (acked final a.outgoing n) × Heard a.outgoing (acked_back final a.outgoing n)
acked-heard z before turn a final command pf nr n s e m = go final e
  where
    within : (a.outgoing.front ≤ n) × (n ≤ a.outgoing.high)
    within = meant-range a.outgoing.front a.outgoing.high nr n m

    go : (b : Bool) → ends_wait command pf a ≡ b → Heard a.outgoing (acked b a.outgoing n) × Heard a.outgoing (acked_back b a.outgoing n)
    go true f = grind (arith, heard-wait_ended, and-two)
    go false f = let k = heard-advanced z before turn a.outgoing a.wait.timer n s within.0 within.1 in
        (k, heard-gone_back a.outgoing (advanced a.outgoing n) k)
