use Rattle.turn_bound.proofs.Names.{ℕ, ◌+◌, ◌-◌, ◌*◌, ◌<◌, ◌≤◌, List, length, arith, mul-le-mul_right, busy_turns}
use Rattle.turn_bound.proofs.Value.{Rates, rates}
use Rattle.turn_bound.proofs.Run.{Link, State, Turn, RunOf, start, Totals, potential, Keeps, AreTogether, most_turns}
use Rattle.turn_bound.proofs.Ending.{fits, own-offered, falls-all, starts-low, below}
use Rattle.turn_bound.proofs.Meeting.{together-run}

pub stands-together : (tries period : ℕ) (link : Link) (ts : List Turn) (s : State) → Keeps tries period link → RunOf link ts s
    → AreTogether s
stands-together tries period link ts s k run = together-run (rates tries period) link ts s (fits tries period link k) run

pub ends-soon : (tries period : ℕ) (link : Link) (ts : List Turn) (s : State) → Keeps tries period link → RunOf link ts s
    → length ts < most_turns tries period link s
ends-soon tries period link ts s k run =
    let z : Rates = rates tries period in
    let f = fits tries period link k in
    let totals : Totals = record { orig = length s.orig.outgoing.pieces; answ = length s.answ.outgoing.pieces } in
    let all = falls-all z link totals ts s f (λ us t r. together-run z link us t f r) run (own-offered s.orig) (own-offered s.answ) in
    below z.quota z.first z.whole z.room (length ts) (potential z link totals (length ts) s) (potential z link totals 0 (start link))
    (length s.orig.outgoing.pieces + length s.answ.outgoing.pieces + (length link.orig.user.breaks + length link.answ.user.breaks) + 2 *
    (busy_turns link.orig.user.busy + busy_turns link.answ.user.busy))
    all (starts-low z link totals) f.rates.quota (wide tries period k.some_tries (omega (arith, k.period_is)))
  where
    wide : (n p : ℕ) → 1 ≤ n → 1 ≤ p → 2 * p - 2 + 2 ≤ (n + 1) * p
    wide n p h one = let more : 2 * p ≤ (n + 1) * p = mul-le-mul_right {m = 2} {n = n + 1} p (omega (arith, h)) in omega (arith, more, one)
