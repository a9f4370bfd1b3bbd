use Rattle.turn_bound.proofs.Names.{◌≡◌, ℕ, ◌+◌, ◌-◌, ◌*◌, ◌<◌, ◌≤◌, List, [], ◌∷◌, length, arith, refl, sym, subst, Account, busy_turns}
use Rattle.turn_bound.proofs.Value.{Rates, rates, cond-le}
use Rattle.turn_bound.proofs.Run.{Link, State, Turn, RunOf, start, Totals, potential, Keeps, AreTogether}
use Rattle.turn_bound.proofs.Lines.{busy-start}
use Rattle.turn_bound.proofs.Falls.{Offered, Sound, Fits, both-turn, sound-after, state_after, after-is, falls}

pub fits : (tries period : ℕ) (link : Link) → Keeps tries period link → Fits (rates tries period) link
fits tries period link k = grind (arith, rates)

sound-start : (z : Rates) (link : Link) → Sound z link 0 (start link)
sound-start z link = grind (arith)

pub own-offered : (a : Account) → Offered (length a.outgoing.pieces) a
own-offered a = record { fits = omega arith; whole = λ e. refl }

-- the invariants hold all through a run
pub sound-run : (z : Rates) (link : Link) (ts : List Turn) (s : State) → Fits z link → RunOf link ts s → Sound z link (length ts) s
sound-run z link [] s f run = subst (Sound z link 0) (sym run) (sound-start z link)
sound-run z link (t ∷ ts) s f (before, run, g) =
    let h = sound-run z link ts before f run in
    let totals : Totals = record { orig = length g.orig_said.account.outgoing.pieces; answ = length g.answ_said.account.outgoing.pieces } in
    let next : Sound z link (length ts + 1) (state_after link (length ts) before g.orig_mid g.answ_mid g.orig_said g.answ_said)
    = sound-after z link totals (length ts) before t s f h g (own-offered g.orig_said.account) (own-offered g.answ_said.account) in
    subst (λ n. Sound z link n s) (omega arith) (subst (Sound z link (length ts + 1)) (sym (after-is link (length ts) before t s g)) next)

-- each turn lowers the potential
pub falls-all : (z : Rates) (link : Link) (totals : Totals) (ts : List Turn) (s : State) → Fits z link
    → ((us : List Turn) (t : State) → RunOf link us t → AreTogether t) → RunOf link ts s
    → Offered totals.orig s.orig → Offered totals.answ s.answ
    → potential z link totals (length ts) s + length ts ≤ potential z link totals 0 (start link)
falls-all z link totals [] s f each run oo oa = grind (arith)
falls-all z link totals (t ∷ ts) s f each (before, run, g) oo oa =
    let after = after-is link (length ts) before t s g in
    let s' = state_after link (length ts) before g.orig_mid g.answ_mid g.orig_said g.answ_said in
    let h = sound-run z link ts before f run in
    let po : Offered totals.orig g.orig_said.account = subst (λ x. Offered totals.orig x.orig) after oo in
    let pa : Offered totals.answ g.answ_said.account = subst (λ x. Offered totals.answ x.answ) after oa in
    let b = both-turn z link totals (length ts) before t s f h g po pa in
    let more = falls-all z link totals ts before f each run b.orig.before b.answ.before in
    let one = falls z link totals (length ts) before t s f h g po pa (each ts before run)
    (subst AreTogether after (each (t ∷ ts) s (before, run, g))) in
    let now : potential z link totals (length ts + 1) s + 1 ≤ potential z link totals (length ts) before =
    subst (λ x. potential z link totals (length ts + 1) x + 1 ≤ potential z link totals (length ts) before) (sym after) one in
    subst (λ n. potential z link totals n s + n ≤ potential z link totals 0 (start link)) (omega arith)
    (one-more (potential z link totals (length ts + 1) s) (potential z link totals (length ts) before) (length ts)
    (potential z link totals 0 (start link)) now more)
  where
    one-more : (p' p n start : ℕ) → p' + 1 ≤ p → p + n ≤ start → p' + (n + 1) ≤ start
    one-more p' p n start h k = omega arith

-- where a run starts
start-numbers : (q g w k to ta bo ba fo fa wo wa : ℕ) → fo ≤ g → fa ≤ g
    → (q * (to - 0) + fo + q * (bo - 0) + q * 4 + (w - 0)) + (q * (ta - 0) + fa + q * (ba - 0) + q * 0 + 0) + k + q *
    (0 + 0 + 2 * (wo + wa))
    ≤ q * (to + ta + (bo + ba) + 2 * (wo + wa) + 4) + w + 2 * g + k
start-numbers q g w k to ta bo ba fo fa wo wa h1 h2 = grind (arith)

pub starts-low : (z : Rates) (link : Link) (totals : Totals) → potential z link totals 0 (start link)
    ≤ z.quota * (totals.orig + totals.answ + (length link.orig.user.breaks + length link.answ.user.breaks) + 2 *
    (busy_turns link.orig.user.busy + busy_turns link.answ.user.busy) + 4) + z.whole + 2 * z.first + z.room
starts-low z link totals = grind (arith, busy-start, start-numbers, cond-le)

pub below : (q g w k n p start total : ℕ) → p + n ≤ start → start ≤ q * (total + 4) + w + 2 * g + k → q ≡ g + w + 1 → k + 2 ≤ w
    → n < q * (total + 6)
below q g w k n p start total h1 h2 h3 h4 = omega arith
