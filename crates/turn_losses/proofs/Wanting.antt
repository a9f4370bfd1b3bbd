-- Why a Connected end breaks, and what was lost then.
use Rattle.turn_losses.proofs.Names.{◌⊎◌, inl, inr, ◌≡◌, ℕ, ◌+◌, ◌*◌, ◌<◌, ◌≤◌, Bool, true, false, length, arith, sym, ◌∙◌, ap, Some, Err}
use Rattle.turn_losses.proofs.Names.{subst, ◌≢◌, max, List, ◌∷◌, Role, other, of, waits, Arrived, LinkFault, Account, is_connected, speak}
use Rattle.turn_losses.proofs.Names.{IsAllowed, MayPlay, cases_lt, Originator, Answerer, why-broken, Connected, Phase, Turn, Accounts}
use Rattle.turn_losses.proofs.Names.{Hears, arrival, served_at, Link, releases, is_released, SpanLoses, IsStarved, of_arrived, clash}
use Rattle.turn_losses.proofs.Names.{is-true, linked-of, Rates, rates, Sends, Stands, StandTogether, is_linked, EndRun, is-linked}
use Rattle.turn_losses.proofs.Names.{TwoEnds, TimedRun, end_of, past, PeriodLoses, LosesEach, OriginatorWantsAnswers, OriginatorIsStarved}
use Rattle.turn_losses.proofs.Names.{AnswererWantsAnswers, is_poll}
use Rattle.link_account.proofs.Names.{false≢true}
use Rattle.turn_losses.proofs.Periods.{once, loses-of, later-turn}
use Rattle.link_account.proofs.SpeakWays.{Breaks}
use Rattle.turn_losses.proofs.HeardNumber.{CountKept, count-hears}
use Rattle.turn_losses.proofs.PeriodLaws.{two-ends, connected-since}
use Rattle.turn_losses.proofs.Expiries.{period-loses, Uncleared, expiries}
use Rattle.turn_losses.proofs.Acknowledged.{Counts}
use Rattle.turn_losses.proofs.Numbering.{Plays, fits-at, counts-of}
use Rattle.turn_losses.proofs.NumberHear.{begins-roomy}
use Rattle.turn_losses.proofs.InTurn.{InTurn}
use Rattle.turn_losses.proofs.Tracing.{last-turn, timed-run, silent-of, end-turn}
use Rattle.turn_bound.specs.Together.{Together}
use Rattle.turn_losses.proofs.Clocks.{last}
use Rattle.turn_losses.proofs.PollHear.{PollHeard, linked-connected}
use Rattle.turn_losses.proofs.Follows.{numbered-linked}
use Rattle.link_run.proofs.Ending.{allowed-both}

-- the segments' clock expires with the last try
pub record SpendsTries (turn : ℕ) (b : Account) : Type 0 where
  pub set : ℕ
  pub runs : b.wait.timer ≡ Some set
  pub now : turn ≡ set + b.setup.period
  pub count : b.outgoing.count ≡ b.outgoing.tries

-- the break's clock expires with the last try
pub record SpendsBreak (turn : ℕ) (b : Account) : Type 0 where
  pub waiting : waits b.own_breaks ≡ true
  pub now : turn ≡ b.own_breaks.set + b.setup.period
  pub count : b.own_breaks.count ≡ b.setup.tries

-- why a Connected end breaks
pub connected-spends : (turn : ℕ) (release : Bool) (b : Account) (fault : LinkFault) → b.phase ≡ Connected → 1 ≤ b.setup.period
    → speak turn release b ≡ Err fault → SpendsTries turn b ⊎ SpendsBreak turn b
connected-spends turn release b fault e long h = go (why-broken turn release b fault h)
  where
    go : Breaks turn release b fault → SpendsTries turn b ⊎ SpendsBreak turn b
    go v = grind (arith)

pub connected-why : (turn : ℕ) (release : Bool) (b : Account) (fault : LinkFault) → b.phase ≡ Connected → 1 ≤ b.setup.period
    → waits b.own_breaks ≡ false → speak turn release b ≡ Err fault → SpendsTries turn b
connected-why turn release b fault e long none h =
    elim (connected-spends turn release b fault e long h) [ inl x ↦ x | inr x ↦ absurd (false≢true (sym none ∙ x.waiting)) ]

-- what is known of its account before that turn
pub record LastTry (tries period turn : ℕ) (a : Account) : Type 0 where
  pub connected : is_connected a.phase ≡ true
  pub set : ℕ
  pub runs : a.wait.timer ≡ Some set
  pub now : turn ≡ set + period
  pub count : a.outgoing.count ≡ tries

module _ {tries period : ℕ} {link : Link} {role : Role} {turn : ℕ} {a : Account} {arrived : Arrived} {mid b : Account}
    (i : InTurn tries period link role turn a arrived mid b) where
  last-try-of : (is_linked a.phase ≡ false → is_connected mid.phase ≡ true → mid.outgoing.count ≡ 0) → is_connected mid.phase ≡ true
      → SpendsTries turn b → LastTry tries period turn a
  last-try-of begins cm why = from (i.polls.from cm)
    where
      z : Rates
      z = rates tries period

      sends : Sends z (turn + 1) turn b.outgoing b.wait.timer
      sends = (linked-of z (turn + 1) turn role i.phase b i.b_stands (ap is_connected (sym i.heard.phase) ∙ cm)).sends

      mid-count : mid.outgoing.count ≡ tries
      mid-count = ap (λ o. o.count) (sym i.served.longer.outgoing) ∙ (why.count ∙ sends.tries_are)

      from : (is_connected a.phase ≡ true) ⊎ (is_linked a.phase ≡ false) → LastTry tries period turn a
      from (inr u) = let c = begins u cm in absurd (omega (arith, c, mid-count, i.rated.tries))
      from (inl ca) = by (count-hears z arrived turn a mid ca (linked-of z turn turn role a.phase a i.stands ca).sends i.hears)
        where
          by : CountKept a mid → LastTry tries period turn a
          by y = grind (arith, mid-count)

-- in the turn behind a run
module _ (laws : Plays) (w : TimedRun) (may : MayPlay w.link.orig.setup w.link.answ.setup) (t : Turn) (mid : Accounts)
    (hearing : Hears (length w.ts) w.ends t mid) (r : Role) where
  pub last-tries : is_connected (of r mid).phase ≡ true → SpendsTries (length w.ts) (served_at w.link (length w.ts) mid r).account
      → LastTry w.tries w.period (length w.ts) (of r w.ends)
  last-tries = let i = last-turn w t mid hearing r in last-try-of i
      (λ u c. ((begins-roomy (arrival (of r t).heard) (length w.ts) (of r w.ends) (of r mid) u (fits-at laws w.link w.delay w.ts w.ends
      (record { may_play = may; delays = w.keeps.delays; carried = w.carried; run = w.run }) r)
      (subst IsAllowed (ap (λ x. x.offer) (sym i.setup)) (allowed-both w.link may r)) i.hears).so c).2)

  -- so it is where no break waits
  pub last-try : (release : Bool) (fault : LinkFault) → is_connected (of r mid).phase ≡ true
      → waits (served_at w.link (length w.ts) mid r).account.own_breaks ≡ false
      → speak (length w.ts) release (served_at w.link (length w.ts) mid r).account ≡ Err fault
      → LastTry w.tries w.period (length w.ts) (of r w.ends)
  last-try release fault cm quiet breaks = let i = last-turn w t mid hearing r in last-tries cm
      (connected-why (length w.ts) release (served_at w.link (length w.ts) mid r).account fault
      (i.served.phase ∙ is-linked (of r mid).phase cm) (omega (arith, i.b_period, i.long)) quiet breaks)

-- So where both ends stay Connected, something was lost in each of the last periods.
pub wants-answers : (w : TimedRun) → (role : Role) → Counts (length w.ts) (end_of w role) (end_of w (other role))
    → LastTry w.tries w.period (length w.ts) (of role (w.state (length w.ts)))
    → ((s u : ℕ) → s < length w.ts → s ≤ u → u ≤ length w.ts → (w.deed s).made role ≡ true → is_connected (of role (w.state s)).phase ≡ true
    → is_connected (of role (w.state u)).phase ≡ true → is_connected (of (other role) (w.state u)).phase ≡ true)
    → LosesEach w.period w.tries (length w.ts) w.ts
wants-answers w role c l both n less = lost-at (expiries k c w.tries l.set l.connected l.count l.runs l.now n less)
  where
    turns : ℕ
    turns = length w.ts

    e : EndRun
    e = end_of w role

    o : EndRun
    o = end_of w (other role)

    k : TwoEnds w.period turns e o
    k = two-ends w role

    long : 1 ≤ w.period
    long = let p = w.keeps.period_is in omega (arith, p)

    lost-at : (s : ℕ) × (s + (n + 1) * w.period ≡ turns) × Uncleared w.period e s → PeriodLoses w.period turns w.ts n
    lost-at (s, q, x) =
        let same = once w.period n in
        let end : s + w.period ≤ turns = omega (arith, q, same) in
        loses-of w role s n long q (period-loses k c s end x.made x.on
        (λ u a b. both s u (omega (arith, end, long)) a (omega (arith, b, end)) x.made x.connected (x.on u a b)) x.uncleared)

-- An end that gives up was starved.

-- both ends stand together before each turn
pub peer-connected-at : StandTogether → (w : TimedRun) → (u : ℕ) → u ≤ length w.ts → is_connected (w.state u).orig.phase ≡ true
    → is_connected (w.state u).answ.phase ≡ true
peer-connected-at together w u l c = ap is_connected (by.answ (is-linked (w.state u).orig.phase c))
  where
    by : Together (w.state u)
    by = elim (cases_lt u (length w.ts)) [
      | inl y ↦ (let h = w.trace.happens u y in
          together w.tries w.period w.delay w.link (past w.ts u) (w.state u) w.keeps h.run h.carried)
      | inr y ↦ subst Together (sym (ap w.state (omega (arith, l, y)) ∙ w.last))
          (together w.tries w.period w.delay w.link w.ts w.ends w.keeps w.run w.carried)
    ]

pub originator-each : Plays → StandTogether → (w : TimedRun) → MayPlay w.link.orig.setup w.link.answ.setup
    → LastTry w.tries w.period (length w.ts) w.ends.orig → LosesEach w.period w.tries (length w.ts) w.ts
originator-each laws together w may last = wants-answers w Originator (counts-of laws w may Originator)
    (subst (λ (x : Accounts). LastTry w.tries w.period (length w.ts) x.orig) (sym w.last) last)
    (λ s u a b l m c. peer-connected-at together w u l)

pub originator-wants : Plays → StandTogether → OriginatorWantsAnswers
originator-wants laws together tries period delay link ts before t mid segment since kt run cs broken cm quiet =
    originator-each laws together w run.may_play
    (last-try laws w run.may_play t mid broken.hearing Originator (releases link (length ts) mid) _ (ap is_connected cm) quiet
    broken.broken)
  where
    w : TimedRun
    w = timed-run tries period delay link ts before kt run.run run.carried

-- the spans hold those periods
span-loses : (period delay : ℕ) (t : Turn) (ts : List Turn) (n : ℕ) → PeriodLoses period (length ts) ts n
    → SpanLoses period delay (t ∷ ts) n
span-loses period delay t ts n h = grind (arith, later-turn)

-- all but the earliest span, or all of them
pub all-but-one : (tries period : ℕ) (delay : Role → ℕ) (t : Turn) (ts : List Turn) → LosesEach period tries (length ts) ts
    → IsStarved tries period delay (t ∷ ts)
all-but-one tries period delay t ts h = record {
  spared = tries;
  each = λ n few other. span-loses period (max (delay Originator) (delay Answerer)) t ts n (h n (less n few other));
}
  where
    less : (n : ℕ) → n ≤ tries → n ≢ tries → n < tries
    less n few other = grind (arith)

pub originator-starved : Plays → StandTogether → OriginatorIsStarved
originator-starved laws together tries period delay link ts before t mid segment since kt run cs broken cm quiet =
    all-but-one tries period delay t ts
    (originator-wants laws together tries period delay link ts before t mid segment since kt run cs broken cm quiet)

-- A Connected answerer that gives up was starved.
connected-open : (p : Phase) → is_linked p ≡ true → is_released p ≡ false → is_connected p ≡ true
connected-open p l r = grind (arith)

clocked : (z : Rates) (turn : ℕ) (a : Account) → Stands z turn turn Answerer a.phase a → is_connected a.phase ≡ true → (s : ℕ)
    → a.wait.timer ≡ Some s → a.numbered ≡ true
clocked z turn a st c s q = grind (arith, is-true, silent-of)

-- its clock runs once it heard a number, so its peer is Connected or was
pub peer-linked : (w : TimedRun) → (u : ℕ) → (l : u < length w.ts) → is_connected (w.state u).answ.phase ≡ true → (s : ℕ)
    → (w.state u).answ.wait.timer ≡ Some s → is_linked (w.state u).orig.phase ≡ true
peer-linked w u l c s q = numbered-linked w Answerer u (omega (arith, l))
    (clocked (rates w.tries w.period) u (w.state u).answ (end-turn w Answerer u l).in_turn.stands c s q)

pub answerer-each : Plays → (w : TimedRun) → MayPlay w.link.orig.setup w.link.answ.setup → (t : Turn) (mid : Accounts)
    → Hears (length w.ts) w.ends t mid → is_released mid.orig.phase ≡ false → LastTry w.tries w.period (length w.ts) w.ends.answ
    → LosesEach w.period w.tries (length w.ts) w.ts
answerer-each laws w may t mid hearing going last = wants-answers w Answerer (counts-of laws w may Answerer)
    (subst (λ (x : Accounts). LastTry w.tries w.period turns x.answ) (sym w.last) last) both
  where
    turns : ℕ
    turns = length w.ts

    linked-last : is_linked w.ends.orig.phase ≡ true
    linked-last = ap (λ (x : Accounts). is_linked x.orig.phase) (sym w.last)
        ∙ numbered-linked w Answerer turns (omega arith) (ap (λ (x : Accounts). x.answ.numbered) w.last
        ∙ clocked (rates w.tries w.period) turns w.ends.answ (last-turn w t mid hearing Answerer).stands last.connected last.set last.runs)

    heard : PollHeard Originator turns (of_arrived is_poll (arrival t.orig.heard)) w.ends.orig mid.orig
    heard = (last-turn w t mid hearing Originator).polls

    peer-last : is_connected w.ends.orig.phase ≡ true
    peer-last = elim (heard.from (connected-open mid.orig.phase (heard.linked linked-last) going)) [
      | inl c ↦ c
      | inr u ↦ clash (is_linked w.ends.orig.phase) linked-last u
    ]

    both : (s u : ℕ) → s < turns → s ≤ u → u ≤ turns → (w.deed s).made Answerer ≡ true → is_connected (w.state s).answ.phase ≡ true
        → is_connected (w.state u).answ.phase ≡ true → is_connected (w.state u).orig.phase ≡ true
    both s u l low high made c c' =
        let from = ((w.trace.happens s l).polls Answerer).made_from made (linked-connected (w.state s).answ.phase c) in
        connected-since (two-ends w Originator) s turns (omega arith)
        (peer-linked w s l c from.1 from.2) (ap (λ (x : Accounts). is_connected x.orig.phase) w.last ∙ peer-last) u low high

pub answerer-wants : Plays → AnswererWantsAnswers
answerer-wants laws tries period delay link ts before t mid segment since kt run cs broken cm quiet
    going = (each, all-but-one tries period delay t ts each)
  where
    w : TimedRun
    w = timed-run tries period delay link ts before kt run.run run.carried

    each : LosesEach period tries (length ts) ts
    each = answerer-each laws w run.may_play t mid broken.hearing going
        (last-try laws w run.may_play t mid broken.hearing Answerer false _ (ap is_connected cm) quiet broken.broken.1)
