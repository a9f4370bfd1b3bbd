-- An answerer that gives up, also while the originator releases.
use Rattle.std.proofs.Common.{◌⊎◌, inl, inr, ◌≡◌, ◌≢◌, ℕ, zero, suc, ◌+◌, ◌-◌, ◌*◌, ◌<◌, ◌≤◌, ◌&&◌, ◌||◌, not, Bool, true, false, cond}
use Rattle.std.proofs.Common.{nat_eq, max, List, ◌∷◌, length, arith, refl, sym, ◌∙◌, ap, subst, Some, None, Ok, Err}
use Rattle.turn_bound.proofs.Truths.{and-two, clash, is-true}
use Rattle.turn_bound.proofs.Value.{linked-of}
use Rattle.turn_bound.proofs.Speaking.{stopped}
use Rattle.link_account.proofs.Names.{cases_lt, nat_tests, Role, Originator, Answerer, is_originator, Outgoing, ReadsWritten, waits}
use Rattle.link_account.proofs.Names.{Arrived, LinkFault, Spent, Account, is_connected, hear, trying, MayPlay, Said, speak, speak_in}
use Rattle.link_account.proofs.Names.{speak_linked, speak_releasing, other}
use Rattle.link_run.proofs.Names.{Phase, Detecting, Connected, Releasing, Closed, is_released, is_closed, next_break, Link, Accounts, Turn}
use Rattle.link_run.proofs.Names.{Hears, arrival, served_at, releases, Carries}
use Rattle.lapm_sender.specs.Outgoing.{is_whole}
use Rattle.link_run.specs.End.{is_ready}
use Rattle.link_run.specs.Run.{BrokenTurn, finished_at, served_ends}
use Rattle.link_run.specs.Starved.{SpanLoses, IsStarved}
use Rattle.turn_losses.proofs.Periods.{once, later-loses, loses-at, loses-last, loses-of}
use Rattle.turn_losses.specs.Losses.{AnswererWantsAnswers}
use Rattle.turn_losses.proofs.PollHear.{linked-connected}
use Rattle.turn_losses.proofs.Tracing.{timed-run, EndTurn, TurnAt, end-turn, last-turn, starts-fresh}
use Rattle.turn_losses.proofs.Numbering.{Plays, counts-of}
use Rattle.turn_losses.proofs.PeriodLaws.{is-heard, last-heard, two-ends, turned, due-apart, linked-on, answer-comes, NoneLost}
use Rattle.turn_losses.proofs.PeriodLaws.{StayConnected, connected-since}
use Rattle.turn_losses.proofs.Expiries.{LostIn, lost-or-none, period-cleared, Uncleared, expiries}
use Rattle.turn_losses.proofs.HeardNumber.{CountKept, count-hears, PausedHeard, await-hears}
use Rattle.std.specs.Prelude.{nat_lt}
use Rattle.turn_losses.proofs.Acknowledged.{Counts}
use Rattle.turn_losses.proofs.Wanting.{LastTry, last-try, peer-linked}
use Rattle.turn_losses.specs.Tries.{AnswererWantsAnswer}
use Rattle.turn_losses.proofs.Moving.{asks, try-heard, linked-phase, answer-due}
use Rattle.turn_losses.proofs.Trying.{TryTurn, TriesSo, Tried, tried, tries-so}
use Rattle.turn_losses.proofs.Names.{Rates, rates, Sends, Stands, of_arrived, is_lost, PeriodLoses, LosesEach, is_linked, EndRun, TwoEnds}
use Rattle.turn_losses.proofs.Names.{hears_final, TimedRun, end_of}
use Rattle.link_account.proofs.Playing.{is-linked}

abbrev IsFree : Account → Type 0
IsFree a = (a.outgoing.awaited ≡ false) × (a.outgoing.paused ≡ false)

-- A period in which the peer is told to release, but so late that its DISC comes after it. Where no line is lost in it, the answer to its
-- poll came before; so, with nothing outstanding, the clock stops in that turn, unless it was paused since, which made the retry count 0.
pub parted-stops : {period turns : ℕ} {e o : EndRun} → TwoEnds period turns e o → Counts turns e o → (s v : ℕ) → s + period ≤ turns
    → v < s + period → s + period < v + o.delay → Uncleared period e s → StayConnected o s v
    → (e.mid v).outgoing.awaited ≡ cond (hears_final e v) false (e.account v).outgoing.awaited
    → ((e.mid v).outgoing.awaited ≡ false → (e.mid v).outgoing.paused ≡ false → (e.mid v).wait.timer ≡ None)
    → CountKept (e.account v) (e.mid v) → NoneLost e o (s + 1) (period - 1) → ⊥
parted-stops {period} {turns} {e} {o} k c s v within before late un co waits stops kept lost =
    go (answer-comes k s (omega (arith, k.period_is, within)) un.made (λ t l h. un.on t l (omega (arith, h, k.period_is)))
    (λ t l h. co t l (omega (arith, h, k.period_is, late))) (λ t l h. lost t l (omega (arith, h, k.period_is))))
  where
    counts : (t : ℕ) → s < t → t < s + period → (e.mid t).outgoing.count ≡ 0 → ⊥
    counts t a b z = un.uncleared t a b (c.count_is t ∙ z)

    unpaused : (t : ℕ) → s < t → t < s + period → ((e.account t).outgoing.paused ≡ false) ⊎ (hears_final e t ≡ true)
        → (e.mid t).outgoing.paused ≡ false
    unpaused t a b from = by (e.mid t).outgoing.paused refl from
      where
        q : PausedHeard (e.heard t) (e.account t) (e.mid t)
        q = (c.own t (omega (arith, b, within)) (un.on t (omega (arith, a)) (omega (arith, b)))
            (un.on (t + 1) (omega (arith, a)) (omega (arith, b)))).paused

        by : (x : Bool) → (e.mid t).outgoing.paused ≡ x → ((e.account t).outgoing.paused ≡ false) ⊎ (hears_final e t ≡ true)
            → (e.mid t).outgoing.paused ≡ false
        by false f g = f
        by true f (inl g) = elim (q.paused f) [
          | inl h ↦ (let wrong : true ≡ false = sym h ∙ g in cc)
          | inr z ↦ absurd (counts t a b z)
        ]
        by true f (inr g) = elim (q.resumes g) [ inl h ↦ h | inr z ↦ absurd (counts t a b z) ]

    unmade : (t : ℕ) → s < t → t < s + period → (x : Bool) → e.made t ≡ x → e.made t ≡ false
    unmade t a b false f = f
    unmade t a b true f = let far = due-apart k s t a (omega (arith, b, within)) un.made f in absurd (omega (arith, far, b))

    falls : (m f a : Bool) → m ≡ false → (a ≡ false) ⊎ (f ≡ true) → m || cond f false a ≡ false
    falls true f a q r = cc
    falls false true a q r = refl
    falls false false a q (inl r) = r
    falls false false a q (inr r) = cc

    free-next : (t : ℕ) → s < t → t < s + period → (IsFree (e.account t)) ⊎ (hears_final e t ≡ true) → IsFree (e.account (t + 1))
    free-next t a b from = (
      (k.own t (omega (arith, b, within))).awaited ct ct' ∙ falls (e.made t) (hears_final e t) (e.account t).outgoing.awaited
          (unmade t a b (e.made t) refl) (elim from [ inl x ↦ inl x.0 | inr x ↦ inr x ]),
      (c.own t (omega (arith, b, within)) ct ct').paused_on ∙ unpaused t a b (elim from [ inl x ↦ inl x.1 | inr x ↦ inr x ]),
    )
      where
        ct : is_connected (e.account t).phase ≡ true
        ct = un.on t (omega (arith, a)) (omega (arith, b))

        ct' : is_connected (e.account (t + 1)).phase ≡ true
        ct' = un.on (t + 1) (omega (arith, a)) (omega (arith, b))

    go : (u : ℕ) × (s + (e.delay + o.delay) ≤ u) × (u ≤ s + (e.delay + o.delay) + 1) × (hears_final e u ≡ true) → ⊥
    go (u, low, high, h) = ends (subst (λ t. IsFree (e.account t)) (omega (arith, high, late, k.period_is))
        (stays (v - (u + 1)) (omega (arith, high, late, k.period_is))))
      where
        stays : (n : ℕ) → u + 1 + n ≤ v → IsFree (e.account (u + 1 + n))
        stays zero l = subst (λ t. IsFree (e.account t)) (omega arith)
            (free-next u (omega (arith, low, k.own_delay)) (omega (arith, high, k.period_is)) (inr h))
        stays (suc n) l = subst (λ t. IsFree (e.account t)) (omega arith)
            (free-next (u + 1 + n) (omega (arith, low)) (omega (arith, l, before)) (inl (stays n (omega (arith, l)))))

        ends : IsFree (e.account v) → ⊥
        ends f = elim kept [
          | inl z ↦ counts v (omega (arith, late, k.period_is)) before z
          | inr q ↦ (let stopped = stops (waits ∙ falls false (hears_final e v) (e.account v).outgoing.awaited refl (inl f.0))
              (unpaused v (omega (arith, late, k.period_is)) before (inl f.1)) in
              let wrong : None ≡ Some s = sym stopped ∙ (q.1 ∙ un.timer v (omega (arith, late, k.period_is)) (omega (arith, before))) in cc)
        ]

-- In the turn in which the originator is told to release, the answerer's file is wholly acknowledged breaks waits.
pub record Released (link : Link) (t : ℕ) (mid : Accounts) : Type 0 where
  pub done : is_whole (served_at link t mid Answerer).account.outgoing ≡ true
  pub breaks : waits (served_at link t mid Answerer).account.own_breaks ≡ false
  pub connected : is_connected (served_at link t mid Answerer).account.phase ≡ true

pub told-release : (link : Link) (t : ℕ) (mid : Accounts) → releases link t mid ≡ true → Released link t mid
told-release link t mid e = go (is_connected a.phase) refl
    (and-two (finished_at link t (served_ends link t mid) Originator) (finished_at link t (served_ends link t mid) Answerer) e).1
  where
    a : Account
    a = (served_at link t mid Answerer).account

    go : (c : Bool) → is_connected a.phase ≡ c
        → (cond c (is_whole a.outgoing) false && not
        (cond c (waits a.own_breaks) false || is_ready t (next_break link.answ.user.breaks a))) ≡ true → Released link t mid
    go c q f = grind (arith, and-two)

-- where a Connected originator comes to release, it was told
told-says : (turn : ℕ) (release : Bool) (b : Account) (said : Said) → b.phase ≡ Connected → speak turn release b ≡ Ok said
    → is_connected said.account.phase ≡ false → release ≡ true
told-says turn release b said e h n = go release (is_originator b.setup.role) (sym (ap (λ p. speak_in p turn release b) e) ∙ h)
  where
    go : (x y : Bool) → cond (x && y) (speak_releasing turn (trying Releasing turn b)) (speak_linked turn b) ≡ Ok said → x ≡ true
    go true y q = refl
    go false y q = let wrong : true ≡ false = sym (ap is_connected (linked-phase turn b said q ∙ e)) ∙ n in cc

-- The turn in which the originator is told to release: it releases from then on.
pub record ToldIn (w : TimedRun) (o : EndRun) (t : ℕ) : Type 0 where
  pub turn : ℕ
  pub before : turn < t
  pub was : is_linked (o.account turn).phase ≡ true → is_connected (o.account turn).phase ≡ true
  pub since : (u : ℕ) → turn < u → u ≤ t → (o.account u).phase ≡ Releasing
  pub told : Released w.link turn (w.deed turn).mid

longer-told : (w : TimedRun) (o : EndRun) (u : ℕ) → ToldIn w o u → (o.account (u + 1)).phase ≡ Releasing → ToldIn w o (u + 1)
longer-told w o u a now = let b = a.before in record {
  turn = a.turn;
  before = omega (arith, b);
  was = a.was;
  since = λ m lo hi. elim (cases_lt u m) [ inl j ↦ ap (λ i. (o.account i).phase) (omega (arith, j, hi)) ∙ now | inr j ↦ a.since m lo j ];
  told = a.told;
}

whole-is : (o : Outgoing) → is_whole o ≡ true → o.front ≡ length o.pieces
whole-is o e = let x = (and-two o.ended (nat_eq o.front (length o.pieces)) e).1 in grind (arith, nat_tests, x)

pub connected-or : (p : Phase) → is_linked p ≡ true → is_connected p ≡ false → (p ≡ Releasing) ⊎ (p ≡ Closed)
connected-or p l c = grind (arith)

-- when it was told
pub told-at : ReadsWritten → (w : TimedRun) → MayPlay w.link.orig.setup w.link.answ.setup → (u : ℕ) → u ≤ length w.ts
    → (w.state u).orig.phase ≡ Releasing → ToldIn w (end_of w Originator) u
told-at reads w m zero y q = grind (arith, starts-fresh)
told-at reads w m (suc u) y q = subst (ToldIn w (end_of w Originator)) (next u)
    (go (tries-so reads w m Releasing refl u (omega (arith, y)) now) (λ f. told-at reads w m u (omega (arith, y)) f))
  where
    o : EndRun
    o = end_of w Originator

    next : (m : ℕ) → m + 1 ≡ suc m
    next m = omega arith

    now : (o.account (u + 1)).phase ≡ Releasing
    now = ap (λ m. (o.account m).phase) (next u) ∙ q

    g : EndTurn w Originator u
    g = end-turn w Originator u (omega (arith, y))

    i : TurnAt w Originator u
    i = g.in_turn

    go : TryTurn w.period u Releasing (o.heard u) (o.slot u) (o.account u) (o.account (u + 1))
        → ((o.account u).phase ≡ Releasing → ToldIn w o u) → ToldIn w o (u + 1)
    go (inr (inl ((g, _), _, _, _, _))) again = longer-told w o u (again g) now
    go (inr (inr ((g, _), _, _, _))) again = longer-told w o u (again g) now
    go (inl (anew, set, count, sends)) again = record {
      turn = u;
      before = omega arith;
      was = was;
      since = λ m lo hi. ap (λ j. (o.account j).phase) (omega (arith, lo, hi)) ∙ now;
      told = told-release w.link u (w.deed u).mid told;
    }
      where
        connected-mid : is_connected (o.mid u).phase ≡ true
        connected-mid = is-true (is_connected (o.mid u).phase)
            (λ f. either (connected-or (o.mid u).phase (sym g.linked ∙ ap is_linked now) f))
          where
            either : ((o.mid u).phase ≡ Releasing) ⊎ ((o.mid u).phase ≡ Closed) → ⊥
            either (inl f) = elim (try-heard (o.heard u) u (o.account u) (o.mid u) i.role_is i.hears Releasing refl f) [
              | inl m ↦ anew m.0
              | inr z ↦ z.1 refl
            ]
            either (inr f) = clash (is_closed (o.mid u).phase) (ap is_closed f) (w.trace.happens u (omega (arith, y))).going

        told : releases w.link u (w.deed u).mid ≡ true
        told = told-says u (releases w.link u (w.deed u).mid) (o.served u) g.said
            (i.served.phase ∙ is-linked (o.mid u).phase connected-mid) g.says
            (ap (λ (a : Account). is_connected a.phase) (sym g.after) ∙ ap is_connected now)

        was : is_linked (o.account u).phase ≡ true → is_connected (o.account u).phase ≡ true
        was f = elim (i.polls.from connected-mid) [ inl m ↦ m | inr m ↦ clash (is_linked (o.account u).phase) f m ]

-- where the answerer is told in a turn that it is whole, its clock runs for a poll or a pause alone
whole-stops : (w : TimedRun) → (v : ℕ) → v < length w.ts → Released w.link v (w.deed v).mid → (w.deed v).mid.answ.outgoing.awaited ≡ false
    → (w.deed v).mid.answ.outgoing.paused ≡ false → (w.deed v).mid.answ.wait.timer ≡ None
whole-stops w v b told f g = stopped m.wait.timer (sends.cause ∙ still (nat_lt m.outgoing.front m.outgoing.high) idle)
  where
    m : Account
    m = (w.deed v).mid.answ

    i : TurnAt w Answerer v
    i = (end-turn w Answerer v b).in_turn

    sends : Sends (rates w.tries w.period) (v + 1) v m.outgoing m.wait.timer
    sends = (linked-of (rates w.tries w.period) (v + 1) v Answerer i.phase m i.heard.stands
        (ap is_connected (sym i.heard.phase) ∙ (ap is_connected (sym i.served.phase) ∙ told.connected))).sends

    idle : nat_lt m.outgoing.front m.outgoing.high ≡ false
    idle =
        let all = whole-is (served_at w.link v (w.deed v).mid Answerer).account.outgoing told.done in
        let front = ap (λ o. o.front) i.served.longer.outgoing in let longer = i.served.longer.longer in let high = sends.high_pieces in
        let done : m.outgoing.high ≤ m.outgoing.front = omega (arith, all, front, longer, high) in grind (arith, nat_tests, done)

    still : (x : Bool) → x ≡ false → x || (m.outgoing.awaited || m.outgoing.paused) ≡ false
    still b q = grind (arith)

disc-heard : (arrived : Arrived) (turn : ℕ) (a mid : Account) → a.setup.role ≡ Answerer → is_connected a.phase ≡ true
    → of_arrived (asks Releasing) arrived ≡ true → hear turn arrived a ≡ Ok mid → is_connected mid.phase ≡ false
disc-heard arrived turn a mid r c k h = grind (arith, answer-due, is-linked)

disc-closes : (w : TimedRun) → (u : ℕ) → u < length w.ts → is_connected (w.state u).answ.phase ≡ true
    → is_connected (w.state (u + 1)).answ.phase ≡ true → of_arrived (asks Releasing) (arrival (w.deed u).turn.answ.heard) ≡ true → ⊥
disc-closes w u b f g k =
    let s = end-turn w Answerer u b in
    clash (is_connected (w.deed u).mid.answ.phase) (s.connected g) (disc-heard (arrival (w.deed u).turn.answ.heard) u (w.state u).answ
    (w.deed u).mid.answ s.in_turn.role_is f k s.in_turn.hears)

-- A run in which an answerer gives up that waits for no break's answer, while the originator releases.
pub parted-each : Plays → ReadsWritten → (w : TimedRun) → MayPlay w.link.orig.setup w.link.answ.setup → (t : Turn) (mid : Accounts)
    → Carries w.delay w.ts t → Hears (length w.ts) w.ends t mid → is_connected mid.answ.phase ≡ true → mid.orig.phase ≡ Releasing
    → LastTry w.tries w.period (length w.ts) w.ends.answ → LosesEach w.period w.tries (length w.ts) (t ∷ w.ts)
parted-each laws reads w may t mid cs hearing cm om last n less = at-expiry
    (expiries k c w.tries l.set l.connected l.count l.runs l.now n less)
  where
    turns : ℕ
    turns = length w.ts

    z : Rates
    z = rates w.tries w.period

    e : EndRun
    e = end_of w Answerer

    o : EndRun
    o = end_of w Originator

    k : TwoEnds w.period turns e o
    k = two-ends w Answerer

    k' : TwoEnds w.period turns o e
    k' = turned k

    c : Counts turns e o
    c = counts-of laws w may Answerer

    p : w.period ≡ 2 * (e.delay + o.delay) + 16
    p = k.period_is

    d' : 1 ≤ o.delay
    d' = k.other_delay

    long : 1 ≤ w.period
    long = omega (arith, p)

    l : LastTry w.tries w.period turns (w.state turns).answ
    l = subst (λ (y : Accounts). LastTry w.tries w.period turns y.answ) (sym w.last) last

    -- from a turn on in which the end is Connected it stays so
    on-from : (s : ℕ) → is_connected (e.account s).phase ≡ true → StayConnected e s turns
    on-from s h = connected-since k s turns (omega arith) (linked-connected (e.account s).phase h) l.connected

    -- the originator releases as the last turn begins
    releasing-last : (o.account turns).phase ≡ Releasing
    releasing-last = ap (λ (y : Accounts). y.orig.phase) w.last
        ∙ elim (try-heard (arrival t.orig.heard) turns w.ends.orig mid.orig (last-turn w t mid hearing Originator).role_is
        (hearing Originator).hears Releasing refl om) [ inl y ↦ y.0 | inr z ↦ absurd (z.1 refl) ]

    tries-on : TriesSo w.period turns Releasing o
    tries-on = tries-so reads w may Releasing refl

    not-first : (o.account 0).phase ≡ Releasing → ⊥
    not-first q = let wrong : Releasing ≡ Detecting = sym q ∙ ap (λ (a : Account). a.phase) (starts-fresh w Originator) in cc

    try-at : (u : ℕ) → u ≤ turns → (o.account u).phase ≡ Releasing → Tried w.period Releasing o u
    try-at = tried w.period turns Releasing o long tries-on not-first

    v : ToldIn w o turns
    v = told-at reads w may turns (omega arith) releasing-last

    -- its DISC was lost: in a turn of the run, or in the last one
    disc-lost : (s : ℕ) → s + (n + 1) * w.period ≡ turns → s + w.period ≤ turns → is_connected (e.account s).phase ≡ true
        → v.turn + o.delay ≤ s + w.period → PeriodLoses w.period turns (t ∷ w.ts) n
    disc-lost s q within cs' soon = arrives-at (cases_lt (i.set + o.delay) turns)
      where
        ce-late : (u : ℕ) → s < u → u ≤ turns → is_connected (e.account u).phase ≡ true
        ce-late u lo hi = on-from s cs' u (omega (arith, lo)) hi

        y : ℕ
        y = s + w.period - o.delay

        i : Tried w.period Releasing o (y + 1)
        i = try-at (y + 1) (omega (arith, within, p, d', soon)) (v.since (y + 1) (omega (arith, soon, p)) (omega (arith, within, p, d')))

        early : i.set ≤ y
        early = let b = i.before in omega (arith, b)

        late : s < i.set + o.delay
        late = let b = i.within in omega (arith, b, p)

        in-time : i.set + o.delay ≤ s + w.period
        in-time = omega (arith, early, p)

        arrives-at : (i.set + o.delay < turns) ⊎ (turns ≤ i.set + o.delay) → PeriodLoses w.period turns (t ∷ w.ts) n
        arrives-at (inl b) = loses-at w t s n q (i.set + o.delay) late in-time b Answerer
            (is-true (e.loses (i.set + o.delay)) (λ f. disc-closes w (i.set + o.delay) b (ce-late (i.set + o.delay) late (omega (arith, b)))
            (ce-late (i.set + o.delay + 1) (omega (arith, late)) (omega (arith, b)))
            (is-heard (asks Releasing) k.hears i.set b f ∙ i.sends)))
        arrives-at (inr b) = behind (omega (arith, in-time, within, b))
          where
            behind : i.set + o.delay ≡ turns → PeriodLoses w.period turns (t ∷ w.ts) n
            behind same = loses-last w.period t w.ts s n long q (omega (arith, within, same, in-time)) Answerer
                (is-true (is_lost t.answ.heard) (λ f. clash (is_connected mid.answ.phase) cm (disc-heard (arrival t.answ.heard) turns
                w.ends.answ mid.answ (last-turn w t mid hearing Answerer).role_is last.connected
                (last-heard (asks Releasing) w t cs Answerer i.set same f ∙ i.sends) (hearing Answerer).hears)))

    at-expiry : (s : ℕ) × (s + (n + 1) * w.period ≡ turns) × Uncleared w.period e s → PeriodLoses w.period turns (t ∷ w.ts) n
    at-expiry (s, q', un) = by (cases_lt (s + w.period) (v.turn + o.delay))
      where
        within : s + w.period ≤ turns
        within = let m = once w.period n in omega (arith, q', m)

        by : (s + w.period < v.turn + o.delay) ⊎ (v.turn + o.delay ≤ s + w.period) → PeriodLoses w.period turns (t ∷ w.ts) n
        by (inr soon) = disc-lost s q' within un.connected soon
        by (inl late) = on (lost-or-none e o (s + 1) (w.period - 1))
          where
            linked-s : is_linked (o.account s).phase ≡ true
            linked-s =
                let from = (k.own s (omega (arith, within, long))).made_from un.made (linked-connected (e.account s).phase un.connected) in
                peer-linked w s (omega (arith, within, long)) un.connected from.1 from.2

            co : StayConnected o s v.turn
            co = λ u lo hi. connected-since k' s v.turn (omega (arith, v.before)) linked-s
                (v.was (linked-on k' s v.turn (omega (arith, lo, hi)) (omega (arith, v.before)) linked-s)) u lo hi

            on : LostIn e o (s + 1) (w.period - 1) ⊎ NoneLost e o (s + 1) (w.period - 1) → PeriodLoses w.period turns (t ∷ w.ts) n
            on (inl lost) = later-loses w.period t w.ts n (loses-of w Answerer s n long q' lost)
            on (inr none) = absurd (elim (cases_lt v.turn (s + w.period)) [
              | inl b ↦ parted-stops k c s v.turn within b late un co
                  (await-hears (e.heard v.turn) v.turn (e.account v.turn) (e.mid v.turn) at-v i.hears)
                  (whole-stops w v.turn v.before v.told) (count-hears z (e.heard v.turn) v.turn (e.account v.turn) (e.mid v.turn) at-v
                  (linked-of z v.turn v.turn Answerer (e.account v.turn).phase (e.account v.turn) i.stands at-v).sends i.hears) none
              | inr g ↦ (let r = period-cleared k c s within un.made un.on (λ u lo hi. co u lo (omega (arith, hi, g))) none in
                  un.uncleared r.0 r.1 r.2 r.3)
            ])
              where
                i : TurnAt w Answerer v.turn
                i = (end-turn w Answerer v.turn v.before).in_turn

                at-v : is_connected (e.account v.turn).phase ≡ true
                at-v = on-from s un.connected v.turn (omega (arith, late, p)) (omega (arith, v.before))

-- so the run was starved
pub all-but-last : (tries period : ℕ) (delay : Role → ℕ) (t : Turn) (ts : List Turn) → LosesEach period tries (length ts) (t ∷ ts)
    → IsStarved tries period delay (t ∷ ts)
all-but-last tries period delay t ts h = record { spared = tries; each = λ n few other. span n (h n (less n few other)) }
  where
    less : (n : ℕ) → n ≤ tries → n ≢ tries → n < tries
    less n few other = elim (cases_lt n tries) [ inl l ↦ l | inr g ↦ absurd (other (omega (arith, few, g))) ]

    span : (n : ℕ) → PeriodLoses period (length ts) (t ∷ ts) n → SpanLoses period (max (delay Originator) (delay Answerer)) (t ∷ ts) n
    span n h = grind (arith)

-- only a Connected answerer gives up
pub answerer-connected : (z : Rates) (before turn : ℕ) (b : Account) (q : Phase) (fault : LinkFault) → Stands z before turn Answerer q b
    → b.phase ≡ q → b.setup.role ≡ Answerer → speak turn false b ≡ Err fault → is_connected b.phase ≡ true
answerer-connected z before turn b q fault st e r h = grind (arith)

pub answerer-gives-up : (w : TimedRun) (t : Turn) (mid : Accounts) (fault : LinkFault) → BrokenTurn w.link w.ts w.ends t mid Answerer fault
    → is_connected mid.answ.phase ≡ true
answerer-gives-up w t mid fault broken =
    let i = last-turn w t mid broken.hearing Answerer in
    ap is_connected (sym i.served.phase)
    ∙ answerer-connected (rates w.tries w.period) (length w.ts + 1) (length w.ts) (served_at w.link (length w.ts) mid Answerer).account
    i.phase fault i.b_stands (i.served.phase ∙ i.heard.phase) i.b_role broken.broken.1

pub answerer-wants-answer : Plays → ReadsWritten → AnswererWantsAnswers → AnswererWantsAnswer
answerer-wants-answer laws reads wants tries period delay link ts before t mid segment since kt run cs broken
    quiet = (each, all-but-last tries period delay t ts each)
  where
    w : TimedRun
    w = timed-run tries period delay link ts before kt run.run run.carried

    cm : is_connected mid.answ.phase ≡ true
    cm = answerer-gives-up w t mid (Spent segment since) broken

    each : LosesEach period tries (length ts) (t ∷ ts)
    each n less = by (is_released mid.orig.phase) refl
      where
        by : (y : Bool) → is_released mid.orig.phase ≡ y → PeriodLoses period (length ts) (t ∷ ts) n
        by false f = later-loses period t ts n
            ((wants tries period delay link ts before t mid segment since kt run cs broken (is-linked mid.answ.phase cm) quiet f).0 n
            less)
        by true f = parted-each laws reads w run.may_play t mid cs broken.hearing cm (only-releasing mid.orig.phase f broken.going)
            (last-try laws w run.may_play t mid broken.hearing Answerer false _ cm quiet broken.broken.1) n less
          where
            only-releasing : (q : Phase) → is_released q ≡ true → is_closed q ≡ false → q ≡ Releasing
            only-releasing Releasing g h = refl
            only-releasing q g h = cc
