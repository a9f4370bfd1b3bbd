-- Where the originator sees no pattern, something was lost in each period.
use Rattle.std.proofs.Common.{◌⊎◌, inl, inr, ◌≡◌, ℕ, zero, suc, ◌+◌, ◌-◌, ◌*◌, ◌<◌, ◌≤◌, Bool, true, false, cond, length, arith, sym}
use Rattle.std.proofs.Common.{◌∙◌, ap, Option, Some, Result, Ok, Err, List, [], ◌∷◌}
use Rattle.link_account.proofs.Names.{cases_lt, Originator, Answerer, Arrived, LinkFault, NotDetected, Account, hear, arrives, Said, says}
use Rattle.link_account.proofs.Names.{speak, Role, Heard, Passed}
use Rattle.link_run.proofs.Names.{Detecting, Connected, Releasing, Answer, User, is_busy, is_released, Accounts, arrival, served_at}
use Rattle.link_run.proofs.Names.{releases, Link, Turn, RunOf, IsCarried}
use Rattle.link_account.specs.Speak.{else_says, answering}
use Rattle.turn_bound.specs.Spent.{SpendsOnTime}
use Rattle.link_run.proofs.Speaking.{speaks-phase}
use Rattle.turn_losses.proofs.Periods.{once, times, loses-of}
use Rattle.turn_losses.specs.Losses.{OriginatorWantsPattern, UndetectedIsStarved, PassesNoPattern, UndetectedOnTime}
use Rattle.link_account.proofs.HearWays.{numbers-alike}
use Rattle.link_account.proofs.SpeakWays.{why-broken}
use Rattle.turn_losses.proofs.Tracing.{timed-run, end-turn, last-turn}
use Rattle.turn_losses.proofs.PeriodLaws.{two-ends, NoneLost}
use Rattle.turn_losses.proofs.Expiries.{LostIn, lost-or-none}
use Rattle.turn_losses.proofs.Wanting.{all-but-one}
use Rattle.turn_losses.proofs.Names.{served_account, Served, serves-all, PeriodLoses, EndRun, TwoEnds, TimedRun, end_of, KeepsTime}
use Rattle.lapm_frames.specs.declared.seen.Seen.TheVariants as seens
use Rattle.lapm_frames.specs.declared.sent.Sent.TheVariants as slots
use Rattle.lapm_frames.specs.declared.arrived.Arrived.TheVariants as arrivals
use Rattle.link_account.specs.declared.answer.Answer.TheVariants as answers
use Rattle.link_account.proofs.HearWays as HearWays
use Rattle.turn_losses.proofs.InTurn.{in-turn}

-- an end that is Detecting after it spoke was so before
pub said-from : (turn : ℕ) (release : Bool) (b : Account) (said : Said) → speak turn release b ≡ Ok said → said.account.phase ≡ Detecting
    → b.phase ≡ Detecting
said-from turn release b said h d = elim (speaks-phase turn release b said h) [
  | inl e ↦ sym e ∙ d
  | inr x ↦ (let wrong : Releasing ≡ Detecting = sym x.1 ∙ d in cc)
]

-- an originator that is Detecting sends its pattern
sends-odp : (turn : ℕ) (release : Bool) (b : Account) (said : Said) → b.phase ≡ Detecting → b.setup.role ≡ Originator
    → speak turn release b ≡ Ok said → said.sent ≡ slots.Odp
sends-odp turn release b said e r h = grind (arith)

-- and hears no pattern of the answerer's
abbrev hears-ok : Account → Result Account LinkFault
hears-ok a = Ok a

pub heard-from : (arrived : Arrived) (turn : ℕ) (a mid : Account) → a.setup.role ≡ Originator → hear turn arrived a ≡ Ok mid
    → mid.phase ≡ Detecting → (a.phase ≡ Detecting) × (arrived ≡ arrivals.Pattern seens.Adp → ⊥)
heard-from arrived turn a mid r h = HearWays.by-ways
    (λ x b. b.phase ≡ Detecting → (a.phase ≡ Detecting) × (x ≡ arrivals.Pattern seens.Adp → ⊥)) turn a (record {
      nothing = λ d. (d, λ q. cc);
      linked = grind (arith, late, numbers-alike);
      early = grind (arith, moved);
    }) arrived mid h
  where
    late : {A : Type 0} → a.phase ≡ Connected → a.phase ≡ Detecting → A
    late p d = let wrong : Connected ≡ Detecting = sym p ∙ d in cc

    moved : a.phase ≡ Detecting → hear turn (arrivals.Pattern seens.Adp) a ≡ Ok a → ⊥
    moved d f = grind (arith)

abbrev says-ok : Said → Result Said LinkFault
says-ok said = Ok said

-- An answerer that is Detecting and hears nothing but the originator's pattern stays so, and answers it at once.
answers-odp : (user : User) (turn : ℕ) (arrived : Arrived) (a mid : Account) (released release : Bool) (said : Said) → a.phase ≡ Detecting
    → a.setup.role ≡ Answerer → mid.setup.role ≡ Answerer → (arrived ≡ arrivals.Nothing) ⊎ (arrived ≡ arrivals.Pattern seens.Odp)
    → hear turn arrived a ≡ Ok mid → speak turn release (served_account user turn released mid) ≡ Ok said
    → (said.account.phase ≡ Detecting) × (arrived ≡ arrivals.Pattern seens.Odp → said.sent ≡ slots.Adp)
answers-odp user turn arrived a mid released release said e r r' only hears speaks = heard only
  where
    b : Account
    b = served_account user turn released mid

    s : Served turn (length user.breaks) (is_busy turn user.busy) mid b
    s = serves-all user turn released mid

    spoken : b.phase ≡ Detecting → (m : Option Answer) → b.owes.answer ≡ m
        → (else_says (answering m b) (says slots.Mark b) ≡ said) × (said.account.phase ≡ Detecting)
    spoken d m q = grind (arith, b, s, says)

    nothing : arrived ≡ arrivals.Nothing → mid.phase ≡ Detecting
    nothing q = grind (arith)

    odp : arrived ≡ arrivals.Pattern seens.Odp → (mid.phase ≡ Detecting) × (mid.owes.answer ≡ Some answers.Adp)
    odp q = grind (arith)

    heard : (arrived ≡ arrivals.Nothing) ⊎ (arrived ≡ arrivals.Pattern seens.Odp)
        → (said.account.phase ≡ Detecting) × (arrived ≡ arrivals.Pattern seens.Odp → said.sent ≡ slots.Adp)
    heard given = grind (arith, spoken, s, nothing, b, odp)

-- only an end that is Detecting breaks so
pub err-detecting : (turn : ℕ) (release : Bool) (b : Account) → speak turn release b ≡ Err NotDetected → b.phase ≡ Detecting
err-detecting turn release b h = grind (arith, why-broken)

pub wants-pattern : SpendsOnTime → OriginatorWantsPattern
wants-pattern spends tries period delay link ts before t mid kt run c broken number less =
    at-number (times period (number + 1) (tries + 1) (omega (arith, less)))
  where
    turns : ℕ
    turns = length ts

    w : TimedRun
    w = timed-run tries period delay link ts before kt run c

    e : EndRun
    e = end_of w Originator

    o : EndRun
    o = end_of w Answerer

    k : TwoEnds period turns e o
    k = two-ends w Originator

    -- the originator is Detecting all through
    last : before.orig.phase ≡ Detecting
    last =
        let i = last-turn w t mid broken.hearing Originator in
        (heard-from (arrival t.orig.heard) turns before.orig mid.orig i.role_is i.hears
        (sym i.served.phase ∙ err-detecting turns (releases link turns mid) (served_at link turns mid Originator).account broken.broken)).0

    one-turn : (u : ℕ) → u < turns → (w.state (u + 1)).orig.phase ≡ Detecting
        → ((w.state u).orig.phase ≡ Detecting) × (e.slot u ≡ slots.Odp) × (e.heard u ≡ arrivals.Pattern seens.Adp → ⊥)
    one-turn u l d =
        let g = end-turn w Originator u l in
        let b-detects = said-from u (releases link u (w.deed u).mid) (e.served u) g.said g.says
        (ap (λ (x : Account). x.phase) (sym g.after) ∙ d) in
        let f = heard-from (e.heard u) u (e.account u) (e.mid u) g.in_turn.role_is g.in_turn.hears
        (sym g.in_turn.served.phase ∙ b-detects) in (
          f.0,
          g.slot ∙ sends-odp u (releases link u (w.deed u).mid) (e.served u) g.said b-detects g.in_turn.b_role g.says,
          f.1,
        )

    down : (n u : ℕ) → u + n ≡ turns → (w.state u).orig.phase ≡ Detecting
    down zero u q = ap (λ (x : Accounts). x.orig.phase) (ap w.state (same u q) ∙ w.last) ∙ last
      where
        same : (x : ℕ) → x + 0 ≡ turns → x ≡ turns
        same x q = omega (arith, q)
    down (suc n) u q = (one-turn u (omega (arith, q)) (down n (u + 1) (omega (arith, q)))).0

    facts : (u : ℕ) → u < turns
        → ((w.state u).orig.phase ≡ Detecting) × (e.slot u ≡ slots.Odp) × (e.heard u ≡ arrivals.Pattern seens.Adp → ⊥)
    facts u l = one-turn u l (down (turns - (u + 1)) (u + 1) (omega (arith, l)))

    -- so nothing but its pattern reaches the answerer
    only-odp : (u : ℕ) → u < turns → (o.heard u ≡ arrivals.Nothing) ⊎ (o.heard u ≡ arrivals.Pattern seens.Odp)
    only-odp u l = elim (cases_lt u e.delay) [
      | inl y ↦ inl ((k.is_heard u l).early y)
      | inr g ↦ late g (o.loses u) ((k.is_heard u l).late g)
    ]
      where
        late : e.delay ≤ u → (b : Bool) → o.heard u ≡ cond b arrivals.Nothing (arrives (e.slot (u - e.delay)))
            → (o.heard u ≡ arrivals.Nothing) ⊎ (o.heard u ≡ arrivals.Pattern seens.Odp)
        late g true q = inl q
        late g false q = inr (q ∙ ap arrives (facts (u - e.delay) (omega (arith, g, l))).1)

    answers-turn : (u : ℕ) → u < turns → (w.state u).answ.phase ≡ Detecting
        → ((w.state (u + 1)).answ.phase ≡ Detecting) × (o.heard u ≡ arrivals.Pattern seens.Odp → o.slot u ≡ slots.Adp)
    answers-turn u l d =
        let g = end-turn w Answerer u l in
        let f = answers-odp link.answ.user u (o.heard u) (o.account u) (o.mid u) (is_released (w.deed u).mid.orig.phase) false g.said d
        g.in_turn.role_is (ap (λ x. x.role) g.in_turn.mid_setup ∙ kt.roles Answerer) (only-odp u l) g.in_turn.hears g.says in
        (ap (λ (x : Account). x.phase) g.after ∙ f.0, λ q. g.slot ∙ f.1 q)

    up : (u : ℕ) → u ≤ turns → (w.state u).answ.phase ≡ Detecting
    up zero l = ap (λ (x : Accounts). x.answ.phase) w.trace.starts
    up (suc u) l = grind (arith, up u (omega (arith, l)), answers-turn)

    p : period ≡ 2 * (delay Originator + delay Answerer) + 16
    p = kt.period_is

    d : 1 ≤ delay Originator
    d = kt.delays Originator

    -- a pattern and its answer cross unless something is lost
    no-answer : (y : ℕ) → y + period ≤ turns → NoneLost e o (y + 1) (period - 1) → ⊥
    no-answer y l none = (facts x (omega (arith, l, p))).2 hears
      where
        v : ℕ
        v = y + delay Originator

        x : ℕ
        x = v + delay Answerer

        back : (a b : ℕ) → a + b - b ≡ a
        back a b = omega arith

        reaches : o.heard v ≡ arrivals.Pattern seens.Odp
        reaches =
            (k.is_heard v (omega (arith, l, p))).late (omega arith)
            ∙ (ap (λ b. cond b arrivals.Nothing (arrives (e.slot (v - delay Originator)))) (none v (omega (arith, d)) (omega (arith, p))).1
            ∙ ap arrives ((facts (v - delay Originator) (omega (arith, l, p))).1))

        answered : o.slot v ≡ slots.Adp
        answered = (answers-turn v (omega (arith, l, p)) (up v (omega (arith, l, p)))).1 reaches

        hears : e.heard x ≡ arrivals.Pattern seens.Adp
        hears =
            (k.hears x (omega (arith, l, p))).late (omega arith)
            ∙ (ap (λ b. cond b arrivals.Nothing (arrives (o.slot (x - delay Answerer)))) (none x (omega (arith, d)) (omega (arith, p))).0
            ∙ ap arrives (ap o.slot (back v (delay Answerer)) ∙ answered))

    long-enough : (tries + 1) * period ≤ turns
    long-enough = spends tries period delay link ts before t mid Originator NotDetected kt run c broken

    at-number : (number + 1) * period ≤ (tries + 1) * period → PeriodLoses period turns ts number
    at-number less' = go (lost-or-none e o (y + 1) (period - 1))
      where
        y : ℕ
        y = turns - (number + 1) * period

        room : y + period ≤ turns
        room = let g = long-enough in omega (arith, less', g, once period number)

        go : LostIn e o (y + 1) (period - 1) ⊎ NoneLost e o (y + 1) (period - 1) → PeriodLoses period turns ts number
        go (inr none) = absurd (no-answer y room none)
        go (inl lost) = let g = long-enough in
            loses-of w Originator y number (omega (arith, p)) (omega (arith, less', g)) lost

pub undetected-starved : SpendsOnTime → UndetectedIsStarved
undetected-starved spends tries period delay link ts before t mid kt run c broken =
    all-but-one tries period delay t ts
    (λ n l. wants-pattern spends tries period delay link ts before t mid kt run c broken n (omega (arith, l)))

-- An originator that sees no pattern gives up on time.

-- what is heard is no pattern of the answerer's
none-passed : (heard : Heard) → (arrival heard ≡ arrivals.Pattern seens.Adp → ⊥) → heard ≡ Passed slots.Adp → ⊥
none-passed heard none e = none (ap arrival e)

-- an originator that sends its pattern does so within the periods of its tries
sends-early : (turn : ℕ) (release : Bool) (b : Account) (said : Said) → b.phase ≡ Detecting → b.setup.role ≡ Originator
    → speak turn release b ≡ Ok said → turn < (b.setup.tries + 1) * b.setup.period
sends-early turn release b said e r h = grind (arith)

-- as long as it is Detecting
early : (tries period : ℕ) (delay : Role → ℕ) (link : Link) (ts : List Turn) (ends : Accounts) → KeepsTime tries period delay link
    → RunOf link ts ends → IsCarried delay ts → ends.orig.phase ≡ Detecting
    → (length ts ≤ (tries + 1) * period) × PassesNoPattern ts
early tries period delay link [] ends kt run c d = (omega arith, tt)
early tries period delay link (t ∷ ts) ends kt (before, run, g) (c, carried) d =
    let turn = length ts in
    let s = g.speaking Originator in
    let i = in-turn tries period delay link ts before kt run carried t g.mid g.hearing Originator in
    let b : Account = (served_at link turn g.mid Originator).account in
    let detects : b.phase ≡ Detecting =
    said-from turn (releases link turn g.mid) b s.said s.says (ap (λ (x : Account). x.phase) (sym s.after_is) ∙ d) in
    let f = heard-from (arrival t.orig.heard) turn before.orig g.mid.orig i.role_is i.hears (sym i.served.phase ∙ detects) in
    let p = early tries period delay link ts before kt run carried f.0 in
    let late : turn < (b.setup.tries + 1) * b.setup.period = grind (arith, sends-early, releases, b, s) in
    let whole : (b.setup.tries + 1) * b.setup.period ≡ (tries + 1) * period = grind (arith, b) in
    (omega (arith, late, whole), (none-passed t.orig.heard f.1, p.1))

pub undetected-on-time : SpendsOnTime → UndetectedOnTime
undetected-on-time spends tries period delay link ts before t mid kt run c broken =
    let turn = length ts in
    let i = in-turn tries period delay link ts before kt run c t mid broken.hearing Originator in
    let detects = err-detecting turn (releases link turn mid) (served_at link turn mid Originator).account broken.broken in
    let f = heard-from (arrival t.orig.heard) turn before.orig mid.orig i.role_is i.hears (sym i.served.phase ∙ detects) in
    let p = early tries period delay link ts before kt run c f.0 in
    let whole : (tries + 1) * period ≤ turn = spends tries period delay link ts before t mid Originator NotDetected kt run c broken in
    (omega (arith, p.0, whole), (none-passed t.orig.heard f.1, p.1))
