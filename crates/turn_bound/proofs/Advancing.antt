-- The front of an end that isn't whole advances within the turns of one segment, or the run ends.
use Rattle.turn_bound.proofs.Names.{◌≡◌, ℕ, suc, ◌+◌, ◌-◌, ◌*◌, ◌<◌, ◌≤◌, ◌⊎◌, Bool, true, false, cond, List, [], ◌∷◌, ◌++◌, length, inl}
use Rattle.turn_bound.proofs.Names.{inr, arith, refl, sym, ◌∙◌, ap, subst, Option, is_whole, Role, of, Outgoing, Connected, is_released}
use Rattle.turn_bound.proofs.Names.{Link, Accounts, Turn, GoingTurn, RunOf, arrival, IsCarried, AdvancesSoon, GoesOn, MaySend, NeverBusy}
use Rattle.turn_bound.proofs.Names.{NoneDue, KeepsTime}
use Rattle.turn_bound.proofs.Truths.{neither-first}
use Rattle.link_account.proofs.Names.{Account}
use Rattle.turn_bound.proofs.Value.{Rates, rates, AreRates, Ticks, left, is_waiting, Sends, is_free, lasts, one_if, sender_value, cond-le}
use Rattle.turn_bound.proofs.Falls.{Offered, end-turn}
use Rattle.turn_bound.proofs.Ending.{own-offered}
use Rattle.turn_bound.proofs.MeetHear.{is_begun, of_arrived}
use Rattle.turn_bound.proofs.Meeting.{only-linked}
use Rattle.turn_bound.proofs.Bounding.{at-once-always}
use Rattle.turn_bound.proofs.Taking.{held_value, held-most, frame_poll, may_send_at}
use Rattle.turn_bound.proofs.HeldTurn.{Linking, Linger, lingers}
use Rattle.turn_bound.proofs.Wholeness.{late-whole}
use Rattle.turn_bound.proofs.CalmRuns.{said-speaks, EndAt, end-at, never-at, light-arrival, Unpaused, calm-run, going-run, polls_heard}
use Rattle.turn_bound.proofs.CalmRuns.{few-heard, hears-in}

-- the run behind later turns is one run
joins : (link : Link) (ts us : List Turn) (before after : Accounts) → RunOf link ts before → GoesOn link ts before us after
    → RunOf link (us ++ ts) after
joins link ts [] before after run goes = subst (RunOf link ts) (sym goes) run
joins link ts (t ∷ us) before after run (ends, goes, g) = (ends, joins link ts us before ends run goes, g)

-- an end that has begun, and that isn't told to release
begun-on : (delay : Role → ℕ) (link : Link) (ts us : List Turn) (before after : Accounts) (role : Role) → NeverBusy link
    → RunOf link ts before
    → GoesOn link ts before us after → IsCarried delay (us ++ ts)
    → is_begun (of role before).phase ≡ true → is_begun (of role after).phase ≡ true
begun-on delay link ts [] before after role n run goes c e = ap (λ (x : Accounts). is_begun (of role x).phase) goes ∙ e
begun-on delay link ts (t ∷ us) before after role n run (ends, goes, g) c e =
    (going-run delay link (us ++ ts) ends t after role n (joins link ts us before ends run goes) c.0 g).0
    (begun-on delay link ts us before ends role n run goes c.1 e)

unreleased : (b c : Bool) → (b ≡ true → c ≡ true) → c ≡ false → b ≡ false
unreleased b c h e = grind (arith)

may-of : (a : Account) (role : Role) → a.setup.role ≡ role → MaySend a → may_send_at a ≡ true
may-of a b e m = grind (arith)

linking-of : (z : Rates) (turn : ℕ) (role : Role) (a : Account) → EndAt z turn role a → a.phase ≡ Connected → NoneDue a → Unpaused a
    → may_send_at a ≡ true → Linking z turn role a
linking-of z turn role a e phase none u may = grind (arith)

-- A turn of the end, in a run.
abbrev pub Lingers : ℕ → ℕ → ℕ → List Turn → Turn → Role → Account → Account → Type 0
Lingers tries period total ts t role a b =
    Linger (rates tries period) total (length ts) (of_arrived frame_poll (arrival (of role t).heard)) a b

lingers-in : (tries period : ℕ) (delay : Role → ℕ) (link : Link) (ts : List Turn) (before : Accounts) (t : Turn) (after : Accounts)
    (role : Role)
    (total : ℕ)
    → KeepsTime tries period delay link → NeverBusy link → RunOf link ts before → IsCarried delay (t ∷ ts)
    → GoingTurn link ts before t after → Linking (rates tries period) (length ts) role (of role before)
    → (of role after).phase ≡ Connected → Offered total (of role after)
    → Lingers tries period total ts t role (of role before) (of role after) × Offered total (of role before)
lingers-in tries period delay link ts before t after role total k n run c g l phase offered =
    let o = g.speaking role in
    let sp = said-speaks link (length ts) g.mid role o.said o.says in
    let i = hears-in tries period delay link ts before role k run c.1 t g.mid g.hearing in
    let light = light-arrival delay link ts before t role n run c.0 in
    let offered' : Offered total o.said.account = subst (Offered total) o.after_is offered in
    let et = end-turn i total sp.0 sp.1 offered' in (
      subst (Linger (rates tries period) total (length ts) (of_arrived frame_poll (arrival (of role t).heard)) (of role before))
          (sym o.after_is) (lingers i total sp.0 l (never-at link (length ts) role n) light.0 light.1 sp.1
          (ap (λ b. b.phase) (sym o.after_is) ∙ phase) offered' et.all et.before.fits),
      et.before,
    )

-- The end is Connected and may send, all along.
linking : (tries period : ℕ) (delay : Role → ℕ) (link : Link) (ts us : List Turn) (before after : Accounts) (role : Role)
    → KeepsTime tries period delay link → NeverBusy link → RunOf link ts before → MaySend (of role before) → GoesOn link ts before us after
    → IsCarried delay (us ++ ts) → (of role after).phase ≡ Connected
    → Linking (rates tries period) (length (us ++ ts)) role (of role after)
linking tries period delay link ts [] before after role k n run m goes c phase =
    subst (λ (x : Accounts). Linking (rates tries period) (length ts) role (of role x)) (sym goes)
    (linking-of (rates tries period) (length ts) role (of role before) (end-at tries period delay link ts before role k run c) m.connected
    (at-once-always tries period delay link ts before k run c role)
    (calm-run delay link ts before role n run c)
    (may-of (of role before) role (end-at tries period delay link ts before role k run c).role_is m))
linking tries period delay link ts (t ∷ us) before after role k n run m (ends, goes, g) c phase =
    let so-far : RunOf link (us ++ ts) ends = joins link ts us before ends run goes in
    let all : RunOf link (t ∷ (us ++ ts)) after = (ends, so-far, g) in
    let keeps = going-run delay link (us ++ ts) ends t after role n so-far c.0 g in
    let open_ : is_released (of role ends).phase ≡ false = grind (arith, unreleased) in
    let linked : (of role ends).phase ≡ Connected =
    only-linked (of role ends).phase (begun-on delay link ts us before ends role n run goes c.1 (ap is_begun m.connected)) open_ in
    let l = linking tries period delay link ts us before ends role k n run m goes c.1 linked in
    let x = lingers-in tries period delay link (us ++ ts) ends t after role (length (of role after).outgoing.pieces) k n so-far c g l phase
    (own-offered (of role after)) in
    linking-of (rates tries period) (length (t ∷ (us ++ ts))) role (of role after)
    (end-at tries period delay link (t ∷ (us ++ ts)) after role k all c) phase
    (at-once-always tries period delay link (t ∷ (us ++ ts)) after k all c role)
    (calm-run delay link (t ∷ (us ++ ts)) after role n all c) x.0.may

-- How far an end has come: its clock runs, or it was held up for so many turns.
pub data Stage (z : Rates) (total start n : ℕ) (list : List Turn) (role : Role) (a : Account) : Type 0 where
  Waits : is_waiting a.outgoing ≡ true → sender_value z total (length list) a.outgoing a.wait.timer + n ≤ start
      → Stage z total start n list role a
  Holds : (h : ℕ) → is_waiting a.outgoing ≡ false → sender_value z total (length list) a.outgoing a.wait.timer + n ≤ start + h
      → 3 * h + held_value (length list) a ≤ 68 + 8 * polls_heard h role list → Stage z total start n list role a

-- it is held up in few turns
few-held : (h polls e : ℕ) → 3 * h + e ≤ 68 + 8 * polls → 19 * polls ≤ h + 38 → h ≤ 32
few-held h polls e x y = omega arith

next-stage : (tries period : ℕ) (delay : Role → ℕ) (link : Link) (list : List Turn) (ends : Accounts) (t : Turn) (after : Accounts)
    (role : Role)
    (total start n : ℕ)
    → KeepsTime tries period delay link → NeverBusy link → RunOf link list ends → IsCarried delay list → AreRates (rates tries period)
    → (of role after).outgoing.front < total
    → Lingers tries period total list t role (of role ends) (of role after)
    → Stage (rates tries period) total start n list role (of role ends)
    → Stage (rates tries period) total start (suc n) (t ∷ list) role (of role after)
next-stage tries period delay link list ends t after role total start n k nb run c y less x stage = go (is_waiting b.outgoing) refl stage
  where
    z : Rates
    z = rates tries period

    a : Account
    a = of role ends

    b : Account
    b = of role after

    turn : ℕ
    turn = length list

    later : sender_value z total (suc turn) b.outgoing b.wait.timer ≡ sender_value z total (turn + 1) b.outgoing b.wait.timer
    later = ap (λ m. sender_value z total m b.outgoing b.wait.timer) (omega arith)

    held-later : held_value (suc turn) b ≡ held_value (turn + 1) b
    held-later = ap (λ m. held_value m b) (omega arith)

    fell : (w w' : Bool) → is_waiting a.outgoing ≡ w → is_waiting b.outgoing ≡ w'
        → sender_value z total (turn + 1) b.outgoing b.wait.timer + lasts z.room w w' ≤ sender_value z total turn a.outgoing a.wait.timer
    fell w w' e f = grind (arith)

    go : (w : Bool) → is_waiting b.outgoing ≡ w → Stage z total start n list role a → Stage z total start (suc n) (t ∷ list) role b
    go true f (Waits e s) = Waits f (omega (arith, s, fell true true e f, later))
    go false f (Waits e s) = Holds 0 f (omega (arith, s, fell true false e f, later)) (omega (arith, held-most (suc turn) b))
    go true f (Holds h e s p) =
        let few : h ≤ 32 = few-held h (polls_heard h role list) (held_value turn a) p
        (few-heard tries period delay link h list ends role k nb run c) in
        let room : 38 ≤ z.room = omega (arith, y.room, y.period) in grind (arith, fell, later)
    go false f (Holds h e s p) = by (x.held e less)
      where
        by : (is_waiting b.outgoing ≡ true)
            ⊎ (held_value (turn + 1) b + 3 ≤ held_value turn a + cond (of_arrived frame_poll (arrival (of role t).heard)) 8 0)
            → Stage z total start (suc n) (t ∷ list) role b
        by (inl w) = let wrong : true ≡ false = sym w ∙ f in cc
        by (inr pays) = Holds (suc h) f (omega (arith, s, fell false false e f, later))
            (omega (arith, p, pays, held-later, eight (of_arrived frame_poll (arrival (of role t).heard))))
          where
            eight : (q : Bool) → cond q 8 0 ≡ 8 * one_if q
            eight q = grind (arith)

-- the stages, from the first
stages : (tries period : ℕ) (delay : Role → ℕ) (link : Link) (ts us : List Turn) (before after : Accounts) (role : Role) (total : ℕ)
    → KeepsTime tries period delay link → NeverBusy link → RunOf link ts before → MaySend (of role before) → GoesOn link ts before us after
    → IsCarried delay (us ++ ts) → AreRates (rates tries period)
    → (of role after).phase ≡ Connected → Offered total (of role after) → (of role after).outgoing.front < total
    → Stage (rates tries period) total
    (sender_value (rates tries period) total (length ts) (of role before).outgoing (of role before).wait.timer) (length us)
    (us ++ ts) role (of role after)
stages tries period delay link ts [] before after role total k n run m goes c y phase offered less =
    subst (λ (x : Accounts). Stage z total start 0 ts role (of role x)) (sym goes) (first (is_waiting (of role before).outgoing) refl)
  where
    z : Rates
    z = rates tries period

    start : ℕ
    start = sender_value z total (length ts) (of role before).outgoing (of role before).wait.timer

    first : (w : Bool) → is_waiting (of role before).outgoing ≡ w → Stage z total start 0 ts role (of role before)
    first true e = Waits e (omega arith)
    first false e = Holds 0 e (omega arith) (omega (arith, held-most (length ts) (of role before)))
stages tries period delay link ts (t ∷ us) before after role total k n run m (ends, goes, g) c y phase offered less =
    let so-far : RunOf link (us ++ ts) ends = joins link ts us before ends run goes in
    let keeps = going-run delay link (us ++ ts) ends t after role n so-far c.0 g in
    let open_ : is_released (of role ends).phase ≡ false = grind (arith, unreleased) in
    let linked : (of role ends).phase ≡ Connected =
    only-linked (of role ends).phase (begun-on delay link ts us before ends role n run goes c.1 (ap is_begun m.connected)) open_ in
    let l = linking tries period delay link ts us before ends role k n run m goes c.1 linked in
    let x = lingers-in tries period delay link (us ++ ts) ends t after role total k n so-far c g l phase offered in
    next-stage tries period delay link (us ++ ts) ends t after role total
    (sender_value (rates tries period) total (length ts) (of role before).outgoing (of role before).wait.timer)
    (length us) k n so-far c.1 y less x.0
    (stages tries period delay link ts us before ends role total k n run m goes c.1 y linked x.1 (omega (arith, x.0.front, less)))

-- a clock that runs between turns counts a whole set of tries at most
left-most : (z : Rates) (turn count : ℕ) (timer : Option ℕ) → Ticks z turn turn count timer → left z turn count timer ≤ z.whole
left-most z turn count b h = grind (arith)

start-most : (z : Rates) (total turn : ℕ) (o : Outgoing) (timer : Option ℕ) → Sends z turn turn o timer
    → sender_value z total turn o timer ≤ z.quota * (total - o.front) + z.first + z.whole
start-most z total turn o timer s = omega (arith, cond-le (is_free total o) z.first, left-most z turn o.count timer s.ticks)

-- what is left of the front's segment at the end of the stretch
soon : (z : Rates) (total start n front : ℕ) (list : List Turn) (role : Role) (a : Account) → AreRates z
    → start ≤ z.quota * (total - front) + z.first + z.whole → a.outgoing.front ≡ front → a.outgoing.front < total
    → ((h : ℕ) → 3 * h + held_value (length list) a ≤ 68 + 8 * polls_heard h role list → h ≤ 32) → Stage z total start n list role a
    → n < z.quota
soon z total start n front list role a y low same less few x = grind (arith, neither-first)

advances-linked : (tries period : ℕ) (delay : Role → ℕ) (link : Link) (ts us : List Turn) (before after : Accounts) (role : Role)
    → KeepsTime tries period delay link → NeverBusy link → RunOf link ts before → MaySend (of role before) → GoesOn link ts before us after
    → IsCarried delay (us ++ ts)
    → (of role after).phase ≡ Connected → is_whole (of role after).outgoing ≡ false
    → (of role after).outgoing.front ≡ (of role before).outgoing.front → length us < (rates tries period).quota
advances-linked tries period delay link ts [] before after role k n run m goes c phase unwhole same = grind (arith, end-at)
advances-linked tries period delay link ts (t ∷ us) before after role k n run m (ends, goes, g) c phase unwhole same =
    let z : Rates = rates tries period in
    let total : ℕ = length (of role after).outgoing.pieces in
    let y = (end-at tries period delay link (us ++ ts) ends role k so-far c.1).rates in
    let first = linking tries period delay link ts [] before before role k n run m refl (before-c us c.1) m.connected in
    soon z total (sender_value z total (length ts) (of role before).outgoing (of role before).wait.timer) (length (t ∷ us))
    (of role before).outgoing.front (t ∷ (us ++ ts)) role (of role after) y
    (start-most z total (length ts) (of role before).outgoing (of role before).wait.timer first.linked.sends) same less
    (λ h p. few-held h (polls_heard h role (t ∷ (us ++ ts))) (held_value (length (t ∷ (us ++ ts))) (of role after)) p
    (few-heard tries period delay link h (t ∷ (us ++ ts)) after role k n (ends, so-far, g) c))
    (stages tries period delay link ts (t ∷ us) before after role total k n run m (ends, goes, g) c y phase
    (own-offered (of role after)) less)
  where
    so-far : RunOf link (us ++ ts) ends
    so-far = joins link ts us before ends run goes

    before-c : (l : List Turn) → IsCarried delay (l ++ ts) → IsCarried delay ts
    before-c [] x = x
    before-c (u ∷ l) x = before-c l x.1

    less : (of role after).outgoing.front < length (of role after).outgoing.pieces
    less =
        let keeps = going-run delay link (us ++ ts) ends t after role n so-far c.0 g in
        let open_ : is_released (of role ends).phase ≡ false =
        unreleased (is_released (of role ends).phase) (is_released (of role after).phase) keeps.1 (ap is_released phase) in
        let linked : (of role ends).phase ≡ Connected =
        only-linked (of role ends).phase (begun-on delay link ts us before ends role n run goes c.1 (ap is_begun m.connected)) open_ in
        let l = linking tries period delay link ts us before ends role k n run m goes c.1 linked in
        let x = lingers-in tries period delay link (us ++ ts) ends t after role
        (length (of role after).outgoing.pieces) k n so-far c g l phase (own-offered (of role after)) in
        x.0.unwhole unwhole

pub advances-soon-always : AdvancesSoon
advances-soon-always tries period delay link ts us before after role k n run m goes c unwhole same =
    go (is_released (of role after).phase) refl
  where
    all : RunOf link (us ++ ts) after
    all = joins link ts us before after run goes

    go : (r : Bool) → is_released (of role after).phase ≡ r → length us < 2 * (tries + 2) * period
    go true e = let wrong : true ≡ false = sym (late-whole tries period delay link (us ++ ts) after role k n all c e) ∙ unwhole in cc
    go false e =
        advances-linked tries period delay link ts us before after role k n run m goes c
        (only-linked (of role after).phase (begun-on delay link ts us before after role n run goes c (ap is_begun m.connected)) e) unwhole
        same
