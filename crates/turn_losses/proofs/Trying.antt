-- The tries of an originator by the turn: when each went, and what is lost where none is answered.
use Rattle.turn_losses.proofs.Names.{◌⊎◌, inl, inr, ◌≡◌, ℕ, ◌+◌, ◌-◌, ◌*◌, ◌<◌, ◌≤◌, Bool, true, false, length, arith, refl, sym, ◌∙◌, ap}
use Rattle.turn_losses.proofs.Names.{subst, Ok, Err, is_some, cases_lt, Originator, Answerer, offer_in, written, ReadsWritten, Sent}
use Rattle.turn_losses.proofs.Names.{Arrived, Account, MayPlay, Said, speak, Spent, is_connected, why-broken, Phase, Negotiating}
use Rattle.turn_losses.proofs.Names.{Establishing, Releasing, is_released, is_closed, arrival, Link, Accounts, served_at, releases, o-hears}
use Rattle.turn_losses.proofs.Names.{is_begun, of_frame, of_arrived, clash, not-true, rates, Stands, is_linked, sent_or, EndRun, TwoEnds}
use Rattle.turn_losses.proofs.Names.{TimedRun, end_of, LosesEach, OriginatorWantsFrame}
use Rattle.turn_losses.proofs.Follows.{numbered-linked}
use Rattle.turn_losses.proofs.Tracing.{release_of, EndTurn, end-turn, timed-run, last-turn, starts-fresh}
use Rattle.turn_losses.proofs.PeriodLaws.{is-heard, two-ends, NoneLost}
use Rattle.turn_losses.proofs.Expiries.{LostIn, lost-or-none}
use Rattle.turn_losses.proofs.Moving.{is_trying, asks, moves_on, TryGoesOn, TryBegins, try-heard, TriesAgain, TryStands, TryIsNew, try-says}
use Rattle.turn_losses.proofs.Moving.{can_answer, AnswerDue, answer-due, says-due}
use Rattle.turn_losses.proofs.Phasing.{Met, met, is_established, begun-established}
use Rattle.turn_losses.proofs.Clocks.{Ticked, Unanswered, last, chain}
use Rattle.turn_losses.proofs.Clocks.Ticked.{Begins, Expires, Stays}
use Rattle.turn_losses.proofs.InTurn.{InTurn}
use Rattle.turn_losses.proofs.Periods.{once, loses-of}
use Rattle.turn_losses.proofs.Wanting.{all-but-one}
use Rattle.link_run.proofs.Ending.{allowed-both}

-- A turn after which an end tries: the try begins in it, or goes on unanswered, and goes again or not.
abbrev pub GoesUnanswered : Phase → Arrived → Account → Type 0
GoesUnanswered p arrived a = (a.phase ≡ p) × (of_arrived (moves_on p) arrived ≡ false)

abbrev pub TryTurn : (period turn : ℕ) → Phase → Arrived → Sent → Account → Account → Type 0
TryTurn period turn p arrived sent a c =
    ((a.phase ≡ p → ⊥) × (c.wait.try_set ≡ turn) × (c.wait.try_count ≡ 0) × (of_frame (asks p) sent ≡ true))
    ⊎ (GoesUnanswered p arrived a × (turn ≡ a.wait.try_set + period) × (c.wait.try_set ≡ turn) × (c.wait.try_count ≡ a.wait.try_count + 1)
    × (of_frame (asks p) sent ≡ true))
    ⊎ (GoesUnanswered p arrived a × (turn ≡ a.wait.try_set + period → ⊥) × (c.wait.try_set ≡ a.wait.try_set)
    × (c.wait.try_count ≡ a.wait.try_count))

module _ {tries period : ℕ} {link : Link} {turn : ℕ} {a : Account} {arrived : Arrived} {mid b : Account} {said : Said}
    (i : InTurn tries period link Originator turn a arrived mid b) where
  try-turn : (release : Bool) → is_some (offer_in (written link.orig.setup.offer)) ≡ true → speak turn release b ≡ Ok said → (p : Phase)
      → is_trying p ≡ true → said.account.phase ≡ p → TryTurn period turn p arrived said.sent a said.account
  try-turn release offers speaks p t e = go (try-says turn release b said i.b_role (omega (arith, i.b_period, i.long))
      (ap (λ x. is_some (offer_in (written x.offer))) i.b_setup ∙ offers) speaks p t e)
    where
      heard : mid.phase ≡ p → TryGoesOn p arrived a mid ⊎ TryBegins turn p a mid
      heard f = try-heard arrived turn a mid i.role_is i.hears p t f

      set-is : b.wait.try_set ≡ mid.wait.try_set
      set-is = ap (λ w. w.try_set) i.served.wait

      again : TryGoesOn p arrived a mid ⊎ TryBegins turn p a mid → TriesAgain p turn b said
          → TryTurn period turn p arrived said.sent a said.account
      again y v = grind (arith, set-is)

      stands : TryGoesOn p arrived a mid ⊎ TryBegins turn p a mid → TryStands p turn b said
          → TryTurn period turn p arrived said.sent a said.account
      stands r s = grind (arith, set-is)

      go : ((b.phase ≡ p) × (TriesAgain p turn b said ⊎ TryStands p turn b said)) ⊎ TryIsNew p turn b said
          → TryTurn period turn p arrived said.sent a said.account
      go (inl (f, inl x)) = again (heard (sym i.served.phase ∙ f)) x
      go (inl (f, inr x)) = stands (heard (sym i.served.phase ∙ f)) x
      go (inr (f, q, set, count, sends)) = grind (arith, clash, o-hears)

abbrev pub TriesSo : (period turns : ℕ) → Phase → EndRun → Type 0
TriesSo period turns p e = (t : ℕ) → t < turns → (e.account (t + 1)).phase ≡ p
    → TryTurn period t p (e.heard t) (e.slot t) (e.account t) (e.account (t + 1))

-- The tries of a phase as a clock.
abbrev IsTrying : Phase → EndRun → ℕ → Type 0
IsTrying p e u = (e.account u).phase ≡ p

abbrev Unmoved : ℕ → Phase → EndRun → ℕ → Type 0
Unmoved period p e v = (of_arrived (moves_on p) (e.heard v) ≡ false) × (v ≡ (e.account v).wait.try_set + period → ⊥)

abbrev Asks : Phase → EndRun → ℕ → Type 0
Asks p e s = of_frame (asks p) (e.slot s) ≡ true

abbrev IsSet : EndRun → ℕ → ℕ → Type 0
IsSet e u s = (e.account u).wait.try_set ≡ s

abbrev count_of : EndRun → ℕ → ℕ
count_of e u = (e.account u).wait.try_count

ticks : (period turns : ℕ) (p : Phase) (e : EndRun) → TriesSo period turns p e → (t : ℕ) → t < turns → IsTrying p e (t + 1)
    → Ticked period t (IsTrying p e) (Unmoved period p e) (Asks p e) (IsSet e) (count_of e)
ticks period turns p e h t l f = go (h t l f)
  where
    go : TryTurn period t p (e.heard t) (e.slot t) (e.account t) (e.account (t + 1))
        → Ticked period t (IsTrying p e) (Unmoved period p e) (Asks p e) (IsSet e) (count_of e)
    go (inl (first, set, count, sends)) = Begins set count sends
    go (inr (inl ((g, unheard), due, set, count, sends))) =
        Expires (e.account t).wait.try_set g refl (sym due) set (λ n q. omega (arith, q, count)) sends
    go (inr (inr ((g, unheard), due, set, count))) = Stays g (λ s q. set ∙ q) (λ n q. sym count ∙ q) (unheard, due)

-- A frame that is tried, and isn't answered for a whole period.
abbrev pub TryUnanswered : ℕ → Phase → EndRun → ℕ → ℕ → Type 0
TryUnanswered period p e t s = Unanswered period (IsTrying p e) (Unmoved period p e) (Asks p e) (IsSet e) t s

-- each of them went a period before the next one, or before the turn in which the last one's timer expires
pub unanswered : (period turns : ℕ) (p : Phase) (e : EndRun) → TriesSo period turns p e → ((e.account 0).phase ≡ p → ⊥)
    → (n t : ℕ) → t ≤ turns → (e.account t).phase ≡ p → (e.account t).wait.try_count ≡ n
    → (e.account t).wait.try_set + period ≡ t → (j : ℕ) → j ≤ n → (s : ℕ) × (s + (j + 1) * period ≡ t) × TryUnanswered period p e t s
unanswered period turns p e h none n t l f c due j less =
    chain period turns (IsTrying p e) (Unmoved period p e) (Asks p e) (IsSet e) (count_of e) (λ u s r a b. sym a ∙ b) none
    (ticks period turns p e h) n t (e.account t).wait.try_set l f c refl due j less

-- A try between turns: when it last went.
pub record Tried (period : ℕ) (p : Phase) (e : EndRun) (t : ℕ) : Type 0 where
  pub set : ℕ
  pub before : set < t
  pub within : t ≤ set + period
  pub sends : of_frame (asks p) (e.slot set) ≡ true
  pub since : (u : ℕ) → set < u → u ≤ t → (e.account u).phase ≡ p

pub tried : (period turns : ℕ) (p : Phase) (e : EndRun) → 1 ≤ period → TriesSo period turns p e → ((e.account 0).phase ≡ p → ⊥) → (t : ℕ)
    → t ≤ turns → (e.account t).phase ≡ p → Tried period p e t
tried period turns p e long h none t l f =
    let i = last period turns (IsTrying p e) (Unmoved period p e) (Asks p e) (IsSet e) (count_of e) (λ u s r a b. sym a ∙ b) none
    (ticks period turns p e h) t l f in
    record {
      set = i.at;
      before = i.before;
      within = elim (cases_lt (i.at + period) t) [
        | inl x ↦ absurd ((i.stayed (i.at + period) (omega (arith, long)) x).1
            (ap (λ n. n + period) (sym (i.set (i.at + period) (omega (arith, long)) (omega (arith, x))))))
        | inr x ↦ x
      ];
      sends = i.asked;
      since = i.ran;
    }

-- what expires in a turn in which it goes was set no earlier than it goes
pub since-try : (period turns : ℕ) (p : Phase) (e : EndRun) → TriesSo period turns p e → ((e.account 0).phase ≡ p → ⊥) → (r q : ℕ) → r < q
    → q ≤ turns → (e.account q).phase ≡ p → ((e.account r).phase ≡ p → r ≡ (e.account r).wait.try_set + period)
    → r ≤ (e.account q).wait.try_set
since-try period turns p e h none r q before within f due =
    let i = last period turns (IsTrying p e) (Unmoved period p e) (Asks p e) (IsSet e) (count_of e) (λ u s r a b. sym a ∙ b) none
    (ticks period turns p e h) q within f in
    elim (cases_lt i.at r) [
      | inl l ↦ absurd ((i.stayed r l before).1 (due (i.ran r l (omega (arith, before)))))
      | inr g ↦ (let s = i.set q i.before (omega arith) in omega (arith, g, s))
    ]

-- What both ends of a run are to each other while the originator tries.
pub tries-so : ReadsWritten → (w : TimedRun) → MayPlay w.link.orig.setup w.link.answ.setup → (p : Phase) → is_trying p ≡ true
    → TriesSo w.period (length w.ts) p (end_of w Originator)
tries-so reads w m p t u l f =
    let g = end-turn w Originator u l in
    subst (λ x. TryTurn w.period u p (arrival (w.deed u).turn.orig.heard) x (w.state u).orig (w.state (u + 1)).orig) (sym g.slot)
    (subst (TryTurn w.period u p (arrival (w.deed u).turn.orig.heard) g.said.sent (w.state u).orig) (sym g.after)
    (try-turn g.in_turn (release_of w.link u (w.deed u).mid Originator)
    (ap is_some (reads w.link.orig.setup.offer (allowed-both w.link m Originator)))
    g.says p t (ap (λ (x : Account). x.phase) (sym g.after) ∙ f)))

-- an answerer can answer what is tried
answerable : (p q : Phase) (n : Bool) → is_trying p ≡ true → (q ≡ Establishing → ⊥) → (q ≡ Releasing → ⊥)
    → (p ≡ Negotiating → is_begun q ≡ false) → (p ≡ Establishing → (n ≡ false) × (is_closed q ≡ false))
    → (p ≡ Releasing → is_begun q ≡ true)
    → can_answer p q n ≡ true
answerable b q n t e r x y z = grind (arith)

-- The answerer answers in the turn in which it hears.
pub answers-so : ReadsWritten → (w : TimedRun) → MayPlay w.link.orig.setup w.link.answ.setup → (p : Phase) → is_trying p ≡ true → (u : ℕ)
    → u < length w.ts → (w.state u).orig.phase ≡ p → of_arrived (asks p) (arrival (w.deed u).turn.answ.heard) ≡ true
    → of_frame (moves_on p) (sent_or (w.deed u).turn.answ.sent) ≡ true
answers-so reads w m p t u l f k = ap (of_frame (moves_on p)) g.slot ∙ says-due p u ((end_of w Answerer).served u) g.said g.in_turn.b_role
    (ap (λ x. is_some (offer_in (written x.offer))) g.in_turn.b_setup
    ∙ ap is_some (reads w.link.answ.setup.offer (allowed-both w.link m Answerer)))
    (moved p (w.deed u).mid.answ ((end_of w Answerer).served u) g.in_turn.served.phase g.in_turn.served.answer due) g.says
  where
    g : EndTurn w Answerer u
    g = end-turn w Answerer u l

    never : (q : Phase) → Stands (rates w.tries w.period) u u Answerer q (w.state u).answ ≡ ⊥ → (w.state u).answ.phase ≡ q → ⊥
    never q e h = subst (λ x. x) e (subst (λ x. Stands (rates w.tries w.period) u u Answerer x (w.state u).answ) h g.in_turn.stands)

    both : Met (w.state u)
    both = met w u l

    can : can_answer p (w.state u).answ.phase (w.state u).answ.numbered ≡ true
    can = answerable p (w.state u).answ.phase (w.state u).answ.numbered t (never Establishing refl) (never Releasing refl)
        (λ q. not-true (is_begun (w.state u).answ.phase) (λ b. let wrong : true ≡ false = sym (begun-established w u (omega (arith, l)) b)
        ∙ ap is_established (f ∙ q) in cc))
        (λ q. (
          not-true (w.state u).answ.numbered (λ n. let wrong : true ≡ false = sym
              (numbered-linked w Answerer u (omega (arith, l)) n) ∙ ap is_linked (f ∙ q) in cc),
          not-true (is_closed (w.state u).answ.phase) (λ c. let wrong : true ≡ false = sym (both.closed c) ∙ ap is_released (f ∙ q) in cc),
        ))
        (λ q. both.begun (ap is_begun (f ∙ q)))

    due : AnswerDue p (w.deed u).mid.answ
    due = answer-due p (arrival (w.deed u).turn.answ.heard) u (w.state u).answ (w.deed u).mid.answ g.in_turn.role_is can k g.in_turn.hears

    moved : (q : Phase) (a b : Account) → b.phase ≡ a.phase → b.owes.answer ≡ a.owes.answer → AnswerDue q a → AnswerDue q b
    moved p a b x y d = grind (arith)

-- So where none moves the originator on for a whole period, something was lost in it.
pub unanswered-loses : ReadsWritten → (w : TimedRun) → MayPlay w.link.orig.setup w.link.answ.setup → (p : Phase) → is_trying p ≡ true
    → (s : ℕ) → s + w.period ≤ length w.ts → TryUnanswered w.period p (end_of w Originator) (length w.ts) s
    → LostIn (end_of w Originator) (end_of w Answerer) (s + 1) (w.period - 1)
unanswered-loses reads w m p t s within x = go (lost-or-none e o (s + 1) (w.period - 1))
  where
    e : EndRun
    e = end_of w Originator

    o : EndRun
    o = end_of w Answerer

    k : TwoEnds w.period (length w.ts) e o
    k = two-ends w Originator

    go : LostIn e o (s + 1) (w.period - 1) ⊎ NoneLost e o (s + 1) (w.period - 1) → LostIn e o (s + 1) (w.period - 1)
    go (inl lost) = lost
    go (inr none) =
        let v : ℕ = s + e.delay in
        let y : ℕ = v + o.delay in
        let reaches : of_arrived (asks p) (o.heard v) ≡ true = is-heard (asks p) k.is_heard s
        (omega (arith, within, k.period_is)) (none v (omega (arith, k.own_delay)) (omega (arith, k.period_is))).1 ∙ x.asked in
        let answered : of_frame (moves_on p) (o.slot v) ≡ true = answers-so reads w m p t v
        (omega (arith, within, k.period_is)) (x.ran v (omega (arith, k.own_delay)) (omega (arith, k.period_is))) reaches in
        let hears : of_arrived (moves_on p) (e.heard y) ≡ true = is-heard (moves_on p) k.hears v (omega (arith, within, k.period_is))
        (none y (omega (arith, k.own_delay)) (omega (arith, k.period_is))).0
        ∙ answered in
        let wrong : true ≡ false = sym hears ∙ (x.stayed y (omega (arith, k.own_delay)) (omega (arith, k.period_is))).0 in
        cc

-- An originator that gives up while it tries a frame.

-- which try is spent
pub which-try : (turn : ℕ) (release : Bool) (b : Account) (segment since : ℕ) → is_connected b.phase ≡ false
    → speak turn release b ≡ Err (Spent segment since)
    → (is_trying b.phase ≡ true) × (turn ≡ b.wait.try_set + b.setup.period) × (b.wait.try_count ≡ b.setup.tries)
which-try turn release b segment since c h = grind (arith, why-broken)

pub originator-wants-frame : ReadsWritten → OriginatorWantsFrame
originator-wants-frame reads tries period delay link ts before t mid segment since kt run cs broken
    unlinked = (each, all-but-one tries period delay t ts (λ n l. each n (omega (arith, l))))
  where
    turns : ℕ
    turns = length ts

    w : TimedRun
    w = timed-run tries period delay link ts before kt run.run run.carried

    e : EndRun
    e = end_of w Originator

    b : Account
    b = (served_at link turns mid Originator).account

    i : InTurn tries period link Originator turns before.orig (arrival t.orig.heard) mid.orig b
    i = last-turn w t mid broken.hearing Originator

    why : (is_trying b.phase ≡ true) × (turns ≡ b.wait.try_set + b.setup.period) × (b.wait.try_count ≡ b.setup.tries)
    why = which-try turns (releases link turns mid) b segment since (ap is_connected i.served.phase ∙ unlinked) broken.broken

    p : Phase
    p = mid.orig.phase

    trying : is_trying p ≡ true
    trying = ap is_trying (sym i.served.phase) ∙ why.0

    due : turns ≡ mid.orig.wait.try_set + period
    due = let q = why.1 in let set = ap (λ v. v.try_set) i.served.wait in omega (arith, q, i.b_period, set)

    count : mid.orig.wait.try_count ≡ tries
    count = ap (λ v. v.try_count) (sym i.served.wait) ∙ (why.2 ∙ i.b_tries)

    tries-on : TriesSo period turns p e
    tries-on = tries-so reads w run.may_play p trying

    none : (w.state 0).orig.phase ≡ p → ⊥
    none q = clash (is_trying p) trying (ap is_trying (sym q) ∙ ap (λ (x : Account). is_trying x.phase) (starts-fresh w Originator))

    goes-on : TryGoesOn p (arrival t.orig.heard) before.orig mid.orig ⊎ TryBegins turns p before.orig mid.orig
        → TryGoesOn p (arrival t.orig.heard) before.orig mid.orig
    goes-on (inl x) = x
    goes-on (inr (_, _, _, set, _)) = absurd (omega (arith, set, due, i.long))

    still : TryGoesOn p (arrival t.orig.heard) before.orig mid.orig
    still = goes-on (try-heard (arrival t.orig.heard) turns before.orig mid.orig i.role_is i.hears p trying refl)

    account-is : (w.state turns).orig ≡ before.orig
    account-is = ap (λ (x : Accounts). x.orig) w.last

    each : LosesEach period (tries + 1) turns ts
    each n less =
        let wait : (w.state turns).orig.wait ≡ mid.orig.wait = ap (λ (x : Account). x.wait) account-is ∙ sym still.1 in
        let set = ap (λ v. v.try_set) wait in
        let x = unanswered period turns p e tries-on none tries turns (omega arith)
        (ap (λ (y : Account). y.phase) account-is ∙ still.0) (ap (λ v. v.try_count) wait ∙ count) (omega (arith, set, due)) n
        (omega (arith, less)) in
        let one = once period n in
        let q = x.1 in
        loses-of w Originator x.0 n i.long q
        (unanswered-loses reads w run.may_play p trying x.0 (omega (arith, q, one)) x.2)
