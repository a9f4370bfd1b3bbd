-- Each turn of a run after which an end is Connected, by its breaks.
use Rattle.turn_losses.proofs.Names.{◌⊎◌, inl, inr, ◌≡◌, ℕ, ◌+◌, ◌<◌, ◌≤◌, Bool, true, false, length, arith, refl, sym, ◌∙◌, ap, subst}
use Rattle.turn_losses.proofs.Names.{is_some, cases_lt, Role, of, waits, Arrived, Account, is_connected, arrival, served_at, of_frame}
use Rattle.turn_losses.proofs.Names.{linked-says, clash, linked-of, unlinked-of, IsAck, Rates, rates, is_linked, sent_or, is-linked}
use Rattle.turn_losses.proofs.Names.{TimedRun, end_of}
use Rattle.turn_bound.proofs.Value.{Linked}
use Rattle.turn_losses.proofs.Tracing.{release_of, TurnAt, EndTurn, end-turn}
use Rattle.turn_losses.proofs.BreakHear.{quiet-heard, break-heard, old-heard}
use Rattle.turn_losses.proofs.BreakTurn.{SaidBreaks, breaks-said, Deeds, BreakTurn, break-turn}
use Rattle.turn_losses.proofs.Windows.{Breaking}
use Rattle.turn_losses.proofs.Establishing.{word-connected}
use Rattle.turn_losses.proofs.Words.{any_brk, of_word}

-- a turn of a run
abbrev pub TurnOf : TimedRun → Role → ℕ → Deeds → Type 0
TurnOf w r u d = (d.answers ≡ is_some (served_at w.link u (w.deed u).mid r).account.owes.answer)
    × BreakTurn w.period u (arrival (of r (w.deed u).turn).heard) (sent_or (of r (w.deed u).turn).sent) d (of r (w.state u))
    (of r (w.state (u + 1))) × (waits (of r (w.state (u + 1))).own_breaks ≡ waits (served_at w.link u (w.deed u).mid r).account.own_breaks)

pub turn-of : (w : TimedRun) → (r : Role) → (u : ℕ) → u < length w.ts → is_connected (of r (w.state (u + 1))).phase ≡ true
    → (d : Deeds) × TurnOf w r u d
turn-of w r u l c = moved (by (i.polls.from mid-connected))
  where
    z : Rates
    z = rates w.tries w.period

    a : Account
    a = of r (w.state u)

    mid : Account
    mid = of r (w.deed u).mid

    arrived : Arrived
    arrived = (end_of w r).heard u

    b : Account
    b = (end_of w r).served u

    g : EndTurn w r u
    g = end-turn w r u l

    i : TurnAt w r u
    i = g.in_turn

    after : is_connected g.said.account.phase ≡ true
    after = ap (λ (x : Account). is_connected x.phase) (sym g.after) ∙ c

    mid-connected : is_connected mid.phase ≡ true
    mid-connected = g.connected c

    mid-linked : Linked z (u + 1) u r mid
    mid-linked = linked-of z (u + 1) u r i.phase mid i.heard.stands (ap is_connected (sym i.heard.phase) ∙ mid-connected)

    says : SaidBreaks u b g.said
    says = breaks-said u b g.said (subst (λ t. IsAck t.ack) (sym i.served.ack) mid-linked.ack)
        (linked-says u (release_of w.link u (w.deed u).mid r) b g.said (i.served.phase
        ∙ is-linked mid.phase mid-connected) after g.says).0

    moved : (d : Deeds) × (d.answers ≡ is_some b.owes.answer) × BreakTurn w.period u arrived g.said.sent d a g.said.account
        × (waits g.said.account.own_breaks ≡ waits b.own_breaks) → (d : Deeds) × TurnOf w r u d
    moved d = grind (arith, arrived, a, g, waits)

    by : (is_connected a.phase ≡ true) ⊎ (is_linked a.phase ≡ false) → (d : Deeds) × (d.answers ≡ is_some b.owes.answer)
        × BreakTurn w.period u arrived g.said.sent d a g.said.account × (waits g.said.account.own_breaks ≡ waits b.own_breaks)
    by (inl ca) = break-turn i g.said mid-linked.breaks.low (linked-of z u u r a.phase a i.stands ca).breaks.high (λ e. ca) (λ e. ca) after
        (break-heard arrived u a mid (is-linked a.phase ca) mid-connected i.hears) says
    by (inr un) =
        let q = (unlinked-of z u u r a.phase a i.stands un).breaks in
        let s = old-heard arrived u a mid un i.hears in
        let none = ap (λ o. length o.lengths) q in
        break-turn i g.said mid-linked.breaks.low (omega (arith, none)) (λ e. clash (waits a.own_breaks) e (ap waits q))
        (λ e. clash a.own_breaks.brk e (ap (λ o. o.brk) q)) after
        (quiet-heard u arrived a mid s.special s.own s.their (s.plain mid-connected).0 (λ e. inl (sym s.urgent ∙ e))) says

-- all of them, one function a kind
none-done : Deeds
none-done = record { made = false; hurries = false; acks = false; answers = false }

abbrev pub Taken : TimedRun → Role → ℕ → Deeds → Type 0
Taken w r u d = u < length w.ts → is_connected (of r (w.state (u + 1))).phase ≡ true → TurnOf w r u d

pub chosen : (w : TimedRun) → (r : Role) (u : ℕ) → (d : Deeds) × Taken w r u d
chosen w r u = go (cases_lt u (length w.ts)) (is_connected (of r (w.state (u + 1))).phase) refl
  where
    go : (u < length w.ts) ⊎ (length w.ts ≤ u) → (c : Bool) → is_connected (of r (w.state (u + 1))).phase ≡ c → (d : Deeds) × Taken w r u d
    go (inr g) c e = (none-done, λ l f. absurd (omega (arith, g, l)))
    go (inl l) false e = (none-done, λ l' f. clash (is_connected (of r (w.state (u + 1))).phase) f e)
    go (inl l) true e = let x = turn-of w r u l e in (x.0, λ l' f. x.1)

abbrev pub deeds-of : (w : TimedRun) → Role → ℕ → Deeds
deeds-of w r u = (chosen w r u).0

pub breaking : (w : TimedRun) → (r : Role) → Breaking w.period (length w.ts) (end_of w r) (deeds-of w r)
breaking w r = record {
  turn = λ t l c. ((chosen w r t).1 l c).1;
  says = λ t l e. let g = end-turn w r t l in
      ap (λ (x : Account). is_connected x.phase) g.after
      ∙ word-connected t (release_of w.link t (w.deed t).mid r) ((end_of w r).served t) g.said g.says
      (ap (of_frame (of_word any_brk)) (sym g.slot) ∙ e);
}

pub answers-are : (w : TimedRun) → (r : Role) → (u : ℕ) → u < length w.ts → is_connected (of r (w.state (u + 1))).phase ≡ true
    → (deeds-of w r u).answers ≡ is_some (served_at w.link u (w.deed u).mid r).account.owes.answer
answers-are w r u l c = ((chosen w r u).1 l c).0

pub waits-are : (w : TimedRun) → (r : Role) → (u : ℕ) → u < length w.ts → is_connected (of r (w.state (u + 1))).phase ≡ true
    → waits (of r (w.state (u + 1))).own_breaks ≡ waits (served_at w.link u (w.deed u).mid r).account.own_breaks
waits-are w r u l c = ((chosen w r u).1 l c).2
