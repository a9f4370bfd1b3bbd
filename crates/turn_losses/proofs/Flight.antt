-- Where an originator is Connected, no SABME of its is on its way; so no UA is due at its peer.
use Rattle.turn_losses.proofs.Names.{◌⊎◌, inl, inr, ◌≡◌, ℕ, Bool, true, false, refl, sym, ◌∙◌, ap, None, Ok, arith, length, suc, zero, ◌+◌}
use Rattle.turn_losses.proofs.Names.{◌-◌, ◌<◌, ◌≤◌, subst, by-ways, numbers-alike, is_some, Sabme, Disc, Arrived, Account, is_connected}
use Rattle.turn_losses.proofs.Names.{hear, on_nothing, trying, Answerer, MayPlay, Originator, ReadsWritten, cases_lt, Role, of, connected}
use Rattle.turn_losses.proofs.Names.{Accounts, Detecting, Establishing, Phase, is_released, frame_disc, of_arrived, of_frame, speaks-so}
use Rattle.turn_losses.proofs.Names.{not-true, clash, rates, Stands, TimedRun, EndRun, TwoEnds, end_of, is_linked}
use Rattle.link_account.proofs.Names.{without_adp}
use Rattle.turn_bound.proofs.MeetHear.{is_ua_due, frame_ua}
use Rattle.turn_losses.proofs.Establishing.{is_sabme, SaidSabme, establishing-from, says-sabme, try-over}
use Rattle.lapm_frames.specs.declared.arrived.Arrived.TheVariants as arrivals
use Rattle.link_account.specs.declared.answer.Answer.TheVariants as answers
use Rattle.turn_losses.proofs.Tracing.{EndTurn, TurnAt, end-turn, starts-fresh, release_of}
use Rattle.turn_losses.proofs.Moving.{TryBegins, TryGoesOn, try-heard}
use Rattle.turn_losses.proofs.Phasing.{established-next, is_established}
use Rattle.turn_losses.proofs.PeriodLaws.{linked-on, two-ends, was-sent}
use Rattle.turn_losses.proofs.Trying.{since-try, tries-so}
use Rattle.turn_losses.proofs.Kept.{kept-in, kept-on}
use Rattle.turn_losses.proofs.View.{deeds-of, answers-are}

-- What makes an answer due.
pub record AnswerBy (arrived : Arrived) (b : Account) : Type 0 where
  pub ua : is_ua_due b.owes.answer ≡ true → (of_arrived is_sabme arrived ≡ true) ⊎ (of_arrived frame_disc arrived ≡ true)
  pub some : is_connected b.phase ≡ true → is_some b.owes.answer ≡ true → of_arrived is_sabme arrived ≡ true

none-by : (arrived : Arrived) (b : Account) → b.owes.answer ≡ None → AnswerBy arrived b
none-by arrived b e = grind (arith)

sabme-by : (pf : Bool) (b : Account) → AnswerBy (arrivals.Frame (Sabme pf)) b
sabme-by pf b = record { ua = λ h. inl refl; some = λ c h. refl }

disc-by : (pf : Bool) (b : Account) → is_connected b.phase ≡ false → AnswerBy (arrivals.Frame (Disc pf)) b
disc-by pf b n = record { ua = λ h. inr refl; some = λ c h. let wrong : true ≡ false = sym c ∙ n in cc }

-- another answer
other-by : (arrived : Arrived) (b : Account) → is_ua_due b.owes.answer ≡ false → is_connected b.phase ≡ false → AnswerBy arrived b
other-by arrived b u n = grind (arith)

pub answer-by : (arrived : Arrived) (turn : ℕ) (a mid : Account) → a.owes.answer ≡ None → hear turn arrived a ≡ Ok mid
    → AnswerBy arrived mid
answer-by arrived turn a mid n h = by-ways AnswerBy turn a (record {
  nothing = none-by arrivals.Nothing (on_nothing a) (ap without_adp n);
  linked = grind (arith, none-by, numbers-alike, sabme-by, disc-by);
  early = grind (arith, none-by, trying, other-by, sabme-by, connected);
}) arrived mid h

-- Once an originator is Connected, its peer hears no SABME any more: each one was answered, or is lost, before the next goes.

-- an end that is Establishing, and is linked once it has heard, heard UA
heard-ua : (arrived : Arrived) (turn : ℕ) (a mid : Account) → a.phase ≡ Establishing → hear turn arrived a ≡ Ok mid
    → is_linked mid.phase ≡ true → of_arrived frame_ua arrived ≡ true
heard-ua arrived turn a mid e h = grind (arith, by-ways, clash)

pub only-establishing : (p : Phase) → is_established p ≡ true → is_linked p ≡ false → p ≡ Establishing
only-establishing p e l = grind (arith)

released-linked : (p : Phase) → is_released p ≡ true → is_linked p ≡ true
released-linked p e = grind (arith)

-- the frame of a try is due no more once it spoke
try-false : (w : TimedRun) → (u : ℕ) → u ≤ length w.ts → (w.state u).orig.phase ≡ Establishing → (w.state u).orig.wait.try ≡ false
try-false w zero l e = let wrong : Detecting ≡ Establishing = ap (λ (x : Accounts). x.orig.phase) (sym w.trace.starts) ∙ e in cc
try-false w (suc u) l e =
    let g = end-turn w Originator u (omega (arith, l)) in
    let b : Account = (end_of w Originator).served u in
    let now : g.said.account.phase ≡ Establishing = ap (λ (x : Account). x.phase) (sym g.after)
    ∙ (ap (λ x. (w.state x).orig.phase) (next u) ∙ e) in
    let from = establishing-from u (release_of w.link u (w.deed u).mid Originator) b g.said g.says now in
    ap (λ x. (w.state x).orig.wait.try) (sym (next u))
    ∙ (ap (λ (x : Account). x.wait.try) g.after ∙ try-over u (release_of w.link u (w.deed u).mid Originator) b g.said from g.says)
  where
    next : (x : ℕ) → x + 1 ≡ suc x
    next x = omega arith

-- a SABME goes of an originator that is Establishing then, as it begins to be so or a period after the last one
pub sabme-sent : (w : TimedRun) → (q : ℕ) → q < length w.ts → of_frame is_sabme ((end_of w Originator).slot q) ≡ true
    → ((w.state (q + 1)).orig.phase ≡ Establishing) × ((w.state q).orig.phase ≡ Establishing → q ≡ (w.state q).orig.wait.try_set + w.period)
sabme-sent w q l e = (ap (λ (x : Account). x.phase) g.after ∙ k.phase, again)
  where
    g : EndTurn w Originator q
    g = end-turn w Originator q l

    i : TurnAt w Originator q
    i = g.in_turn

    sent : of_frame is_sabme g.said.sent ≡ true
    sent = ap (of_frame is_sabme) (sym g.slot) ∙ e

    k : SaidSabme q ((end_of w Originator).served q) g.said
    k = says-sabme q (release_of w.link q (w.deed q).mid Originator) ((end_of w Originator).served q) g.said g.says sent

    again : (w.state q).orig.phase ≡ Establishing → q ≡ (w.state q).orig.wait.try_set + w.period
    again f = by (try-heard ((end_of w Originator).heard q) q (w.state q).orig (w.deed q).mid.orig i.role_is i.hears Establishing refl
        (sym i.served.phase ∙ k.before))
      where
        by : TryGoesOn Establishing ((end_of w Originator).heard q) (w.state q).orig (w.deed q).mid.orig
            ⊎ TryBegins q Establishing (w.state q).orig (w.deed q).mid.orig → q ≡ (w.state q).orig.wait.try_set + w.period
        by (inr (never, _, _, _, _)) = absurd (never f)
        by (inl (_, same', _)) = elim (k.sent sent) [
          | inl due ↦ (let z = ap (λ x. x.try_set) (i.served.wait ∙ same') in omega (arith, due, z, i.b_period))
          | inr try ↦ clash ((end_of w Originator).served q).wait.try try
              (ap (λ x. x.try) (i.served.wait ∙ same') ∙ try-false w q (omega (arith, l)) f)
        ]

pub no-sabme-heard : ReadsWritten → (w : TimedRun) → MayPlay w.link.orig.setup w.link.answ.setup → (s : ℕ) → s < length w.ts
    → is_linked (w.state (s + 1)).orig.phase ≡ true → (t : ℕ) → s ≤ t → t < length w.ts
    → of_arrived is_sabme ((end_of w Answerer).heard t) ≡ true → ⊥
no-sabme-heard reads w m s inside linked t low within heard = elim (cases_lt s q) [
  | inl g ↦ clash (is_linked (o.account (q + 1)).phase)
      (linked-on k (s + 1) (q + 1) (omega (arith, g)) (omega (arith, within)) linked) (ap is_linked was)
  | inr g ↦ clash (is_linked (o.account (s + 1)).phase) linked
      (kept-in (λ u. is_linked (o.account u).phase ≡ false) (q + 1) (s + 1) (omega (arith, g))
      (λ z a b u. not-true (is_linked (o.account (z + 1)).phase) (meets z (omega (arith, a)) (omega (arith, b)) u)) (ap is_linked was))
]
  where
    turns : ℕ
    turns = length w.ts

    o : EndRun
    o = end_of w Originator

    e : EndRun
    e = end_of w Answerer

    k : TwoEnds w.period turns o e
    k = two-ends w Originator

    q : ℕ
    q = t - o.delay

    came : (o.delay ≤ t) × (of_frame is_sabme (o.slot q) ≡ true)
    came = was-sent is_sabme k.is_heard t within heard

    was : (o.account (q + 1)).phase ≡ Establishing
    was = (sabme-sent w q (omega (arith, within)) came.1).0

    -- all between are Establishing
    between : (r z : ℕ) → r ≤ z → z ≤ turns → (o.account r).phase ≡ Establishing → is_linked (o.account z).phase ≡ false
        → (u : ℕ) → r ≤ u → u ≤ z → (o.account u).phase ≡ Establishing
    between r z rz zl f g u a b = only-establishing (o.account u).phase
        (kept-on turns (λ v. is_established (o.account v).phase ≡ true) (established-next w) r u a (omega (arith, b, zl))
        (ap is_established f))
        (not-true (is_linked (o.account u).phase) (λ j. clash (is_linked (o.account z).phase) (linked-on k u z b zl j) g))

    meets : (z : ℕ) → q < z → z ≤ s → is_linked (o.account z).phase ≡ false → is_linked (o.account (z + 1)).phase ≡ true → ⊥
    meets z a b u l = elim ((answer-by (e.heard y) y (e.account y) (e.mid y) g.in_turn.none_due.answer g.in_turn.hears).ua
        (ap is_ua_due (sym g.in_turn.served.answer) ∙ (speaks-so y false (e.served y) g.said g.says).ua
        (ap (of_frame frame_ua) (sym g.slot) ∙ sent.1))) [ inl f ↦ again f | inr f ↦ parts f ]
      where
        z-in : z < turns
        z-in = omega (arith, b, inside)

        zp : (o.account z).phase ≡ Establishing
        zp = between (q + 1) z (omega (arith, a)) (omega (arith, z-in)) was u z (omega (arith, a)) (omega arith)

        y : ℕ
        y = z - e.delay

        sent : (e.delay ≤ z) × (of_frame frame_ua (e.slot y) ≡ true)
        sent = let h = end-turn w Originator z z-in in
            was-sent frame_ua k.hears z z-in
            (heard-ua (o.heard z) z (o.account z) (o.mid z) zp h.in_turn.hears (sym h.linked ∙ l))

        g : EndTurn w Answerer y
        g = end-turn w Answerer y (omega (arith, z-in))

        parts : of_arrived frame_disc (e.heard y) ≡ true → ⊥
        parts f =
            let c = was-sent frame_disc k.is_heard y (omega (arith, z-in)) f in
            let c0 = c.0 in let s0 = sent.0 in
            let v : ℕ = y - o.delay in
            let h = end-turn w Originator v (omega (arith, z-in)) in
            let j = ap (λ (x : Account). is_linked x.phase) h.after
            ∙ released-linked h.said.account.phase ((speaks-so v (release_of w.link v (w.deed v).mid Originator) (o.served v) h.said
            h.says).disc (ap (of_frame frame_disc) (sym h.slot) ∙ c.1)) in
            clash (is_linked (o.account z).phase)
            (linked-on k (v + 1) z (omega (arith, c0, s0, k.other_delay)) (omega (arith, z-in)) j) u

        again : of_arrived is_sabme (e.heard y) ≡ true → ⊥
        again f =
            let c = was-sent is_sabme k.is_heard y (omega (arith, z-in)) f in
            let c0 = c.0 in let s0 = sent.0 in let t0 = came.0 in
            let r : ℕ = y - o.delay in
            let earlier : r < q = omega (arith, c0, s0, t0, b, low, k.other_delay) in
            let first = sabme-sent w r (omega (arith, z-in)) c.1 in
            let now = between (r + 1) z (omega (arith, earlier, a)) (omega (arith, z-in)) first.0 u q (omega (arith, earlier))
            (omega (arith, a)) in
            let set = since-try w.period turns Establishing o (tries-so reads w m Establishing refl)
            (λ f. let wrong : Establishing ≡ Detecting
            = sym f ∙ ap (λ (x : Account). x.phase) (starts-fresh w Originator) in cc) r q earlier (omega (arith, within)) now first.1 in
            let due = (sabme-sent w q (omega (arith, within)) came.1).1 now in
            omega (arith, set, due, c0, s0, a, k.period_is)

-- No UA is due while a break waits.

-- an answerer sends no SABME
pub answ-no-sabme : (w : TimedRun) → (q : ℕ) → q < length w.ts → of_frame is_sabme ((end_of w Answerer).slot q) ≡ true → ⊥
answ-no-sabme w q l e =
    let g = end-turn w Answerer q l in
    let i = g.in_turn in
    let k = says-sabme q false ((end_of w Answerer).served q) g.said g.says (ap (of_frame is_sabme) (sym g.slot) ∙ e) in
    subst (λ x. Stands (rates w.tries w.period) (q + 1) q Answerer x (w.deed q).mid.answ)
    (sym i.heard.phase ∙ (sym i.served.phase ∙ k.before)) i.heard.stands

pub sends-sabme-so : (w : TimedRun) → (r : Role) → (q : ℕ) → q < length w.ts → of_frame is_sabme ((end_of w r).slot q) ≡ true
    → is_connected (of r (w.state (q + 1))).phase ≡ false
sends-sabme-so w r q l e = grind (arith, sabme-sent, answ-no-sabme)

-- where a UA is due at an end that is Connected then, it heard a SABME
pub answers-sabme : (w : TimedRun) → (r : Role) → (u : ℕ) → u < length w.ts → is_connected (of r (w.state (u + 1))).phase ≡ true
    → (deeds-of w r u).answers ≡ true → of_arrived is_sabme ((end_of w r).heard u) ≡ true
answers-sabme w r u l c e =
    let g = end-turn w r u l in
    (answer-by ((end_of w r).heard u) u (of r (w.state u)) (of r (w.deed u).mid) g.in_turn.none_due.answer g.in_turn.hears).some
    (g.connected c) (ap is_some (sym g.in_turn.served.answer) ∙ (sym (answers-are w r u l c) ∙ e))
