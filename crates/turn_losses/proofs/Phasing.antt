-- How the phases of both ends stand together between the turns of a run.
use Rattle.turn_losses.proofs.Names.{arith, ◌≡◌, ℕ, ◌<◌, true, length, map, ◌⊎◌, inl, inr, ◌+◌, ◌≤◌, Bool, false, refl, sym, ◌∙◌, ap, subst}
use Rattle.turn_losses.proofs.Names.{Ok, numbers-alike, Originator, Answerer, Arrived, Account, hear, Said, speak, is_released, is_closed}
use Rattle.turn_losses.proofs.Names.{Accounts, Phase, Detecting, Negotiating, Establishing, speaks-phase, fits, is_begun, of_frame}
use Rattle.turn_losses.proofs.Names.{of_arrived, speaks-so, Tied, tied, keeps, link_of, turn_of, state_of, rates, Stands, TimedRun, past}
use Rattle.turn_losses.proofs.Names.{end_of}
use Rattle.turn_bound.proofs.Meeting.{Meets, meets-run}
use Rattle.turn_losses.proofs.Establishing.{is_sabme, says-sabme}
use Rattle.turn_losses.proofs.Tracing.{release_of, end-turn}
use Rattle.turn_losses.proofs.Follows.{follows}
use Rattle.link_account.proofs.HearWays as HearWays

-- An answerer is Closed only where the originator is told to release, and begins before it.
pub record Met (ends : Accounts) : Type 0 where
  pub closed : is_closed ends.answ.phase ≡ true → is_released ends.orig.phase ≡ true
  pub begun : is_begun ends.orig.phase ≡ true → is_begun ends.answ.phase ≡ true

pub met : (w : TimedRun) → (u : ℕ) → u < length w.ts → Met (w.state u)
met w u l =
    let h = w.trace.happens u l in
    let i : Tied w.delay w.link (past w.ts u) (w.state u) = tied w.delay w.link (past w.ts u) (w.state u) w.keeps.delays h.run h.carried in
    let m : Meets (state_of (w.state u) i.forward i.back) = meets-run (rates w.tries w.period) (link_of w.delay w.link)
    (map turn_of (past w.ts u)) (state_of (w.state u) i.forward i.back)
    (fits w.tries w.period (link_of w.delay w.link) (keeps w.tries w.period w.delay w.link w.keeps)) i.run in grind (arith)

-- An answerer begins only once the originator establishes the link.

-- only a SABME begins an answerer
begun-by : (arrived : Arrived) (turn : ℕ) (a mid : Account) → a.setup.role ≡ Answerer → (a.phase ≡ Establishing → ⊥)
    → hear turn arrived a ≡ Ok mid → is_begun mid.phase ≡ true → (is_begun a.phase ≡ true) ⊎ (of_arrived is_sabme arrived ≡ true)
begun-by arrived turn a mid er n h = grind (arith, numbers-alike)

-- An originator that establishes the link, or did.
abbrev pub is_established : Phase → Bool
is_established Detecting = false
is_established Negotiating = false
is_established p = true

-- it goes on so, as it hears
pub stays-established : (arrived : Arrived) (turn : ℕ) (a mid : Account) → hear turn arrived a ≡ Ok mid → is_established a.phase ≡ true
    → is_established mid.phase ≡ true
stays-established arrived turn a mid h c = HearWays.by-ways (λ x b. is_established b.phase ≡ true) turn a (record {
  nothing = c;
  linked = grind (arith, numbers-alike);
  early = grind (arith);
}) arrived mid h

-- and as it speaks
says-established : (turn : ℕ) (release : Bool) (b : Account) (said : Said) → speak turn release b ≡ Ok said → is_established b.phase ≡ true
    → is_established said.account.phase ≡ true
says-established turn release b said h c = elim (speaks-phase turn release b said h) [
  | inl e ↦ ap is_established e ∙ c
  | inr x ↦ ap is_established x.1
]

-- so it is all through a run
pub established-next : (w : TimedRun) → (u : ℕ) → u < length w.ts → is_established (w.state u).orig.phase ≡ true
    → is_established (w.state (u + 1)).orig.phase ≡ true
established-next w u l c =
    let g = end-turn w Originator u l in
    ap (λ (y : Account). is_established y.phase) g.after
    ∙ says-established u (release_of w.link u (w.deed u).mid Originator) ((end_of w Originator).served u) g.said g.says
    (ap is_established g.in_turn.served.phase
    ∙ stays-established ((end_of w Originator).heard u) u (w.state u).orig (w.deed u).mid.orig g.in_turn.hears c)

pub begun-established : (w : TimedRun) → (u : ℕ) → u ≤ length w.ts → is_begun (w.state u).answ.phase ≡ true
    → is_established (w.state u).orig.phase ≡ true
begun-established w = follows w Answerer is_sabme (λ a. is_begun a.phase) (λ a. is_established a.phase) refl from sent (established-next w)
  where
    from : (u : ℕ) → u < length w.ts → is_begun (w.state (u + 1)).answ.phase ≡ true
        → (is_begun (w.state u).answ.phase ≡ true) ⊎ (of_arrived is_sabme ((end_of w Answerer).heard u) ≡ true)
    from u l b =
        let g = end-turn w Answerer u l in
        begun-by ((end_of w Answerer).heard u) u (w.state u).answ (w.deed u).mid.answ g.in_turn.role_is
        (λ e. subst (λ p. Stands (rates w.tries w.period) u u Answerer p (w.state u).answ) e g.in_turn.stands) g.in_turn.hears
        (ap is_begun (sym g.in_turn.served.phase) ∙ (sym (speaks-so u false ((end_of w Answerer).served u) g.said g.says).begun
        ∙ (ap (λ (y : Account). is_begun y.phase) (sym g.after) ∙ b)))

    sent : (v : ℕ) → v < length w.ts → of_frame is_sabme ((end_of w Originator).slot v) ≡ true
        → is_established (w.state (v + 1)).orig.phase ≡ true
    sent v l f =
        let g = end-turn w Originator v l in
        ap (λ (y : Account). is_established y.phase) g.after
        ∙ ap is_established (says-sabme v (release_of w.link v (w.deed v).mid Originator) ((end_of w Originator).served v) g.said g.says
        (ap (of_frame is_sabme) (sym g.slot) ∙ f)).phase
