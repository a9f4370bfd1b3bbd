-- What stays once it is so, and what only a frame brings that the other end sends once something stays at it.
use Rattle.turn_losses.proofs.Names.{◌⊎◌, inl, inr, ◌≡◌, ℕ, zero, suc, ◌+◌, ◌-◌, ◌<◌, ◌≤◌, Bool, true, false, length, arith, ◌∙◌, ap, subst}
use Rattle.turn_losses.proofs.Names.{sym, Ok, refl, Role, other, of, Frame, Account, Said, speak, fresh, speaks-phase, of_frame, of_arrived}
use Rattle.turn_losses.proofs.Names.{clash, TimedRun, EndRun, end_of, is_linked}
use Rattle.turn_losses.proofs.PeriodLaws.{was-sent, two-ends}
use Rattle.turn_losses.proofs.Tracing.{starts-fresh, release_of, end-turn}
use Rattle.turn_losses.proofs.Kept.{kept-on}
use Rattle.link_run.proofs.Keeping.{linked-phase}
use Rattle.link_run.proofs.Meeting.{is_counted, is-told}
use Rattle.link_run.proofs.Saying.{Part, is-said}

-- where an end has the one, the other end has the other
module _ (w : TimedRun) (r : Role) (kind : Frame → Bool) (has stays : Account → Bool) (first : has (fresh (of r w.link).setup) ≡ false)
    (from : (u : ℕ) → u < length w.ts → has (of r (w.state (u + 1))) ≡ true
    → (has (of r (w.state u)) ≡ true) ⊎ (of_arrived kind ((end_of w r).heard u) ≡ true))
    (sent : (v : ℕ) → v < length w.ts → of_frame kind ((end_of w (other r)).slot v) ≡ true → stays (of (other r) (w.state (v + 1))) ≡ true)
    (next : (u : ℕ) → u < length w.ts → stays (of (other r) (w.state u)) ≡ true → stays (of (other r) (w.state (u + 1))) ≡ true) where
  pub follows : (u : ℕ) → u ≤ length w.ts → has (of r (w.state u)) ≡ true → stays (of (other r) (w.state u)) ≡ true
  follows zero l h = clash (has (of r (w.state 0))) h (ap has (starts-fresh w r) ∙ first)
  follows (suc u) l h = subst (λ x. stays (of (other r) (w.state x)) ≡ true) (omega arith)
      (by (from u (omega (arith, l)) (ap (λ x. has (of r (w.state x))) (omega arith) ∙ h)) (λ q. follows u (omega (arith, l)) q))
    where
      e : EndRun
      e = end_of w r

      o : EndRun
      o = end_of w (other r)

      by : (has (of r (w.state u)) ≡ true) ⊎ (of_arrived kind (e.heard u) ≡ true)
          → (has (of r (w.state u)) ≡ true → stays (of (other r) (w.state u)) ≡ true) → stays (of (other r) (w.state (u + 1))) ≡ true
      by (inl q) again = next u (omega (arith, l)) (again q)
      by (inr q) again =
          let x = was-sent kind (two-ends w r).hears u (omega (arith, l)) q in
          kept-on (length w.ts) (λ v. stays (of (other r) (w.state v)) ≡ true) next (u - o.delay + 1) (u + 1) (omega arith)
          (omega (arith, l)) (sent (u - o.delay) (omega (arith, l)) x.1)

-- An answerer that heard a number has a peer that is Connected, or was.

-- only a Connected end sends an I frame or a supervisory frame
counted-linked : (turn : ℕ) (release : Bool) (b : Account) (said : Said) → speak turn release b ≡ Ok said
    → of_frame is_counted said.sent ≡ true → is_linked said.account.phase ≡ true
counted-linked turn release b said h c = elim (speaks-phase turn release b said h) [
  | inl e ↦ ap is_linked (e ∙ linked-phase b.phase ((is-said turn release b said h).counted c))
  | inr x ↦ ap is_linked x.1
]

-- where an end is numbered, its peer is Connected or was
pub numbered-linked : (w : TimedRun) → (role : Role) → (u : ℕ) → u ≤ length w.ts → (of role (w.state u)).numbered ≡ true
    → is_linked (of (other role) (w.state u)).phase ≡ true
numbered-linked w role = follows w role is_counted (λ a. a.numbered) (λ a. is_linked a.phase) refl from sent
    (λ u l. ((w.trace.happens u l).polls (other role)).linked)
  where
    from : (u : ℕ) → u < length w.ts → (of role (w.state (u + 1))).numbered ≡ true
        → ((of role (w.state u)).numbered ≡ true) ⊎ (of_arrived is_counted ((end_of w role).heard u) ≡ true)
    from u l n =
        let g = end-turn w role u l in
        (is-told u ((end_of w role).heard u) (of role (w.state u)) (of role (w.deed u).mid) g.in_turn.hears).numbered
        (sym g.in_turn.served.numbered
        ∙ (sym (ap (λ (p : Part). p.numbered) (is-said u (release_of w.link u (w.deed u).mid role) ((end_of w role).served u) g.said
        g.says).part_is) ∙ (ap (λ (x : Account). x.numbered) (sym g.after) ∙ n)))

    sent : (v : ℕ) → v < length w.ts → of_frame is_counted ((end_of w (other role)).slot v) ≡ true
        → is_linked (of (other role) (w.state (v + 1))).phase ≡ true
    sent v l f =
        let g = end-turn w (other role) v l in
        ap (λ (x : Account). is_linked x.phase) g.after
        ∙ counted-linked v (release_of w.link v (w.deed v).mid (other role)) ((end_of w (other role)).served v) g.said g.says
        (ap (of_frame is_counted) (sym g.slot) ∙ f)
