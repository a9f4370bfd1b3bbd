use Rattle.turn_bound.proofs.Names.{arith, ◌≡◌, ℕ, ◌&&◌, ◌||◌, not, Bool, true, false, refl, sym, ◌∙◌, Option, Ok, numbers-alike}
use Rattle.turn_bound.proofs.Names.{Originator, Answerer, Frame, Rr, Rnr, Rej, Outgoing, resumed, Arrived, hear, without_adp, Phase}
use Rattle.turn_bound.proofs.Names.{Connected, Answer, is_closed, is_released}
use Rattle.turn_bound.proofs.Truths.{or-first, or-true}
use Rattle.link_account.proofs.Names.{Account}
use Rattle.link_account.proofs.HearWays.{Ways, by-ways}
pub use Rattle.link_run.proofs.Meeting.{is_ua as frame_ua, is_disc as frame_disc, carries as of_frame, brings as of_arrived}
pub use Rattle.link_run.proofs.Meeting.{owes_ua as is_ua_due}
pub use Rattle.link_account.specs.Laws.{has_begun as is_begun}

-- the answer to a poll
abbrev pub frame_final : Frame → Bool
frame_final (Rr command nr pf) = pf && not command
frame_final (Rnr command nr pf) = pf && not command
frame_final (Rej command nr pf) = pf && not command
frame_final frame = false

-- An originator hears.
pub record OHeard (ua final : Bool) (a b : Account) : Type 0 where
  pub begins : is_begun b.phase ≡ true → is_begun a.phase || ua ≡ true
  pub released : is_released a.phase ≡ true → is_released b.phase ≡ true
  pub awaits : (a.phase ≡ Connected → a.outgoing.awaited ≡ true) → final ≡ false → b.phase ≡ Connected → b.outgoing.awaited ≡ true

-- it is not begun after it
o-early : (ua final : Bool) (a b : Account) (p q : Phase) → a.phase ≡ p → b.phase ≡ q → is_released p ≡ false → is_begun q ≡ false
    → OHeard ua final a b
o-early ua final a b p q e f r n = grind (arith)

pub resumed-awaited : (o : Outgoing) → (resumed o).awaited ≡ o.awaited
resumed-awaited o = grind (arith)

-- a number is heard: the wait goes on unless the answer came

o-ways : (turn : ℕ) (a : Account) → a.setup.role ≡ Originator
    → Ways (λ x b. OHeard (of_arrived frame_ua x) (of_arrived frame_final x) a b) turn a
o-ways turn a er = grind (arith)

pub o-hears : (arrived : Arrived) (turn : ℕ) (a mid : Account) → a.setup.role ≡ Originator → hear turn arrived a ≡ Ok mid
    → OHeard (of_arrived frame_ua arrived) (of_arrived frame_final arrived) a mid
o-hears arrived turn a mid er h = by-ways _ turn a (o-ways turn a er) arrived mid h

-- An answerer hears.
pub record AHeard (disc : Bool) (a b : Account) : Type 0 where
  pub begun : is_begun a.phase ≡ true → is_begun b.phase ≡ true
  pub closes : is_closed b.phase ≡ true → is_released a.phase || disc ≡ true
  pub due : (is_ua_due a.owes.answer ≡ true → is_begun a.phase ≡ true) → is_ua_due b.owes.answer ≡ true → is_begun b.phase ≡ true
  pub reply : (a.owes.reply ≡ true → a.numbered ≡ true) → b.owes.reply ≡ true → b.numbered ≡ true
  pub numbered : a.numbered ≡ true → b.numbered ≡ true

closed-released : (p : Phase) (c : Bool) → is_closed p ≡ true → is_released p || c ≡ true
closed-released p c e = grind (arith)

a-same : (disc : Bool) (a b : Account) → b.phase ≡ a.phase → (is_ua_due b.owes.answer ≡ true → is_ua_due a.owes.answer ≡ true)
    → b.owes.reply ≡ a.owes.reply → b.numbered ≡ a.numbered → AHeard disc a b
a-same disc a b p w r n = grind (arith)

-- a UA becomes due at an end that is begun
a-begun : (disc : Bool) (a b : Account) → is_begun b.phase ≡ true → (is_closed b.phase ≡ true → is_released a.phase || disc ≡ true)
    → b.owes.reply ≡ a.owes.reply → b.numbered ≡ a.numbered → AHeard disc a b
a-begun disc a b e c r n = record { begun = λ h. e; closes = c; due = λ k h. e; reply = λ k h. n ∙ k (sym r ∙ h); numbered = λ h. n ∙ h }

a-ways : (turn : ℕ) (a : Account) → a.setup.role ≡ Answerer → Ways (λ x b. AHeard (of_arrived frame_disc x) a b) turn a
a-ways turn a er = record {
  nothing = a-same false a _ refl (less a.owes.answer) refl refl;
  linked = grind (arith, a-same, numbers-alike, closed-released, a-begun, or-true);
  early = grind (arith, a-same, never, a-begun, or-first);
}
  where
    less : (m : Option Answer) → is_ua_due (without_adp m) ≡ true → is_ua_due m ≡ true
    less p h = grind (arith)

    never : {A : Type 0} → a.setup.role ≡ Originator → A
    never r = let wrong : Answerer ≡ Originator = sym er ∙ r in cc

pub a-hears : (arrived : Arrived) (turn : ℕ) (a mid : Account) → a.setup.role ≡ Answerer → hear turn arrived a ≡ Ok mid
    → AHeard (of_arrived frame_disc arrived) a mid
a-hears arrived turn a mid er h = by-ways _ turn a (a-ways turn a er) arrived mid h
