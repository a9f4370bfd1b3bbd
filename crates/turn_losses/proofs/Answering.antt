use Rattle.turn_losses.proofs.Names.{◌≡◌, ℕ, ◌%◌, ◌<◌, ◌&&◌, ◌||◌, not, Bool, true, false, cond, [], arith, refl, sym, ◌∙◌, ap, Option}
use Rattle.turn_losses.proofs.Names.{Some, None, Ok, ◌⊎◌, inl, inr, ◌+◌, length, Plain, ConnectedWays, numbered_with, acked, by-linked}
use Rattle.turn_losses.proofs.Names.{Frame, I, Rnr, Outgoing, advanced, resumed, OwnBreaks, ticked, Account, hear, Arrived, Said, nr_of}
use Rattle.turn_losses.proofs.Names.{speak_linked, Role, speak, of, ends_wait, Connected, is_busy, is_released, Link, of_arrived, Served}
use Rattle.turn_losses.proofs.Names.{linked-says, Rates, Sends, rates, linked-of, is_final, is-linked}
use Rattle.std.proofs.Common.{slice_index_or}
use Rattle.link_account.proofs.Names.{is_outstanding}
use Rattle.link_account.proofs.Names.{may_send, steps}
use Rattle.lapm_sender.specs.Outgoing.{wait_ended, paused_at, after_next, expired}
use Rattle.link_account.specs.Speak.{polling, timer_expires, breaking, after_timers}
use Rattle.link_account.specs.Speak.{then_tries}
use Rattle.turn_bound.proofs.StillTurn.{front-next}
use Rattle.turn_bound.proofs.Truths.{or-true}
use Rattle.lapm_frames.specs.declared.arrived.Arrived.TheVariants as arrivals
use Rattle.lapm_frames.specs.declared.sent.Sent.TheVariants as slots
use Rattle.turn_losses.proofs.Trace.{SendsSegment, AnswerTurn}
use Rattle.turn_losses.proofs.InTurn.{InTurn}

-- RNR
abbrev pub frame_rnr : Frame → Bool
frame_rnr (Rnr command nr pf) = true
frame_rnr frame = false

-- What the answer to the poll that is awaited makes of an end: its wait ends.
pub record AnswerHeard (rnr : Bool) (a b : Account) : Type 0 where
  pub phase : b.phase ≡ a.phase
  pub numbered : b.numbered ≡ true
  pub awaited : b.outgoing.awaited ≡ false
  pub from : b.outgoing.from ≡ b.outgoing.front
  pub chosen : b.outgoing.chosen ≡ []
  pub paused : rnr ≡ false → b.outgoing.paused ≡ false
  pub urgent : rnr ≡ false → b.wait.urgent ≡ true
  pub busy : rnr ≡ true → b.outgoing.count ≡ 0
  pub idle : rnr ≡ false → is_outstanding b.outgoing ≡ false → b.outgoing.count ≡ 0
  pub reply : b.owes.reply ≡ a.owes.reply
  pub answer : b.owes.answer ≡ a.owes.answer
  pub poll : b.wait.poll ≡ a.wait.poll

record Ended (n : Outgoing) : Type 0 where
  pub awaited : n.awaited ≡ false
  pub from : n.from ≡ n.front
  pub chosen : n.chosen ≡ []
  pub paused : n.paused ≡ false
  pub idle : is_outstanding n ≡ false → n.count ≡ 0

ended-resumed : (o : Outgoing) → Ended (resumed (wait_ended o))
ended-resumed o = grind (arith)

-- what arrived is the answer
module _ (turn : ℕ) (a : Account) (w : a.outgoing.awaited ≡ true) where
  abbrev P : Arrived → Account → Type 0
  P x mid = of_arrived is_final x ≡ true → AnswerHeard (of_arrived frame_rnr x) a mid

  resumes : (n : ℕ) (new : Outgoing) (timer : Option ℕ) (command pf final : Bool) → ends_wait command pf a ≡ final
      → (final ≡ true → new ≡ wait_ended (advanced a.outgoing n)) → pf && not command ≡ true
      → AnswerHeard false a
      (numbered_with a (resumed new) a.incoming timer (a.owes.reply || (command && pf)) (a.wait.urgent || final))
  resumes n new timer command pf final g h f = grind (arith, ended-resumed)

  pauses : (n : ℕ) (command pf final : Bool) → ends_wait command pf a ≡ final → pf && not command ≡ true
      → AnswerHeard true a
      (numbered_with a (paused_at (acked final a.outgoing n)) a.incoming (Some turn) (a.owes.reply || (command && pf)) a.wait.urgent)
  pauses n command pf final g f = grind (arith)

  plain : (frame : Frame) → Plain frame → P (arrivals.Frame frame) a
  plain frame y f = grind (arith)

  answer-ways : ConnectedWays P turn a
  answer-ways = grind (arith)

  pub answer-hears : (frame : Frame) (mid : Account) → a.phase ≡ Connected → is_final frame ≡ true
      → hear turn (arrivals.Frame frame) a ≡ Ok mid → AnswerHeard (frame_rnr frame) a mid
  answer-hears frame mid e f h = by-linked P turn a answer-ways (λ f. cc) (arrivals.Frame frame) mid e h f

-- The first segment goes at once where it is urgent and nothing comes before it.
pub record Segment (n : ℕ) (a : Account) (said : Said) : Type 0 where
  pub sent : said.sent ≡ slots.Frame (I (n % 128) (nr_of a) false (slice_index_or a.outgoing.pieces n []))
  pub number : said.number ≡ n
  pub outgoing : said.account.outgoing ≡ after_next a.outgoing

steps-urgent : (turn n : ℕ) (special : Bool) (a : Account) → a.owes.answer ≡ None → a.owes.reply ≡ false → a.wait.poll ≡ false
    → a.wait.urgent ≡ true → may_send a ≡ Some n → Segment n a (steps turn special a)
steps-urgent turn n special a e1 e2 e3 e4 e5 = grind (arith)

pub urgent-says : (turn n : ℕ) (a : Account) (said : Said) → speak_linked turn a ≡ Ok said → timer_expires turn a a.wait.timer ≡ false
    → a.owes.answer ≡ None → a.owes.reply ≡ false → a.wait.poll ≡ false → a.wait.urgent ≡ true
    → may_send a ≡ Some n → Segment n a said
urgent-says turn n a said h t e1 e2 e3 e4 e5 =
    go (ticked turn a.setup.period a.setup.tries a.own_breaks)
    (sym (ap (λ x. after_timers turn a.special (then_tries turn (cond x (polling turn (expired a.outgoing) a) (Ok a)))) t) ∙ h)
  where
    go : (m : Option OwnBreaks) → after_timers turn a.special (breaking turn m a) ≡ Ok said → Segment n a said
    go m q = grind (arith, steps-urgent, steps)

-- where the wait has ended and something is outstanding, it may be sent
pub front-may : (z : Rates) (before turn : ℕ) (a : Account) → Sends z before turn a.outgoing a.wait.timer → a.numbered ≡ true
    → a.outgoing.awaited ≡ false → a.outgoing.paused ≡ false → a.outgoing.from ≡ a.outgoing.front → a.outgoing.chosen ≡ []
    → is_outstanding a.outgoing ≡ true → may_send a ≡ Some a.outgoing.front
front-may z before turn a s n w p f c o = grind (arith, or-true, front-next)

not-expires : (turn : ℕ) (a : Account) (m : Option ℕ) → ((s : ℕ) → m ≡ Some s → turn < s + a.setup.period) → timer_expires turn a m ≡ false
not-expires turn a m h = grind (arith)

-- the turn of one end in which it hears the answer
module _ {tries period : ℕ} {link : Link} {role : Role} {turn : ℕ} {a : Account} {arrived : Arrived} {mid b : Account}
    (i : InTurn tries period link role turn a arrived mid b) where
  pub end-answers : (release : Bool) (said : Said) → speak turn release b ≡ Ok said → AnswerTurn period turn arrived a mid b said
  end-answers release said speaks c w p final c' bound = framed arrived i.hears final
    where
      framed : (x : Arrived) → hear turn x a ≡ Ok mid → of_arrived is_final x ≡ true
          → (mid.outgoing.count ≡ 0) ⊎ SendsSegment mid.outgoing.front b said
      framed arrivals.Nothing q f = cc
      framed (arrivals.Pattern seen) q f = cc
      framed (arrivals.Frame frame) q f = by (frame_rnr frame) refl
        where
          t : AnswerHeard (frame_rnr frame) a mid
          t = answer-hears turn a w frame mid (is-linked a.phase c) f q

          s : Served turn (length (of role link).user.breaks) (is_busy turn (of role link).user.busy) mid b
          s = i.served

          front : b.outgoing.front ≡ mid.outgoing.front
          front = ap (λ o. o.front) s.longer.outgoing

          phase : b.phase ≡ Connected
          phase = s.phase ∙ (t.phase ∙ is-linked a.phase c)

          sends : Sends (rates tries period) (turn + 1) turn b.outgoing b.wait.timer
          sends = grind (arith, linked-of, rates, s, phase)

          unexpired : timer_expires turn b b.wait.timer ≡ false
          unexpired = grind (arith, not-expires)

          sent : frame_rnr frame ≡ false → is_outstanding mid.outgoing ≡ true → SendsSegment mid.outgoing.front b said
          sent r o =
              let g : Segment b.outgoing.front b said =
              urgent-says turn b.outgoing.front b said (linked-says turn release b said phase c' speaks).0 unexpired
              (s.answer ∙ (t.answer ∙ i.none_due.answer)) (s.reply ∙ (t.reply ∙ i.none_due.reply (ap is_released (is-linked a.phase c))))
              (ap (λ v. v.poll) s.wait ∙ (t.poll ∙ p)) (ap (λ v. v.urgent) s.wait ∙ t.urgent r)
              (front-may (rates tries period) (turn + 1) turn b sends (s.numbered ∙ t.numbered)
              (ap (λ v. v.awaited) s.longer.outgoing ∙ t.awaited)
              (ap (λ v. v.paused) s.longer.outgoing ∙ t.paused r)
              (ap (λ v. v.from) s.longer.outgoing ∙ (t.from ∙ sym front)) (ap (λ v. v.chosen) s.longer.outgoing ∙ t.chosen)
              (ap is_outstanding s.longer.outgoing ∙ o)) in grind (arith, front)

          by : (r : Bool) → frame_rnr frame ≡ r → (mid.outgoing.count ≡ 0) ⊎ SendsSegment mid.outgoing.front b said
          by true r = inl (t.busy r)
          by false r = on (is_outstanding mid.outgoing) refl
            where
              on : (o : Bool) → is_outstanding mid.outgoing ≡ o → (mid.outgoing.count ≡ 0) ⊎ SendsSegment mid.outgoing.front b said
              on true o = inr (sent r o)
              on false o = inl (t.idle r o)
