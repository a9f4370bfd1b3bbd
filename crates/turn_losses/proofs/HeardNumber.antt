-- What a frame with a number makes of a Connected end: one row for the five of them, with what it makes of the wait for an answer, of the
-- clock, of replies, of what is urgent and of a pause.
use Rattle.turn_losses.proofs.Names.{◌⊎◌, inl, inr, ◌≡◌, ℕ, ◌-◌, ◌<◌, ◌&&◌, ◌||◌, not, Bool, true, false, cond, arith, refl, sym, ◌∙◌, ap}
use Rattle.turn_losses.proofs.Names.{Option, Ok, numbered_with, acked, acked_back, Plain, by-linked, nat_tests, Frame, I, Rr, Rej, Srej}
use Rattle.turn_losses.proofs.Names.{Arrived, Outgoing, advanced, resumed, Incoming, BreakWord, Account, is_connected, hear, ends_wait}
use Rattle.turn_losses.proofs.Names.{of_arrived, meant-range, heard-advanced, heard-resumed, acked-heard, or-false, Rates, is-linked}
use Rattle.turn_losses.proofs.Names.{Sends, SetFrom, is_poll, is_final}
use Rattle.lapm_sender.specs.Numbers.{with_number}
use Rattle.link_account.specs.Hear.{timer_after}
use Rattle.link_account.proofs.HearWays.{Numbers, resumed-unpaused}
use Rattle.turn_bound.proofs.Sender.{Heard, heard-clock, heard-selected}
use Rattle.turn_bound.proofs.MeetHear.{resumed-awaited}
use Rattle.turn_losses.proofs.Words.{of_word}
use Rattle.lapm_frames.specs.declared.arrived.Arrived.TheVariants as arrivals

-- The retry count and the timer are as they were, or the count is 0.
abbrev pub CountStays : Outgoing → Option ℕ → Outgoing → Option ℕ → Type 0
CountStays o timer new timer' = (new.count ≡ 0) ⊎ ((new.count ≡ o.count) × (timer' ≡ timer))

pub record Number (turn : ℕ) (a : Account) (frame : Frame) (new : Outgoing) (timer : Option ℕ) (reply urgent : Bool) : Type 0 where
  pub awaited : new.awaited ≡ cond (is_final frame) false a.outgoing.awaited
  pub clock : (z : Rates) → Sends z turn turn a.outgoing a.wait.timer → CountStays a.outgoing a.wait.timer new timer
  pub set : SetFrom turn a.wait.timer timer
  pub replies : reply ≡ a.owes.reply || is_poll frame
  pub hurries : urgent ≡ true → (a.wait.urgent ≡ true) ⊎ (is_final frame ≡ true)
  pub words : (f : BreakWord → Bool) → of_word f frame ≡ false
  pub paused : new.paused ≡ true → (a.outgoing.paused ≡ true) ⊎ (new.count ≡ 0)
  pub resumes : is_final frame ≡ true → (new.paused ≡ false) ⊎ (new.count ≡ 0)

-- what a frame is that changes nothing
pub record PlainFrame (frame : Frame) : Type 0 where
  pub poll : is_poll frame ≡ false
  pub final : is_final frame ≡ false
  pub words : (f : BreakWord → Bool) → of_word f frame ≡ false

pub plain-frame : (frame : Frame) → Plain frame → PlainFrame frame
plain-frame frame x = grind (arith)

never : {A : Type 0} {b : Bool} → b ≡ false → b ≡ true → A
never e f = let wrong : true ≡ false = sym f ∙ e in cc

set-after : (turn : ℕ) (old new : Outgoing) (timer : Option ℕ) → SetFrom turn timer (timer_after turn old new timer)
set-after turn old new timer = grind (arith)

clock-kept : (z : Rates) (turn : ℕ) (o new : Outgoing) (timer : Option ℕ) → Sends z turn turn o timer → Heard o new
    → CountStays o timer new (timer_after turn o new timer)
clock-kept z turn o new timer s h = grind (arith, heard-clock)

module _ (turn : ℕ) (a : Account) where
  abbrev o : Outgoing
  o = a.outgoing

  -- a number, as far as it goes to the sender's part
  facts : (frame : Frame) (new : Outgoing) (reply urgent : Bool) → new.awaited ≡ cond (is_final frame) false o.awaited
      → ((z : Rates) → Sends z turn turn o a.wait.timer → Heard o new) → reply ≡ a.owes.reply || is_poll frame
      → (urgent ≡ true → (a.wait.urgent ≡ true) ⊎ (is_final frame ≡ true))
      → ((f : BreakWord → Bool) → of_word f frame ≡ false) → (new.paused ≡ true → o.paused ≡ true) →
      (is_final frame ≡ true → new.paused ≡ false)
      → Number turn a frame new (timer_after turn o new a.wait.timer) reply urgent
  facts frame new reply urgent w k r u g p q = record {
    awaited = w;
    clock = λ z s. clock-kept z turn o new a.wait.timer s (k z s);
    set = set-after turn o new a.wait.timer;
    replies = r;
    hurries = u;
    words = g;
    paused = λ e. inl (p e);
    resumes = λ e. inl (q e);
  }

  -- whether it is the answer that is awaited
  awaited-after : (command pf final : Bool) (n : ℕ) → ends_wait command pf a ≡ final
      → ((acked final o n).awaited ≡ cond (pf && not command) false o.awaited)
      × ((acked_back final o n).awaited ≡ cond (pf && not command) false o.awaited)
  awaited-after command pf final n e = grind (arith, acked)

  hurried : (command pf final : Bool) → ends_wait command pf a ≡ final → a.wait.urgent || final ≡ true
      → (a.wait.urgent ≡ true) ⊎ (pf && not command ≡ true)
  hurried command pf final e h = grind (arith)

  -- RR or REJ
  ready : (frame : Frame) (command pf final : Bool) (made : Outgoing) → is_poll frame ≡ (command && pf) → is_final frame ≡
      (pf && not command)
      → ((f : BreakWord → Bool) → of_word f frame ≡ false) → ends_wait command pf a ≡ final
      → made.awaited ≡ cond (pf && not command) false o.awaited → ((z : Rates) → Sends z turn turn o a.wait.timer → Heard o made)
      → Number turn a frame (resumed made) (timer_after turn o (resumed made) a.wait.timer) (a.owes.reply || (command && pf))
      (a.wait.urgent || final)
  ready frame command pf final made poll is words e w k = facts frame (resumed made) _ _
      (resumed-awaited made ∙ (w ∙ ap (λ x. cond x false o.awaited) (sym is))) (λ z s. heard-resumed o made (k z s))
      (ap (λ x. a.owes.reply || x) (sym poll)) (λ h. elim (hurried command pf final e h) [ inl x ↦ inl x | inr x ↦ inr (is ∙ x) ]) words
      (λ h. never (resumed-unpaused made) h) (λ h. resumed-unpaused made)

  pub number-rows : (P : Arrived → Account → Type 0)
      → ((frame : Frame) (new : Outgoing) (incoming : Incoming) (timer : Option ℕ) (reply urgent : Bool)
      → Number turn a frame new timer reply urgent
      → P (arrivals.Frame frame) (numbered_with a new incoming timer reply urgent)) → Numbers P turn a
  number-rows P h = record {
    i = λ ns nr pf info n e. h (I ns nr pf info) _ _ _ _ _ (facts (I ns nr pf info) (advanced o n) _ _ refl
        (λ z s. let r = meant-range o.front o.high nr n e in heard-advanced z turn turn o a.wait.timer n s r.0 r.1) refl (λ u. inl u)
        (λ f. refl)
        (λ u. u) (λ u. cc));
    rr = λ command pf nr n final f e. h (Rr command nr pf) _ _ _ _ _
        (ready (Rr command nr pf) command pf final (acked final o n) refl refl (λ g. refl)
        f (awaited-after command pf final n f).0 (λ z s. (acked-heard z turn turn a final command pf nr n s f e).0));
    rej = λ command pf nr n final f e. h (Rej command nr pf) _ _ _ _ _
        (ready (Rej command nr pf) command pf final (acked_back final o n) refl refl
        (λ g. refl) f (awaited-after command pf final n f).1 (λ z s. (acked-heard z turn turn a final command pf nr n s f e).1));
    rnr = grind (arith, awaited-after);
    srej = λ command pf nr n f e. h (Srej command nr pf) _ _ _ _ _ (facts (Srej command nr pf)
        (record o { chosen = with_number n o.chosen }) _ _ refl
        (λ z s. let r = meant-range o.front (o.high - 1) nr n e in let l : o.front < o.high = grind (arith, nat_tests, f) in
        heard-selected z turn turn o a.wait.timer n s r.0 (omega (arith, r.1, l))) (sym (or-false a.owes.reply)) (λ u. inl u)
        (λ g. refl) (λ u. u)
        (λ u. cc));
  }

-- What hearing makes of the wait for a poll's answer, at a Connected end: a response with F = 1 ends it, and nothing else.
pub await-hears : (arrived : Arrived) (turn : ℕ) (a mid : Account) → is_connected a.phase ≡ true → hear turn arrived a ≡ Ok mid
    → mid.outgoing.awaited ≡ cond (of_arrived is_final arrived) false a.outgoing.awaited
await-hears arrived turn a mid c e = grind (arith, by-linked, is-linked)

-- What hearing makes of the retry count and the timer of a Connected end: the count is 0, or both are as they were.
abbrev pub CountKept : Account → Account → Type 0
CountKept a b = CountStays a.outgoing a.wait.timer b.outgoing b.wait.timer

pub count-hears : (z : Rates) (arrived : Arrived) (turn : ℕ) (a mid : Account) → is_connected a.phase ≡ true
    → Sends z turn turn a.outgoing a.wait.timer → hear turn arrived a ≡ Ok mid → CountKept a mid
count-hears z arrived turn a mid c s e =
    by-linked (λ x b. CountKept a b) turn a
    (record {
      pattern = λ seen. inr (refl, refl);
      plain = λ frame p. inr (refl, refl);
      sabme = λ pf n r. inr (refl, refl);
      disc = λ pf r. inr (refl, refl);
      brk = λ command pf info number length_octet q. inr (refl, refl);
      brkack = λ command pf info number length_octet q. inr (refl, refl);
      numbers = number-rows turn a _ (λ frame new incoming timer reply urgent n. n.clock z s);
    }) (inr (refl, refl)) arrived mid (is-linked a.phase c) e

-- What hearing makes of the other end's pause, at a Connected end: where it begins the retry count is 0, and an answer to a poll ends it or
-- begins it.
pub record PausedHeard (x : Arrived) (a b : Account) : Type 0 where
  pub paused : b.outgoing.paused ≡ true → (a.outgoing.paused ≡ true) ⊎ (b.outgoing.count ≡ 0)
  pub resumes : of_arrived is_final x ≡ true → (b.outgoing.paused ≡ false) ⊎ (b.outgoing.count ≡ 0)

same : (x : Arrived) (a b : Account) → b.outgoing ≡ a.outgoing → of_arrived is_final x ≡ false → PausedHeard x a b
same x a b o f = grind (arith)

pub paused-hears : (x : Arrived) (turn : ℕ) (a mid : Account) → is_connected a.phase ≡ true → hear turn x a ≡ Ok mid → PausedHeard x a mid
paused-hears x turn a mid c e = grind (arith, by-linked, plain-frame, number-rows, is-linked)
