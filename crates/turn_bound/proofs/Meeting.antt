use Rattle.turn_bound.proofs.Names.{◌≡◌, ◌≤◌, ℕ, ◌&&◌, not, Bool, true, false, refl, sym, ◌∙◌, ap, arith, Ok, inl, inr, ◌||◌, List, [], ◌∷◌}
use Rattle.turn_bound.proofs.Names.{◌++◌, length, subst, all_weaker, trying, Said, frame_for, ready_frame, nr_of, speak, AllByRecursion}
use Rattle.turn_bound.proofs.Names.{Answerer, Frame, Sent, Slot, arrives, Steps, by-ways, next-keeps, steps-so, tries-alike, Phase}
use Rattle.turn_bound.proofs.Names.{Releasing, Answer, is_closed, is_released, Connected}
use Rattle.turn_bound.proofs.Truths.{not-true}
use Rattle.link_account.proofs.Names.{Account}
use Rattle.link_run.proofs.Keeping.{stage}
use Rattle.link_run.proofs.Saying.{Part, is-said}
use Rattle.link_run.proofs.Speaking.{speaks-phase}
use Rattle.turn_bound.proofs.MeetHear.{is_begun, is_ua_due, frame_ua, frame_disc, frame_final, of_frame, of_arrived, o-hears, a-hears}
use Rattle.turn_bound.proofs.Value.{Rates, Stands}
use Rattle.turn_bound.proofs.Run.{served_account, Link, State, Turn, GoingTurn, RunOf, start, arrival, left_on, slot_of, AreTogether}
use Rattle.turn_bound.proofs.Serving.{serves-all}
use Rattle.turn_bound.proofs.Falls.{Sound, Fits, state_after, after-is}
use Rattle.turn_bound.proofs.Ending.{sound-run}

-- What an end says, of either role.
pub record SaysSo (a : Account) (said : Said) : Type 0 where
  pub begun : is_begun said.account.phase ≡ is_begun a.phase
  pub closed : is_closed said.account.phase ≡ is_closed a.phase
  pub released : is_released a.phase ≡ true → is_released said.account.phase ≡ true
  pub disc : of_frame frame_disc said.sent ≡ true → is_released said.account.phase ≡ true
  pub ua : of_frame frame_ua said.sent ≡ true → is_ua_due a.owes.answer ≡ true
  pub due : is_ua_due said.account.owes.answer ≡ true → is_ua_due a.owes.answer ≡ true
  pub final : of_frame frame_final said.sent ≡ true → a.owes.reply ≡ true
  pub reply : said.account.owes.reply ≡ true → a.owes.reply ≡ true
  pub numbered : said.account.numbered ≡ a.numbered
  pub awaits : a.outgoing.awaited ≡ true → said.account.outgoing.awaited ≡ true

-- answers to polls, of an end that waits for one or doesn't and that owes one or doesn't
record Replies (w r : Bool) (said : Said) : Type 0 where
  pub final : of_frame frame_final said.sent ≡ true → r ≡ true
  pub reply : said.account.owes.reply ≡ true → r ≡ true
  pub awaits : w ≡ true → said.account.outgoing.awaited ≡ true

-- what is no answer to a poll, and changes nothing of these
other : (w r : Bool) (said : Said) → said.account.owes.reply ≡ r → (w ≡ true → said.account.outgoing.awaited ≡ true)
    → of_frame frame_final said.sent ≡ false → Replies w r said
other w r said e f l = record { final = λ h. let wrong : true ≡ false = sym h ∙ l in cc; reply = λ h. sym e ∙ h; awaits = f }

answer-final : (d : Answer) (a : Account) → of_frame frame_final (frame_for d a) ≡ false
answer-final d a = grind (arith)

ready-final : (busy command pf : Bool) (nr : ℕ) → frame_final (ready_frame busy command nr pf) ≡ pf && not command
ready-final b command pf nr = grind (arith)

abbrev Answered : Account → Said → Type 0
Answered a = Replies a.outgoing.awaited a.owes.reply

steps : (turn : ℕ) (special : Bool) (a : Account) → Steps (Answered a) turn special a
steps turn special a = grind (arith, other, answer-final, ready-final, nr_of, next-keeps)

replies : (turn : ℕ) (release : Bool) (a : Account) (said : Said) → speak turn release a ≡ Ok said → Answered a said
replies turn release a said e = by-ways (Answered a) turn release a (record {
  answers = λ alone d f. other _ _ _ refl (λ h. h) (answer-final d a);
  flags = λ alone f. other _ _ _ refl (λ h. h) refl;
  mark = λ p r f. other _ _ _ refl (λ h. h) refl;
  odp = λ p r l. other _ _ _ refl (λ h. h) refl;
  xid = λ p r. tries-alike _ turn _ a (λ w. other _ _ _ refl (λ h. h) refl) (other _ _ _ refl (λ h. h) refl);
  sabme = λ p. tries-alike _ turn _ a (λ w. other _ _ _ refl (λ h. h) refl) (other _ _ _ refl (λ h. h) refl);
  linked = grind (arith, steps, steps-so);
  releases = λ p r. tries-alike _ turn _ (trying Releasing turn a) (λ w. other _ _ _ refl (λ h. h) refl) (other _ _ _ refl (λ h. h) refl);
  disc = λ p. tries-alike _ turn _ a (λ w. other _ _ _ refl (λ h. h) refl) (other _ _ _ refl (λ h. h) refl);
}) said e

stage-released : (p : Phase) → 2 ≤ stage p → is_released p ≡ true
stage-released p l = grind (arith)

pub speaks-so : (turn : ℕ) (release : Bool) (a : Account) (said : Said) → speak turn release a ≡ Ok said → SaysSo a said
speaks-so turn release a said e =
    let p = speaks-phase turn release a said e in
    let s = is-said turn release a said e in
    let r = replies turn release a said e in
    record {
      begun = elim p [ inl x ↦ ap is_begun x | inr x ↦ ap is_begun x.1 ∙ sym (ap is_begun x.0) ];
      closed = elim p [ inl x ↦ ap is_closed x | inr x ↦ ap is_closed x.1 ∙ sym (ap is_closed x.0) ];
      released = λ h. elim p [ inl x ↦ ap is_released x ∙ h | inr x ↦ ap is_released x.1 ];
      disc = λ h. stage-released said.account.phase (s.disc h);
      ua = s.ua;
      due = s.owes;
      final = r.final;
      reply = r.reply;
      numbered = ap (λ (x : Part). x.numbered) s.part_is;
      awaits = r.awaits;
    }

-- each slot of that kind on a line says so
abbrev pub Tells : (Frame → Bool) → Type 0 → List Slot → Type 0
Tells f P line = AllByRecursion {X = Slot} (λ slot. of_frame f slot.sent ≡ true → P) line

pub arrives-flag : (f : Frame → Bool) (sent : Sent) → of_arrived f (arrives sent) ≡ of_frame f sent
arrives-flag f sent = grind (arith)

arrival-tells : (f : Frame → Bool) (P : Type 0) (delay : ℕ) (loses : Bool) (line : List Slot) → Tells f P line
    → of_arrived f (arrival delay loses line) ≡ true → P
arrival-tells f P delay loses line h e = grind (arith, arrives-flag)

left-tells : (f : Frame → Bool) (P Q : Type 0) (delay : ℕ) (line : List Slot) → (P → Q) → Tells f P line → Tells f Q (left_on delay line)
left-tells f P Q delay line k h = grind (arith, all_weaker)

tells-snoc : (f : Frame → Bool) (P : Type 0) (line : List Slot) (slot : Slot) → Tells f P line → (of_frame f slot.sent ≡ true → P)
    → Tells f P (line ++ slot ∷ [])
tells-snoc f P [] slot h k = (k, tt)
tells-snoc f P (s ∷ line) slot h k = (h.0, tells-snoc f P line slot h.1 k)

-- How two ends meet, and part.
pub record Meets (s : State) : Type 0 where
  pub closed : is_closed s.answ.phase ≡ true → is_released s.orig.phase ≡ true
  pub begun : is_begun s.orig.phase ≡ true → is_begun s.answ.phase ≡ true
  pub due : is_ua_due s.answ.owes.answer ≡ true → is_begun s.answ.phase ≡ true
  pub reply : s.answ.owes.reply ≡ true → s.answ.numbered ≡ true
  pub discs : Tells frame_disc (is_released s.orig.phase ≡ true) s.forward
  pub uas : Tells frame_ua (is_begun s.answ.phase ≡ true) s.back
  pub finals : Tells frame_final (s.answ.numbered ≡ true) s.back
  pub awaits : s.orig.phase ≡ Connected → s.answ.numbered ≡ false → s.orig.outgoing.awaited ≡ true

-- an answerer that is told to release is closed
pub released-closed : (z : Rates) (before turn : ℕ) (p : Phase) (a : Account) → Stands z before turn Answerer p a → is_released p ≡ true
    → is_closed p ≡ true
released-closed z before turn p a h e = grind (arith)

pub only-linked : (p : Phase) → is_begun p ≡ true → is_released p ≡ false → p ≡ Connected
only-linked p e f = grind (arith)

only-answ : (z : Rates) (before turn : ℕ) (p : Phase) (a : Account) → Stands z before turn Answerer p a → is_begun p ≡ true
    → is_closed p ≡ false → p ≡ Connected
only-answ z before turn p a h e f = grind (arith)

or-either : (a b : Bool) (P : Type 0) → a || b ≡ true → (a ≡ true → P) → (b ≡ true → P) → P
or-either a b P e f g = grind (arith)

meets-start : (link : Link) → Meets (start link)
meets-start link = grind (arith)

meets-turn : (z : Rates) (link : Link) (turn : ℕ) (s : State) (t : Turn) (u : State) → Fits z link → Sound z link turn s → Meets s
    → (g : GoingTurn link turn s t u) → Meets (state_after link turn s g.orig_mid g.answ_mid g.orig_said g.answ_said)
meets-turn z link turn s t u f h m g =
    let back = arrival link.answ.delay t.orig_loses s.back in
    let forward = arrival link.orig.delay t.answ_loses s.forward in
    let released = is_released g.orig_mid.phase in
    let bo = served_account link.orig.user turn released g.orig_mid in
    let ba = served_account link.answ.user turn released g.answ_mid in
    let ro = ap (λ x. x.role) h.orig_setup ∙ f.originates in
    let ra = ap (λ x. x.role) h.answ_setup ∙ f.answers in
    let ho = o-hears back turn s.orig g.orig_mid ro g.orig_hears in
    let ha = a-hears forward turn s.answ g.answ_mid ra g.answ_hears in
    let vo = serves-all link.orig.user turn released g.orig_mid in
    let va = serves-all link.answ.user turn released g.answ_mid in
    let so = speaks-so turn _ bo g.orig_said g.orig_says in
    let sa = speaks-so turn false ba g.answ_said g.answ_says in
    -- each thing from before the turn to after it
    let keeps-begun : is_begun s.answ.phase ≡ true → is_begun g.answ_said.account.phase ≡ true = grind (arith) in
    let keeps-released : is_released s.orig.phase ≡ true → is_released g.orig_said.account.phase ≡ true = grind (arith) in
    let keeps-numbered : s.answ.numbered ≡ true → g.answ_said.account.numbered ≡ true = λ e. sa.numbered ∙ (va.numbered ∙ ha.numbered e) in
    let due : is_ua_due ba.owes.answer ≡ true → is_begun g.answ_said.account.phase ≡ true =
    λ e. sa.begun ∙ (ap is_begun va.phase ∙ ha.due m.due (ap is_ua_due (sym va.answer) ∙ e)) in
    let reply : ba.owes.reply ≡ true → g.answ_said.account.numbered ≡ true =
    λ e. sa.numbered ∙ (va.numbered ∙ ha.reply m.reply (sym va.reply ∙ e)) in
    let final : of_arrived frame_final back ≡ true → s.answ.numbered ≡ true =
    arrival-tells frame_final (s.answ.numbered ≡ true) link.answ.delay t.orig_loses s.back m.finals in
    record {
      closed = λ e. keeps-released
          (or-either (is_released s.answ.phase) (of_arrived frame_disc forward) (is_released s.orig.phase ≡ true)
          (ha.closes (ap is_closed (sym va.phase) ∙ (sym sa.closed ∙ e)))
          (λ r. m.closed (released-closed z turn turn s.answ.phase s.answ h.answ r))
          (arrival-tells frame_disc (is_released s.orig.phase ≡ true) link.orig.delay t.answ_loses s.forward m.discs));
      begun = λ e. keeps-begun
          (or-either (is_begun s.orig.phase) (of_arrived frame_ua back) (is_begun s.answ.phase ≡ true)
          (ho.begins (ap is_begun (sym vo.phase) ∙ (sym so.begun ∙ e))) m.begun
          (arrival-tells frame_ua (is_begun s.answ.phase ≡ true) link.answ.delay t.orig_loses s.back m.uas));
      due = λ e. due (sa.due e);
      reply = λ e. reply (sa.reply e);
      discs = tells-snoc frame_disc (is_released g.orig_said.account.phase ≡ true) (left_on link.orig.delay s.forward)
          (slot_of g.orig_said bo)
          (left-tells frame_disc (is_released s.orig.phase ≡ true)
          (is_released g.orig_said.account.phase ≡ true) link.orig.delay s.forward keeps-released m.discs) so.disc;
      uas = tells-snoc frame_ua (is_begun g.answ_said.account.phase ≡ true) (left_on link.answ.delay s.back) (slot_of g.answ_said ba)
          (left-tells frame_ua (is_begun s.answ.phase ≡ true)
          (is_begun g.answ_said.account.phase ≡ true) link.answ.delay s.back keeps-begun m.uas) (λ e. due (sa.ua e));
      finals = tells-snoc frame_final (g.answ_said.account.numbered ≡ true) (left_on link.answ.delay s.back) (slot_of g.answ_said ba)
          (left-tells frame_final (s.answ.numbered ≡ true)
          (g.answ_said.account.numbered ≡ true) link.answ.delay s.back keeps-numbered m.finals) (λ e. reply (sa.final e));
      awaits = λ e n.
          let unheard : s.answ.numbered ≡ false =
          not-true s.answ.numbered (λ k. let wrong : true ≡ false = sym (keeps-numbered k) ∙ n in cc) in
          let none : of_arrived frame_final back ≡ false =
          not-true (of_arrived frame_final back) (λ k. let wrong : true ≡ false = sym (final k) ∙ unheard in cc) in
          let linked : bo.phase ≡ Connected = only-linked bo.phase (sym so.begun ∙ ap is_begun e)
          (not-true (is_released bo.phase) (λ k. let wrong : true ≡ false = sym (so.released k) ∙ ap is_released e in cc)) in
          so.awaits (ap (λ o. o.awaited) vo.longer.outgoing ∙ ho.awaits (λ k. m.awaits k unheard) none (sym vo.phase ∙ linked));
    }

pub meets-run : (z : Rates) (link : Link) (ts : List Turn) (s : State) → Fits z link → RunOf link ts s → Meets s
meets-run z link [] s f run = subst Meets (sym run) (meets-start link)
meets-run z link (t ∷ ts) s f (before, run, g) =
    subst Meets (sym (after-is link (length ts) before t s g))
    (meets-turn z link (length ts) before t s f (sound-run z link ts before f run) (meets-run z link ts before f run) g)

pub together-run : (z : Rates) (link : Link) (ts : List Turn) (s : State) → Fits z link → RunOf link ts s → AreTogether s
together-run z link ts s f run =
    let m = meets-run z link ts s f run in
    let h = sound-run z link ts s f run in
    record {
      answ = λ e. only-answ z (length ts) (length ts) s.answ.phase s.answ h.answ (m.begun (ap is_begun e))
          (not-true (is_closed s.answ.phase) (λ c. let wrong : true ≡ false = sym (m.closed c) ∙ ap is_released e in cc));
      polls = m.awaits;
    }
