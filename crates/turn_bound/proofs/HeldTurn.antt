-- A Connected end with a segment to send and nothing outstanding sends it, or something else goes first that it pays for.
use Rattle.turn_bound.proofs.Names.{◌≡◌, ℕ, ◌+◌, ◌-◌, ◌%◌, ◌<◌, ◌≤◌, ◌&&◌, ◌||◌, ◌⊎◌, min, Bool, true, false, cond, nat_eq, [], ◌∷◌, subst}
use Rattle.turn_bound.proofs.Names.{◌++◌, length, slice_index_or, inl, inr, arith, refl, sym, ◌∙◌, ap, Some, None, not, nat_lt, Ok}
use Rattle.turn_bound.proofs.Names.{is_whole, is_some, nat_tests, is_originator, next_number, Incoming, BreakWord, Brk, Said, may_send}
use Rattle.turn_bound.proofs.Names.{Role, wanted, Arrived, is_connected, speak, NoWord, Steps, steps-so, differs, Connected, User, is_busy}
use Rattle.turn_bound.proofs.Names.{is_released, NoneDue}
use Rattle.link_account.proofs.Names.{OwnBreaks, waits, ticked}
use Rattle.link_account.proofs.Names.{Account}
use Rattle.turn_bound.proofs.Value.{Rates, AreRates, is_waiting, Sends, IsOf, ends, one_if, lasts, sender_value, Linked, Stands}
use Rattle.turn_bound.proofs.Value.{arrived_weight, arrived_rnrs}
use Rattle.turn_bound.proofs.Sending.{sent-well, ends-same}
use Rattle.turn_bound.proofs.StillTurn.{asks-rej, idle-next, Stays, stays, or-numbered}
use Rattle.turn_bound.proofs.Taking.{own_value, held_value, owed_by, may_send_at, frame_poll, TakesNumber, Takes, Closes, takes, served-own}
use Rattle.turn_bound.proofs.Taking.{served-owes}
use Rattle.turn_bound.proofs.Sender.{heard-well}
use Rattle.turn_bound.proofs.Speaking.{Spoke, spoke, untimed, stopped}
use Rattle.turn_bound.proofs.Falls.{Offered, full-or-ended}
use Rattle.turn_bound.proofs.Pausing.{Calm, says-calm}
use Rattle.turn_bound.proofs.OneTurn.{Hearing}
use Rattle.turn_bound.proofs.MeetHear.{of_arrived}

-- what the break's timer makes of it
pub ticks-value : (z : Rates) (turn : ℕ) (b : Account) (own : OwnBreaks) → AreRates z → IsOf z b.setup
    → ticked turn b.setup.period b.setup.tries b.own_breaks ≡ Some own → own_value (turn + 1) own ≤ own_value turn b.own_breaks + 1
ticks-value z turn b own y k h =
    go (waits b.own_breaks) refl (nat_eq turn (b.own_breaks.set + b.setup.period)) refl (nat_eq b.own_breaks.count b.setup.tries) h
  where
    later : (w : Bool) → cond b.own_breaks.brk 8 0 + cond w (min 8 (turn + 1 - b.own_breaks.set)) (8 - (b.own_breaks.rest - (turn + 1)))
        ≤ cond b.own_breaks.brk 8 0 + cond w (min 8 (turn - b.own_breaks.set)) (8 - (b.own_breaks.rest - turn)) + 1
    later w = grind (arith)

    quiet : b.own_breaks ≡ own → own_value (turn + 1) own ≤ own_value turn b.own_breaks + 1
    quiet same = subst (λ o. own_value (turn + 1) o ≤ own_value turn b.own_breaks + 1) same (later (waits b.own_breaks))

    go : (w : Bool) → waits b.own_breaks ≡ w → (due : Bool) → nat_eq turn (b.own_breaks.set + b.setup.period) ≡ due → (spent' : Bool)
        → cond (w && due) (cond spent' None (Some (record b.own_breaks { brk = true; set = turn; count = b.own_breaks.count + 1 })))
        (Some b.own_breaks) ≡ Some own → own_value (turn + 1) own ≤ own_value turn b.own_breaks + 1
    go w w2 due d s f = grind (arith, quiet)

-- A Connected account whose timers are done, with a segment to send, nothing waited for and no answer due.
pub record Ready (z : Rates) (turn : ℕ) (a : Account) : Type 0 where
  pub sends : Sends z (turn + 1) (turn + 1) a.outgoing a.wait.timer
  pub idle : is_waiting a.outgoing ≡ false
  pub answer : a.owes.answer ≡ None
  pub busy : a.owes.busy ≡ false
  pub told : a.owes.busy_told ≡ false
  pub may : may_send_at a ≡ true
  pub more : a.outgoing.front < length a.outgoing.pieces

-- what holds up a segment, without the mark of the last speaking, which comes beside it
abbrev pub base_value : ℕ → Bool → Account → ℕ
base_value turn special a = owed_by a + cond special 0 4 + own_value (turn + 1) a.own_breaks + cond a.wait.poll 16 0

-- what is said pays: an F reply for a poll that was heard, an SREJ where no break is to be answered, and all else for more
pub data Pays (turn : ℕ) (special : Bool) (a b : Account) : Type 0 where
  Replies : a.owes.reply ≡ true → held_value (turn + 1) b ≤ base_value turn special a + 4 → Pays turn special a b
  Much : held_value (turn + 1) b + 12 ≤ base_value turn special a → Pays turn special a b
  Srejs : a.incoming.srej ≡ true → is_some a.their_breaks.ack ≡ false → held_value (turn + 1) b + 4 ≤ base_value turn special a
      → Pays turn special a b

pub record Held (turn : ℕ) (special : Bool) (a b : Account) : Type 0 where
  pub outgoing : b.outgoing ≡ a.outgoing
  pub timer : b.wait.timer ≡ a.wait.timer
  pub pays : Pays turn special a b

abbrev pub Goes : ℕ → Bool → Account → Said → Type 0
Goes turn special a said = (is_waiting said.account.outgoing ≡ true) ⊎ Held turn special a said.account

-- there is one to send
some-free : (z : Rates) (turn : ℕ) (a : Account) → Ready z turn a → may_send a ≡ None → ⊥
some-free z turn a h e = grind (arith, idle-next)

-- the steps
module _ (z : Rates) (turn : ℕ) (special : Bool) (a : Account) (y : AreRates z) (h : Ready z turn a) (s : a.special ≡ false) where
  -- of the same sender's part
  holds : (b : Account) → b.outgoing ≡ a.outgoing → b.wait.timer ≡ a.wait.timer → Pays turn special a b
      → (is_waiting b.outgoing ≡ true) ⊎ Held turn special a b
  holds b e f p = inr (record { outgoing = e; timer = f; pays = p })

  fresh4 : cond {A = ℕ} a.special 0 4 ≡ 4
  fresh4 = ap (λ b. cond {A = ℕ} b 0 4) s

  four : special ≡ false → cond {A = ℕ} special 0 4 ≡ 4
  four e = ap (λ b. cond {A = ℕ} b 0 4) e

  due : (b : Bool) (word : BreakWord)
      → cond b (Some (Brk (a.own_breaks.answered % 2) (slice_index_or a.own_breaks.lengths a.own_breaks.answered 0))) None ≡ Some word
      → cond {A = ℕ} b 8 0 ≡ 8
  due b word e = grind (arith)

  none-new : (x y : Bool) → x ≡ false → y ≡ false → differs x y && (is_originator a.setup.role || a.numbered) ≡ true → ⊥
  none-new b y e f g = grind (arith)

  -- where no word is to be said no break is to be answered
  unasked : special ≡ false → NoWord special a → is_some a.their_breaks.ack ≡ false
  unasked e x = grind (arith)

  rejected : (i : Incoming) (x : ℕ) → i.srej ≡ false → i.rej ≡ true
      → cond (cond i.srej (record i { asked = i.asked ++ x ∷ [] }) (record i { rej = false })).srej 0
      (cond (cond i.srej (record i { asked = i.asked ++ x ∷ [] }) (record i { rej = false })).rej 16 0 + cond
      (cond i.srej (record i { asked = i.asked ++ x ∷ [] }) (record i { rej = false })).gapped 0 8) + 16
      ≡ cond i.srej 0 (cond i.rej 16 0 + cond i.gapped 0 8)
  rejected i x e f = grind (arith)

  kept : (i : Incoming) (x : ℕ) → i.srej ≡ true
      → cond (cond i.srej (record i { asked = i.asked ++ x ∷ [] }) (record i { rej = false })).srej 0
      (cond (cond i.srej (record i { asked = i.asked ++ x ∷ [] }) (record i { rej = false })).rej 16 0 + cond
      (cond i.srej (record i { asked = i.asked ++ x ∷ [] }) (record i { rej = false })).gapped 0 8)
      ≡ 0
  kept i x e = grind (arith)

  pub steps-go : Steps (Goes turn special a) turn special a
  steps-go = record {
    answers = λ d e. let wrong : None ≡ Some d = sym h.answer ∙ e in cc;
    final = λ n e. holds _ refl refl (Replies e (omega (arith, fresh4)));
    poll = λ n r e. holds _ refl refl (Much (omega (arith, fresh4, ap (λ b. cond {A = ℕ} b 16 0) e)));
    segment = λ b u n e. inl (sent-well z (length a.outgoing.pieces) turn a.outgoing a.wait.timer n y h.sends (omega arith)
        (sym (ap (λ b. cond b (next_number a.outgoing) None) h.may) ∙ e)).waits;
    brkack = λ b e word f. holds _ refl refl (Much (omega (arith, four e, ap (λ m. cond {A = ℕ} (is_some m) 8 0) f)));
    brk = λ b e n word f. holds _ refl refl (Much (omega (arith, four e, due a.own_breaks.brk word f)));
    tell = λ b w e. elim e [
      | inl n ↦ absurd (none-new a.owes.busy a.owes.busy_told h.busy h.told n)
      | inr o ↦ absurd (some-free z turn a h o.0)
    ];
    rej = grind (arith, holds, fresh4, rejected, asks-rej);
    srej = λ b w e n k. holds _ refl refl (Srejs k.kind (unasked e w) (omega (arith, four e, kept a.incoming n k.kind)));
    flags = λ i. absurd (some-free z turn a h i.segment);
  }

-- A turn of an end that stays Connected, where no user is busy.

-- an end between turns that is Connected and may send
pub record Linking (z : Rates) (turn : ℕ) (role : Role) (a : Account) : Type 0 where
  pub linked : Linked z turn turn role a
  pub phase : a.phase ≡ Connected
  pub role_is : a.setup.role ≡ role
  pub rates : IsOf z a.setup
  pub none_due : NoneDue a
  pub unpaused : a.outgoing.paused ≡ false
  pub told : a.owes.busy_told ≡ false
  pub may : may_send_at a ≡ true

abbrev pub eight_if : Bool → ℕ
eight_if b = cond b 8 0

-- what the turn makes of it
pub record Linger (z : Rates) (total turn : ℕ) (polled : Bool) (a b : Account) : Type 0 where
  pub falls : sender_value z total (turn + 1) b.outgoing b.wait.timer + lasts z.room (is_waiting a.outgoing)
      (is_waiting b.outgoing) ≤ sender_value z total turn a.outgoing a.wait.timer
  pub front : a.outgoing.front ≤ b.outgoing.front
  pub may : may_send_at b ≡ true
  pub unwhole : is_whole b.outgoing ≡ false → b.outgoing.front < length b.outgoing.pieces
  pub held : is_waiting a.outgoing ≡ false → b.outgoing.front < total
      → (is_waiting b.outgoing ≡ true) ⊎ (held_value (turn + 1) b + 3 ≤ held_value turn a + eight_if polled)

lasts-through : (k : ℕ) (w m l : Bool) → lasts k w l ≤ ends k w m + one_if m + cond m 0 (cond l (k + 1) 0)
lasts-through k w m l = grind (arith)

-- hearing, of the sender's part
heard-value : (z : Rates) (total turn : ℕ) (a b : Account) → AreRates z → Sends z turn turn a.outgoing a.wait.timer
    → length a.outgoing.pieces ≤ total → TakesNumber turn a b
    → (sender_value z total turn b.outgoing b.wait.timer + ends z.room (is_waiting a.outgoing)
    (is_waiting b.outgoing) ≤ sender_value z total turn a.outgoing a.wait.timer) × (a.outgoing.front ≤ b.outgoing.front)
heard-value z total turn a b y s all x = grind (arith, heard-well, ends-same)

module _ {z : Rates} {user : User} {turn : ℕ} {role : Role} {a : Account} {arrived : Arrived} {mid b : Account}
    (i : Hearing z user turn role a arrived mid b) where
  pub lingers : (total : ℕ) (release : Bool) {said : Said} → Linking z turn role a → is_busy turn user.busy ≡ false
      → arrived_weight arrived ≤ 2 → arrived_rnrs arrived ≡ 0 → speak turn release b ≡ Ok said → said.account.phase ≡ Connected
      → Offered total said.account → length b.outgoing.pieces ≤ total → length a.outgoing.pieces ≤ total
      → Linger z total turn (of_arrived frame_poll arrived) a said.account
  lingers total release {said} l calm light quiet speaks after offered all before =
      result (takes z turn role a l.linked l.phase arrived mid light quiet i.hears)
    where
      polled : Bool
      polled = of_arrived frame_poll arrived

      y : AreRates z
      y = i.rates

      k : IsOf z b.setup
      k = i.b_is_of

      s : Stays z turn user role a mid b release said
      s = stays i l.phase release speaks after

      p : Spoke z total (length user.breaks) turn role b said
      p = spoke z total (length user.breaks) turn role b y k s.linked i.b_role all said s.says

      busy-is : b.owes.busy ≡ false
      busy-is = s.serves.busy_now (ap is_connected s.mid_phase) ∙ calm

      c : Calm b said
      c = says-calm turn release b said (λ f. busy-is) speaks

      -- serving leaves the sender's part but for its pieces
      same-value : sender_value z total turn b.outgoing b.wait.timer ≡ sender_value z total turn mid.outgoing mid.wait.timer
      same-value = grind (arith)

      same-waits : is_waiting b.outgoing ≡ is_waiting mid.outgoing
      same-waits = ap is_waiting s.serves.longer.outgoing

      timed-waits : is_waiting p.timed.outgoing ≡ is_waiting mid.outgoing
      timed-waits = p.is_timed.waited.waits ∙ same-waits

      front-served : b.outgoing.front ≡ mid.outgoing.front
      front-served = ap (λ o. o.front) s.serves.longer.outgoing

      front-said : said.account.outgoing.front ≡ b.outgoing.front
      front-said = ap (λ m. m.1) c.0

      may-said : Takes turn polled a mid → may_send_at said.account ≡ true
      may-said t = grind (arith, or-numbered, p, s)

      may-served : Takes turn polled a mid → may_send_at b ≡ true
      may-served t = grind (arith, or-numbered)

      mid-linked : Linked z (turn + 1) turn role mid
      mid-linked = subst (λ q. Stands z (turn + 1) turn role q mid) (sym i.heard.phase ∙ s.mid_phase) i.heard.stands

      holds : Takes turn polled a mid → is_waiting b.outgoing ≡ false → said.account.outgoing.front < total
          → (is_waiting said.account.outgoing ≡ true) ⊎ (held_value (turn + 1) said.account + 3 ≤ held_value turn a + eight_if polled)
      holds t idle less = untimed z total (length user.breaks) turn role b y k s.linked Lingers
          (stopped b.wait.timer (s.linked.sends.cause ∙ idle)) rows said s.says
        where
          Lingers : Said → Type 0
          Lingers x = (is_waiting x.account.outgoing ≡ true)
              ⊎ (held_value (turn + 1) x.account + 3 ≤ held_value turn a + eight_if polled)

          pieces-said : said.account.outgoing.pieces ≡ b.outgoing.pieces
          pieces-said = p.stepped.pieces ∙ p.is_timed.pieces

          more : b.outgoing.front < length b.outgoing.pieces
          more = grind (arith, full-or-ended, s, pieces-said, p, less, front-said)

          unreplied : a.owes.reply ≡ false
          unreplied = l.none_due.reply (ap is_released l.phase)

          rows : (own : OwnBreaks) → ticked turn b.setup.period b.setup.tries b.own_breaks ≡ Some own
              → Linked z (turn + 1) (turn + 1) role (record b { own_breaks = own; special = false })
              → Steps Lingers turn b.special (record b { own_breaks = own; special = false })
          rows own tick linked = steps-so _ _ turn b.special d by (steps-go z turn b.special d y (record {
            sends = linked.sends;
            idle = idle;
            answer = s.serves.answer ∙ t.answer l.none_due.answer l.may;
            busy = busy-is;
            told = s.serves.busy_told ∙ (t.told ∙ l.told);
            may = may-served t;
            more = more;
          }) refl)
            where
              d : Account
              d = record b { own_breaks = own; special = false }

              base : base_value turn b.special d + owed_by a ≤ held_value turn a + owed_by mid + 1
              base = omega (
                arith,
                (served-owes turn (length user.breaks) (is_busy turn user.busy) mid b s.serves),
                (served-own z turn (length user.breaks) (is_busy turn user.busy) mid b mid-linked.breaks s.serves),
                t.own,
                ticks-value z turn b own y k tick,
                ap (λ x. cond {A = ℕ} x 0 4) (s.serves.special ∙ t.special),
                ap (λ x. cond {A = ℕ} x 16 0) (ap (λ w. w.poll) s.serves.wait ∙ t.poll),
              )

              pays : (x : Said) → Pays turn b.special d x.account
                  → held_value (turn + 1) x.account + 3 ≤ held_value turn a + eight_if polled
              pays x (Replies e less) = let q = t.asked unreplied (sym s.serves.reply
                  ∙ e) in omega (arith, less, base, q.1, ap eight_if q.0)
              pays x (Much less) = omega (arith, less, base, t.gain)
              pays x (Srejs e n less) =
                  omega (arith, less, base, t.calm (sym s.serves.srej ∙ e) (ap (λ x. is_some x.ack) (sym s.serves.ack) ∙ n))

              by : (x : Said) → Goes turn b.special d x → Lingers x
              by x y = grind (arith, pays)

      -- none is wanted: the file has ended, or the window is full
      some-left : is_whole said.account.outgoing ≡ false → said.account.outgoing.front < length said.account.outgoing.pieces
      some-left e = go b.outgoing.ended refl (nat_lt (length b.outgoing.pieces) (b.outgoing.front + b.outgoing.window)) refl none
        where
          pieces-same : length said.account.outgoing.pieces ≡ length b.outgoing.pieces
          pieces-same = ap (λ x. length x) (p.stepped.pieces ∙ p.is_timed.pieces)

          none : cond (not b.outgoing.ended && nat_lt (length b.outgoing.pieces) (b.outgoing.front + b.outgoing.window))
              (Some (length b.outgoing.pieces)) None ≡ None
          none = ap (λ x. cond x (wanted b.outgoing) None) (sym (ap is_connected s.phase)) ∙ s.serves.wants_none

          go : (d : Bool) → b.outgoing.ended ≡ d → (l : Bool) → nat_lt (length b.outgoing.pieces) (b.outgoing.front + b.outgoing.window) ≡ l
              → cond (not d && l) (Some (length b.outgoing.pieces)) None ≡ None
              → said.account.outgoing.front < length said.account.outgoing.pieces
          go false f true g h = cc
          go false f false g h =
              let full : b.outgoing.front + b.outgoing.window ≤ length b.outgoing.pieces = grind (arith, nat_tests) in
              let w = s.linked.sends.window in
              omega (arith, full, w, front-said, pieces-same)
          go true f l g h =
              let other : nat_eq said.account.outgoing.front (length said.account.outgoing.pieces) ≡ false =
              ap (λ x. x && nat_eq said.account.outgoing.front (length said.account.outgoing.pieces))
              (sym (p.stepped.ended ∙ (p.is_timed.ended ∙ f))) ∙ e in
              let low = p.stepped.linked.sends.front_from in
              let mid = p.stepped.linked.sends.from_high in
              let high = p.stepped.linked.sends.high_pieces in
              less said.account.outgoing.front (length said.account.outgoing.pieces) (omega (arith, low, mid, high)) other
            where
              less : (m n : ℕ) → m ≤ n → nat_eq m n ≡ false → m < n
              less m n x y = grind (arith, nat_tests)

      linger : Takes turn polled a mid → Linger z total turn polled a said.account
      linger t =
          let h = heard-value z total turn a mid y l.linked.sends before t.number in
          record {
            falls = omega (
              arith,
              h.0,
              same-value,
              p.is_timed.waited.falls,
              ap one_if same-waits,
              p.stepped.falls,
              ap (λ w. cond w 0 (cond (is_waiting said.account.outgoing) (z.room + 1) 0)) timed-waits,
              lasts-through z.room (is_waiting a.outgoing) (is_waiting mid.outgoing) (is_waiting said.account.outgoing),
            );
            front = omega (arith, h.1, front-served, front-said);
            may = may-said t;
            unwhole = some-left;
            held = λ idle less. on (is_waiting b.outgoing) refl t idle less;
          }
        where
          on : (w : Bool) → is_waiting b.outgoing ≡ w → Takes turn polled a mid → is_waiting a.outgoing ≡ false
              → said.account.outgoing.front < total
              → (is_waiting said.account.outgoing ≡ true) ⊎ (held_value (turn + 1) said.account + 3 ≤ held_value turn a + eight_if polled)
          on false e t idle less = holds t e less
          on true e t idle less = inl (p.stepped.waits (timed-waits ∙ (sym same-waits ∙ e)))

      result : Closes a mid ⊎ ((mid.phase ≡ Connected) × Takes turn polled a mid) → Linger z total turn polled a said.account
      result x = grind (arith, linger)
