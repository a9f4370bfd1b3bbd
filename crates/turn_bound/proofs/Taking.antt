-- What an end may be held up by before it sends a segment, as a number that each turn in which it is held up lowers by three, but for a
-- poll
-- that is heard in it. A poll of the other end has a value too: one becomes due in nineteen turns at most.
use Rattle.turn_bound.proofs.Names.{ℕ, ◌+◌, ◌-◌, ◌≤◌, ◌&&◌, min, Bool, true, false, cond, arith, Option, Some, None, ◌≡◌, ◌<◌, ◌||◌, ◌⊎◌}
use Rattle.turn_bound.proofs.Names.{List, inl, inr, refl, sym, ap, Ok, length-append, with_number, ConnectedWays, Plain, numbered_with}
use Rattle.turn_bound.proofs.Names.{is_some, Frame, Rr, Rnr, Rej, Incoming, BreakWord, nat_tests, Role, Answerer, is_originator, I, meant}
use Rattle.turn_bound.proofs.Names.{Outgoing, is_outstanding, advanced, after_kind, kind_of, offset, Took, Arrived, hear, without_adp}
use Rattle.turn_bound.proofs.Names.{on_nothing, timer_after, Phase, Connected, Releasing, Closed}
use Rattle.turn_bound.proofs.Truths.{or-false}
use Rattle.link_account.proofs.Names.{OwnBreaks, waits, Account}
use Rattle.link_account.proofs.Names.{after_answer, after_take, after_ask}
use Rattle.turn_bound.proofs.Value.{Rates, Breaks, Linked, frame_weight, arrived_weight, arrived_rnrs}
use Rattle.link_account.proofs.HearWays.{by-linked}
use Rattle.turn_bound.proofs.Sender.{acked-heard, Heard, meant-range, heard-advanced, heard-resumed, heard-selected}
use Rattle.turn_bound.proofs.MeetHear.{of_arrived}
use Rattle.turn_bound.proofs.Serving.{Served}

-- REJ that is due, or may become due with the next segment; and a break's answer
abbrev pub owing : Incoming → Option BreakWord → ℕ
owing i ack = cond i.srej 0 (cond i.rej 16 0 + cond i.gapped 0 8) + cond (is_some ack) 8 0

-- an own break: one becomes due eight turns after the last one at the soonest
abbrev pub own_value : ℕ → OwnBreaks → ℕ
own_value turn b = cond b.brk 8 0 + cond (waits b) (min 8 (turn - b.set)) (8 - (b.rest - turn))

abbrev pub held_value : ℕ → Account → ℕ
held_value turn a = owing a.incoming a.their_breaks.ack + cond a.special 0 4 + own_value turn a.own_breaks + cond a.wait.poll 16 0

pub held-most : (turn : ℕ) (a : Account) → held_value turn a ≤ 68
held-most turn a = grind (arith)

-- a command that asks for an answer at once
abbrev pub frame_poll : Frame → Bool
frame_poll (Rr command nr pf) = command && pf
frame_poll (Rnr command nr pf) = command && pf
frame_poll (Rej command nr pf) = command && pf
frame_poll frame = false

-- the whole turns since a timer was set, up to nineteen
abbrev pub timer_value : ℕ → Option ℕ → ℕ
timer_value turn None = 0
timer_value turn (Some set) = min 19 (turn - (set + 1))

abbrev pub poll_value : ℕ → Phase → Account → ℕ
poll_value turn Connected a = cond a.wait.poll 19 0 + timer_value turn a.wait.timer
poll_value turn Releasing a = 0
poll_value turn Closed a = 0
poll_value turn p a = 38

timer-most : (turn : ℕ) (timer : Option ℕ) → timer_value turn timer ≤ 19
timer-most turn b = grind (arith)

pub poll-most : (turn : ℕ) (p : Phase) (a : Account) → poll_value turn p a ≤ 38
poll-most turn p a = grind (arith, timer-most)

-- What a Connected end makes of what it hears, as far as it may hold up a segment.
abbrev pub owed_by : Account → ℕ
owed_by a = owing a.incoming a.their_breaks.ack

-- what it makes of the sender's part and its timer
abbrev pub TakesNumber : ℕ → Account → Account → Type 0
TakesNumber turn a b =
    (Heard a.outgoing b.outgoing × (b.wait.timer ≡ timer_after turn a.outgoing b.outgoing a.wait.timer))
    ⊎ ((b.outgoing ≡ a.outgoing) × (b.wait.timer ≡ a.wait.timer))

abbrev pub may_send_at : Account → Bool
may_send_at a = is_originator a.setup.role || a.numbered

pub record Takes (turn : ℕ) (polls : Bool) (a b : Account) : Type 0 where
  pub number : TakesNumber turn a b
  pub setup : b.setup ≡ a.setup
  pub srej : b.incoming.srej ≡ a.incoming.srej
  pub special : b.special ≡ a.special
  pub poll : b.wait.poll ≡ a.wait.poll
  pub told : b.owes.busy_told ≡ a.owes.busy_told
  pub answer : a.owes.answer ≡ None → may_send_at a ≡ true → b.owes.answer ≡ None
  pub numbered : a.numbered ≡ true → b.numbered ≡ true
  pub own : own_value turn b.own_breaks ≤ own_value turn a.own_breaks
  pub gain : owed_by b ≤ owed_by a + 8
  pub calm : b.incoming.srej ≡ true → is_some b.their_breaks.ack ≡ false → owed_by b ≤ owed_by a
  pub asked : a.owes.reply ≡ false → b.owes.reply ≡ true → (polls ≡ true) × (owed_by b ≤ owed_by a)

-- an answerer is closed
pub record Closes (a b : Account) : Type 0 where
  pub phase : b.phase ≡ Closed
  pub answers : a.setup.role ≡ Answerer
  pub outgoing : b.outgoing ≡ a.outgoing

-- the end stays Connected, or else it is closed
abbrev pub TakesSo : ℕ → Bool → Account → Account → Type 0
TakesSo turn polls a b = Closes a b ⊎ ((b.phase ≡ Connected) × Takes turn polls a b)

take-owes : (k : Took) (n : ℕ) (info : List ℕ) (i : Incoming) (ack : Option BreakWord)
    → ((after_kind k n info i).srej ≡ i.srej) × (owing (after_kind k n info i) ack ≤ owing i ack + 8)
    × (i.srej ≡ true → owing (after_kind k n info i) ack ≤ owing i ack)
take-owes k n info i ack = grind (arith)

-- a frame that leaves all but an N(R) and a reply as it is
number-takes : (turn : ℕ) (polls : Bool) (a b : Account) → TakesNumber turn a b → b.setup ≡ a.setup → b.phase ≡ Connected
    → b.incoming ≡ a.incoming → b.special ≡ a.special → b.wait.poll ≡ a.wait.poll → b.owes.busy_told ≡ a.owes.busy_told
    → b.owes.answer ≡ a.owes.answer → (a.numbered ≡ true → b.numbered ≡ true) → b.own_breaks ≡ a.own_breaks
    → b.their_breaks ≡ a.their_breaks → b.owes.reply ≡ a.owes.reply || polls → (b.phase ≡ Connected) × Takes turn polls a b
number-takes turn polls a b number setup phase incoming special poll told answer numbered own their reply = grind (arith)

same-takes : (turn : ℕ) (a : Account) → a.phase ≡ Connected → (b : Account) → b.outgoing ≡ a.outgoing → b.wait ≡ a.wait → b.setup ≡ a.setup
    → b.phase ≡ a.phase → b.incoming ≡ a.incoming → b.special ≡ a.special → b.owes ≡ a.owes → b.numbered ≡ a.numbered
    → b.own_breaks ≡ a.own_breaks → b.their_breaks ≡ a.their_breaks → TakesSo turn false a b
same-takes turn a e b outgoing wait setup phase incoming special owes numbered own their = grind (arith, number-takes, or-false)

answered-own : (z : Rates) (turn number : ℕ) (b : OwnBreaks) → Breaks z turn turn b
    → own_value turn (after_answer turn number b) ≤ own_value turn b
answered-own z turn number b s = grind (arith)

-- nothing but this changes
module _ (z : Rates) (turn : ℕ) (role : Role) (a : Account) (h : Linked z turn turn role a) (e : a.phase ≡ Connected) where
  number : (polls : Bool) (new : Outgoing) (urgent : Bool) → Heard a.outgoing new
      → TakesSo turn polls a (numbered_with a new a.incoming (timer_after turn a.outgoing new a.wait.timer) (a.owes.reply || polls) urgent)
  number polls new urgent k = grind (arith)

  same : TakesSo turn false a a
  same = same-takes turn a e a refl refl refl refl refl refl refl refl refl refl

  -- an answer changes, a word of breaks is heard
  other : (b : Account) → b.outgoing ≡ a.outgoing → b.wait ≡ a.wait → b.setup ≡ a.setup → b.phase ≡ a.phase → b.incoming ≡ a.incoming
      → b.special ≡ a.special → b.owes.busy_told ≡ a.owes.busy_told → b.owes.reply ≡ a.owes.reply → b.numbered ≡ a.numbered
      → (a.owes.answer ≡ None → may_send_at a ≡ true → b.owes.answer ≡ None) → own_value turn b.own_breaks ≤ own_value turn a.own_breaks
      → owed_by b ≤ owed_by a + 8 → (is_some b.their_breaks.ack ≡ false → owed_by b ≤ owed_by a) → TakesSo turn false a b
  other b o w s p i u t r n d v g c = grind (arith)

  one-more : (b : Bool) → 8 ≤ cond b 8 0 + 8
  one-more b = grind (arith)

  taken : (ns nr n : ℕ) (info : List ℕ) → meant a.outgoing.front a.outgoing.high nr ≡ Some n
      → TakesSo turn false a (numbered_with a (advanced a.outgoing n) (after_take ns info a.incoming)
      (timer_after turn a.outgoing (advanced a.outgoing n) a.wait.timer) (a.owes.reply || false) a.wait.urgent)
  taken ns nr n info f =
      let range = meant-range a.outgoing.front a.outgoing.high nr n f in
      let k = take-owes (kind_of ns a.incoming) (offset a.incoming ns) info a.incoming a.their_breaks.ack in
      grind (arith, heard-advanced, none)
    where
      none : (r : Bool) → r ≡ false → r || false ≡ true → ⊥
      none b f g = grind (arith)

  plain : (frame : Frame) → Plain frame → TakesSo turn (frame_poll frame) a a
  plain frame p = grind (arith)

  -- an own frame is heard: of no weight above two, and no RNR
  ways : ConnectedWays (λ x b. arrived_weight x ≤ 2 → arrived_rnrs x ≡ 0 → TakesSo turn (of_arrived frame_poll x) a b) turn a
  ways = record {
    pattern = λ seen w n. same;
    plain = λ frame p w n. plain frame p;
    numbers = record {
      i = λ ns nr pf info m f w n. unpolled ns nr pf info m f w;
      rr = λ command pf nr m final f g w n. number (command && pf) _ _
          (heard-resumed a.outgoing _ (acked-heard z turn turn a final command pf nr m h.sends f g).0);
      rej = λ command pf nr m final f g w n. number (command && pf) _ _
          (heard-resumed a.outgoing _ (acked-heard z turn turn a final command pf nr m h.sends f g).1);
      rnr = λ command pf nr m final f g w n. absurd (omega (arith, n));
      srej = λ command pf nr m f g w n. chosen nr m f g;
    };
    sabme = grind (arith, other);
    disc = λ pf r w n. inl (record { phase = refl; answers = r; outgoing = refl });
    brk = grind (arith, other, one-more);
    brkack = λ command pf info m l q w n. other _ refl refl refl refl refl refl refl refl refl (λ x y. x)
        (answered-own z turn m a.own_breaks h.breaks) (omega arith) (λ x. omega arith);
  }
    where
      unpolled : (ns nr : ℕ) (pf : Bool) (info : List ℕ) (n : ℕ) → meant a.outgoing.front a.outgoing.high nr ≡ Some n
          → frame_weight (I ns nr pf info) ≤ 2
          → TakesSo turn false a (numbered_with a (advanced a.outgoing n) (after_take ns info a.incoming)
          (timer_after turn a.outgoing (advanced a.outgoing n) a.wait.timer) (a.owes.reply || pf) a.wait.urgent)
      unpolled ns nr pf info n f w = grind (arith, taken)

      chosen : (nr n : ℕ) → is_outstanding a.outgoing ≡ true → meant a.outgoing.front (a.outgoing.high - 1) nr ≡ Some n
          → TakesSo turn false a (numbered_with a (record a.outgoing { chosen = with_number n a.outgoing.chosen }) a.incoming
          (timer_after turn a.outgoing (record a.outgoing
          { chosen = with_number n a.outgoing.chosen }) a.wait.timer) a.owes.reply a.wait.urgent)
      chosen nr n f g =
          let range = meant-range a.outgoing.front (a.outgoing.high - 1) nr n g in
          let out : a.outgoing.front < a.outgoing.high = grind (arith, nat_tests, f) in
          inr (number-takes turn false a _
          (inl (heard-selected z turn turn a.outgoing a.wait.timer n h.sends range.0 (omega (arith, range.1, out)), refl)) refl e refl
          refl refl refl refl (λ x. refl) refl refl (sym (or-false a.owes.reply)))

  pub takes : (arrived : Arrived) (mid : Account) → arrived_weight arrived ≤ 2 → arrived_rnrs arrived ≡ 0 → hear turn arrived a ≡ Ok mid
      → TakesSo turn (of_arrived frame_poll arrived) a mid
  takes arrived mid w n f = by-linked _ turn a ways
      (λ w n. other (on_nothing a) refl refl refl refl refl refl refl refl refl (λ x y. ap without_adp x) (omega arith) (omega arith)
      (λ x. omega arith)) arrived mid e f w n

-- What serving an end makes of what may hold up a segment.

-- a break is asked for
asked-own : (z : Rates) (turn l : ℕ) (b : OwnBreaks) → Breaks z (turn + 1) turn b → own_value turn (after_ask turn l b) ≤ own_value turn b
asked-own z turn l b s = grind (arith, length-append {A = ℕ})

pub served-own : (z : Rates) (turn breaks : ℕ) (busy : Bool) (a b : Account) → Breaks z (turn + 1) turn a.own_breaks
    → Served turn breaks busy a b → own_value turn b.own_breaks ≤ own_value turn a.own_breaks
served-own z turn breaks busy a b h s = grind (arith, asked-own)

pub served-owes : (turn breaks : ℕ) (busy : Bool) (a b : Account) → Served turn breaks busy a b → owed_by b ≡ owed_by a
served-owes turn breaks busy a b s = grind (arith)
