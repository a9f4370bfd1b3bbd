use Rattle.turn_bound.proofs.Names.{◌≡◌, ℕ, ◌+◌, ◌%◌, ◌≤◌, ◌&&◌, ◌||◌, not, Bool, true, false, cond, nat_eq, nat_lt, List, arith, refl, sym}
use Rattle.turn_bound.proofs.Names.{◌∙◌, ap, Option, Some, None, Ok, ◌-◌, ◌<◌, [], ◌∷◌, ◌++◌, length, slice_index_or, subst, inl, inr}
use Rattle.turn_bound.proofs.Names.{length-append, after_ack, is_whole, ConnectedWays, acked, numbered_with, is_some, nat_tests, Role}
use Rattle.turn_bound.proofs.Names.{Outgoing, is_outstanding, Incoming, after_kind, kind_of, offset, Took, Arrived, hear, without_adp}
use Rattle.turn_bound.proofs.Names.{next_number, BreakWord, Brk, is_originator, Said, frame_for, nr_of, may_send, ready_frame, wanted}
use Rattle.turn_bound.proofs.Names.{is_connected, speak, speak_linked, is-linked, AllSaid, Steps, break_waits, is_done, breaking, differs}
use Rattle.turn_bound.proofs.Names.{says_segment, says_word, tells, Connected, Answer, User, is_busy, has_finished, next_break, is_ready}
use Rattle.turn_bound.proofs.Truths.{neither-first, and-second, is-true, or-false-both, not-true}
use Rattle.link_account.proofs.Names.{OwnBreaks, after_answer, waits, Account}
use Rattle.link_account.proofs.Names.{after_ask}
use Rattle.link_account.proofs.Names.{ticked}
use Rattle.turn_bound.proofs.Value.{Rates, is_waiting, Sends, is_free, one_if, Linked, two_if, dues, frame_weight}
use Rattle.turn_bound.proofs.Value.{arrived_weight, AreRates, four_if, weight, linked_lives, IsOf, Stands, Breaks}
use Rattle.turn_bound.proofs.Value.{is_breaking}
use Rattle.turn_bound.proofs.Sender.{Heard, meant-range, heard-advanced, heard-resumed, acked-heard}
use Rattle.link_account.proofs.HearWays.{by-linked}
use Rattle.lapm_receiver.specs.Incoming.{asks}
use Rattle.turn_bound.proofs.Sending.{sent-well}
use Rattle.turn_bound.proofs.Run.{served_account}
use Rattle.turn_bound.proofs.Serving.{Served, serves-phase, serves-own}
use Rattle.turn_bound.proofs.Speaking.{Spoke, spoke, untimed, linked-says, stopped}
use Rattle.turn_bound.proofs.OneTurn.{Hearing, spoken-as}
use Rattle.turn_bound.proofs.Lines.{one-most}

-- where nothing is outstanding, what is heard leaves the front where it is
free-same : (z : Rates) (total before turn : ℕ) (o new : Outgoing) (timer : Option ℕ) → Sends z before turn o timer → is_waiting o ≡ false
    → Heard o new → is_free total new ≡ is_free total o
free-same z total before turn o new timer s e h = grind (arith, neither-first)

take-rej : (k : Took) (n : ℕ) (info : List ℕ) (i : Incoming) → two_if (after_kind k n info i).rej ≤ two_if i.rej + 2
take-rej k n info i = grind (arith)

-- what hearing leaves due, where nothing is waited for before and after it
pub record HeardStill (total more : ℕ) (a b : Account) : Type 0 where
  pub dues : dues total b ≤ dues total a + more
  pub free : is_free total b.outgoing ≡ is_free total a.outgoing
  pub numbered : a.numbered ≡ true → b.numbered ≡ true
  pub phase : b.phase ≡ Connected
  pub own : waits a.own_breaks ≡ false → b.own_breaks ≡ a.own_breaks

some-two : (b : Bool) → two_if true ≤ two_if b + 2
some-two b = grind (arith)

unanswered : (turn number : ℕ) (b : OwnBreaks) → waits b ≡ false → after_answer turn number b ≡ b
unanswered turn number b e = grind (arith)

-- Hearing, where nothing is waited for before and after it.
module _ (z : Rates) (total turn : ℕ) (role : Role) (a : Account) (h : Linked z turn turn role a) (e : is_waiting a.outgoing ≡ false) where
  abbrev P : Arrived → Account → Type 0
  P x b = is_waiting b.outgoing ≡ false → b.phase ≡ Connected → HeardStill total (arrived_weight x) a b

  number : (more : ℕ) (new : Outgoing) (incoming : Incoming) (timer : Option ℕ) (asks urgent : Bool) → Heard a.outgoing new
      → two_if incoming.rej + two_if asks ≤ two_if a.incoming.rej + more → a.phase ≡ Connected
      → HeardStill total more a (numbered_with a new incoming timer (a.owes.reply || asks) urgent)
  number more new incoming timer asks urgent k less p = grind (arith, free-same)

  same : (more : ℕ) → a.phase ≡ Connected → HeardStill total more a a
  same more p = record { dues = omega arith; free = refl; numbered = λ n. n; phase = p; own = λ x. refl }

  -- RNR starts the clock
  busy : (out awaited : Bool) → out || (awaited || true) ≡ false → ⊥
  busy b awaited e = grind (arith)

  less : (m : Option Answer)
      → dues total (record a { owes = record a.owes { answer = without_adp m } }) ≤ dues total
      (record a { owes = record a.owes { answer = m } }) + 0
  less b = grind (arith)

  still-ways : ConnectedWays P turn a
  still-ways = record {
    pattern = λ seen w p. same 0 p;
    plain = λ frame k w p. same (frame_weight frame) p;
    numbers = record {
      i = λ ns nr pf info n m w p. let r = meant-range a.outgoing.front a.outgoing.high nr n m in
          number (2 + two_if pf) _ _ _ pf _ (heard-advanced z turn turn a.outgoing a.wait.timer n h.sends r.0 r.1)
          (omega (arith, take-rej (kind_of ns a.incoming) (offset a.incoming ns) info a.incoming)) p;
      rr = λ command pf nr n final g m w p. number (two_if (command && pf)) _ _ _ (command && pf) _
          (heard-resumed a.outgoing _ (acked-heard z turn turn a final command pf nr n h.sends g m).0) (omega arith) p;
      rej = λ command pf nr n final g m w p. number (two_if (command && pf)) _ _ _ (command && pf) _
          (heard-resumed a.outgoing _ (acked-heard z turn turn a final command pf nr n h.sends g m).1) (omega arith) p;
      rnr = λ command pf nr n final g m w p. let o = acked final a.outgoing n in absurd (busy (is_outstanding o) o.awaited w);
      srej = λ command pf nr n g m w p. let wrong : true ≡ false = sym (rw g refl) ∙ e in cc;
    };
    sabme = grind (arith, some-two);
    disc = λ pf r w p. cc;
    brk = grind (arith, some-two);
    brkack = grind (arith, unanswered);
  }

  pub still-hears : (arrived : Arrived) (mid : Account) → a.phase ≡ Connected → hear turn arrived a ≡ Ok mid → P arrived mid
  still-hears arrived mid p f = by-linked P turn a still-ways
      (λ w p. record { dues = less a.owes.answer; free = refl; numbered = λ n. n; phase = p; own = λ x. refl }) arrived mid p f

-- what is due but for a segment
abbrev pub base : Account → ℕ
base a = two_if (is_some a.owes.answer) + two_if a.owes.reply + two_if
    (is_some a.their_breaks.ack) + two_if a.incoming.rej + four_if a.wait.poll + two_if a.owes.busy_told

-- A Connected account whose timers are done, with nothing waited for.
pub record Idle (z : Rates) (total turn : ℕ) (role : Role) (a : Account) : Type 0 where
  pub linked : Linked z (turn + 1) (turn + 1) role a
  pub idle : is_waiting a.outgoing ≡ false
  pub brk : a.own_breaks.brk ≡ false
  pub busy : a.owes.busy ≡ false
  pub may : is_originator a.setup.role || a.numbered ≡ true
  pub more : a.outgoing.front < total → a.outgoing.front < length a.outgoing.pieces
  pub all : length a.outgoing.pieces ≤ total

-- what is said pays for it
abbrev pub Pays : ℕ → Account → Bool → Said → Type 0
Pays total a special said =
    is_waiting said.account.outgoing ≡ false
    → dues total said.account + weight said.sent + one_if (is_free total a.outgoing) ≤ base a + one_if
    (is_free total a.outgoing && not special)

one-less : (b c : Bool) → one_if (b && c) ≤ one_if b
one-less b c = grind (arith)

one-all : (b : Bool) → one_if (b && true) ≡ one_if b
one-all b = grind (arith)

one-none : (b : Bool) → one_if (b && false) ≡ 0
one-none b = grind (arith)

ready-weight : (b command pf : Bool) (nr : ℕ) → frame_weight (ready_frame b command nr pf) ≡ two_if (command && pf)
ready-weight b command pf nr = grind (arith)

-- with nothing to wait for and none chosen the next one goes, where there is one and the window has room
pub front-next : (o : Outgoing) → o.awaited || o.paused ≡ false → o.chosen ≡ [] → o.from < length o.pieces → o.from < o.front + o.window
    → next_number o ≡ Some o.from
front-next o w c below within = grind (arith)

pub idle-next : {z : Rates} {before turn : ℕ} {o : Outgoing} {timer : Option ℕ} → Sends z before turn o timer → is_waiting o ≡ false
    → o.front < length o.pieces → next_number o ≡ Some o.from
idle-next {z} {before} {turn} {o} {timer} s idle more = grind (arith, front-next)

-- where none can be sent nothing is free
none-free : (z : Rates) (total turn : ℕ) (role : Role) (a : Account) → Idle z total turn role a → may_send a ≡ None
    → is_free total a.outgoing ≡ false
none-free z total turn role a h e = grind (arith, and-second, idle-next)

pub asks-rej : (i : Incoming) (n : ℕ) → i.srej ≡ false → asks i ≡ Some n → i.rej ≡ true
asks-rej i n e g = grind (arith)

rej-after : (i : Incoming) (n : ℕ) (b : Bool)
    → (cond b (record i { asked = i.asked ++ n ∷ [] }) (record i { rej = false })).rej ≡ cond b i.rej false
rej-after i n b = grind (arith)

-- Whatever is said pays for itself, and for a segment that is held up.
module _ (z : Rates) (total turn : ℕ) (role : Role) (a : Account) (special : Bool) (y : AreRates z) (h : Idle z total turn role a) where
  pays-tells : (b : Account) (command pf : Bool) → b.owes.busy ≡ a.owes.busy → b.outgoing ≡ a.outgoing
      → base (record b { owes = record b.owes { busy_told = false } }) + two_if (command && pf) + 2 ≤ base a
      → Pays total a special (tells command pf b)
  pays-tells b command pf g o less = grind (arith, ready-weight, one-less, one-most)

  light : (answer : Answer) → weight (frame_for answer a) ≡ 0
  light answer = grind (arith)

  -- a segment makes the end wait
  sends : (n : ℕ) → may_send a ≡ Some n → AllSaid (Pays total a special) (says_segment turn (Some n) a)
  sends n e = λ w. let s = sent-well z total turn a.outgoing a.wait.timer n y h.linked.sends h.all
      (sym (ap (λ b. cond b (next_number a.outgoing) None) h.may) ∙ e) in
      let wrong : true ≡ false = sym s.waits ∙ w in cc

  acknowledges : (word : BreakWord) → a.their_breaks.ack ≡ Some word → Pays total a special
      (says_word (length a.their_breaks.lengths - 1) word (record a { their_breaks = after_ack a.their_breaks }))
  acknowledges word e = grind (arith, one-none, one-most)

  none-due : (b : Bool) (word : BreakWord) → b ≡ false
      → cond b (Some (Brk (a.own_breaks.answered % 2) (slice_index_or a.own_breaks.lengths a.own_breaks.answered 0))) None ≡ Some word → ⊥
  none-due b word e f = grind (arith)

  told : (busy busy_told may' : Bool) → busy ≡ false → differs busy busy_told && may' ≡ true → busy_told ≡ true
  told b busy_told may' e g = grind (arith)

  pub steps-pay : Steps (Pays total a special) turn special a
  steps-pay = record {
    answers = grind (arith, light, one-less, one-most);
    final = λ n e. pays-tells (record a { owes = record a.owes { reply = false } }) false true refl refl (omega (arith, ap two_if e));
    poll = λ n r e. pays-tells (record a { wait = record a.wait { poll = false } }) true true refl refl (omega (arith, ap four_if e));
    segment = λ b u n e. sends n e;
    brkack = λ b s word e. acknowledges word e;
    brk = λ b s k word e. absurd (none-due a.own_breaks.brk word h.brk e);
    tell = λ b w e. elim e [
      | inl n ↦ pays-tells a false false refl refl
          (omega (arith, ap two_if (told a.owes.busy a.owes.busy_told (is_originator a.setup.role || a.numbered) h.busy n)))
      | inr o ↦ λ v. omega (
        arith,
        ready-weight a.owes.busy false false (nr_of a),
        ap two_if h.busy,
        ap two_if o.1,
        ap one_if (none-free z total turn role a h o.0),
        one-less (is_free total a.outgoing) (not a.special),
      )
    ];
    rej = grind (arith, asks-rej, rej-after, one-less, one-most);
    srej = grind (arith, rej-after, one-none, one-all);
    flags = λ i w. omega (
      arith,
      ap one_if (none-free z total turn role a h i.segment),
      one-less (is_free total a.outgoing)
          (not a.special),
    );
  }

-- what waits goes on waiting
pub keeps-waiting : (z : Rates) (total breaks turn : ℕ) (role : Role) (b : Account) (said : Said) → Spoke z total breaks turn role b said
    → linked_lives (turn + 1) said.account ≡ false → (is_waiting b.outgoing ≡ false) × (waits b.own_breaks ≡ false)
keeps-waiting z total breaks turn role b said s dead = grind (arith, or-false-both, not-true)

-- Speaking, where nothing lives after it.
pub speaks-still : (z : Rates) (total breaks turn : ℕ) (role : Role) (b : Account) (said : Said) → AreRates z → IsOf z b.setup
    → Linked z (turn + 1) turn role b → b.setup.role ≡ role → length b.outgoing.pieces ≤ total
    → speak_linked turn b ≡ Ok said → linked_lives (turn + 1) said.account ≡ false → b.owes.busy ≡ false
    → is_originator b.setup.role || b.numbered ≡ true → (b.outgoing.front < total → b.outgoing.front < length b.outgoing.pieces)
    → dues total said.account + weight said.sent + one_if (is_free total b.outgoing) ≤ dues total b
speaks-still z total breaks turn role b said y k h er all e dead busy may more =
    let idle = keeps-waiting z total breaks turn role b said (spoke z total breaks turn role b y k h er all said e) dead in
    untimed z total breaks turn role b y k h P (stopped b.wait.timer (h.sends.cause ∙ idle.0)) (rows idle.0 idle.1) said e
    (or-false-both (is_waiting said.account.outgoing) (is_breaking (turn + 1) said.account.own_breaks) dead).0
  where
    P : Said → Type 0
    P x = is_waiting x.account.outgoing ≡ false
        → dues total x.account + weight x.sent + one_if (is_free total b.outgoing) ≤ dues total b

    unticked : (own : OwnBreaks) (w : Bool) → w ≡ false → (due spent : Bool) → cond (w && due)
        (cond spent None (Some (record b.own_breaks { brk = true; set = turn; count = b.own_breaks.count + 1 }))) (Some b.own_breaks)
        ≡ Some own → b.own_breaks ≡ own
    unticked own b f due spent g = grind (arith)

    rows : is_waiting b.outgoing ≡ false → waits b.own_breaks ≡ false → (own : OwnBreaks)
        → ticked turn b.setup.period b.setup.tries b.own_breaks ≡ Some own
        → Linked z (turn + 1) (turn + 1) role (record b { own_breaks = own; special = false })
        → Steps P turn b.special (record b { own_breaks = own; special = false })
    rows waiting breaking own t l =
        let same : b.own_breaks ≡ own = unticked own (waits b.own_breaks) breaking (nat_eq turn (b.own_breaks.set + b.setup.period))
        (nat_eq b.own_breaks.count b.setup.tries) t in
        subst (λ o. Steps P turn b.special (record b { own_breaks = o; special = false })) same
        (steps-pay z total turn role (record b { special = false }) b.special y (record {
          linked = subst (λ o. Linked z (turn + 1) (turn + 1) role (record b { own_breaks = o; special = false })) (sym same) l;
          idle = waiting;
          brk = not-true b.own_breaks.brk (λ d. let wrong : true ≡ false = sym (h.breaks.due d) ∙ breaking in cc);
          busy = busy;
          may = may;
          more = more;
          all = all;
        }))

-- A turn of an end that stays Connected.
pub record Stays (z : Rates) (turn : ℕ) (user : User) (role : Role) (a mid b : Account) (release : Bool) (said : Said) : Type 0 where
  pub mid_phase : mid.phase ≡ Connected
  pub phase : b.phase ≡ Connected
  pub linked : Linked z (turn + 1) turn role b
  pub setup : b.setup ≡ a.setup
  pub says : speak_linked turn b ≡ Ok said
  pub unreleased : release && is_originator b.setup.role ≡ false
  pub serves : Served turn (length user.breaks) (is_busy turn user.busy) mid b

module _ {z : Rates} {user : User} {turn : ℕ} {role : Role} {a : Account} {arrived : Arrived} {mid b : Account}
    (i : Hearing z user turn role a arrived mid b) where
  pub stays : a.phase ≡ Connected → (release : Bool) {said : Said} → speak turn release b ≡ Ok said → said.account.phase ≡ Connected
      → Stays z turn user role a mid b release said
  stays e release {said} speaks after =
      let spoke = spoken-as i (length b.outgoing.pieces) release speaks (omega arith) in
      let linked : i.phase ≡ Connected =
      is-linked i.phase
      (is-true (is_connected i.phase)
      (λ f. let same : Connected ≡ i.phase = sym after ∙ (spoke.1.phase ∙ spoke.1.keeps f) in let wrong : true ≡ false =
      ap is_connected same ∙ f in cc)) in
      let phase : b.phase ≡ Connected = i.b_phase ∙ linked in
      let says = linked-says turn release b said phase (ap is_connected after) speaks in
      record {
        mid_phase = i.heard.phase ∙ linked;
        phase = phase;
        linked = subst (λ q. Stands z (turn + 1) turn role q b) linked i.b_stands;
        setup = i.b_setup;
        says = says.0;
        unreleased = says.1;
        serves = i.serves;
      }

served-dues : (turn breaks total : ℕ) (busy : Bool) (m c : Account) → Served turn breaks busy m c
    → is_free total c.outgoing ≡ is_free total m.outgoing → dues total c ≡ dues total m
served-dues turn breaks total busy m c s f = grind (arith)

pub or-numbered : (o o' n n' : Bool) → o' ≡ o → (n ≡ true → n' ≡ true) → o || n ≡ true → o' || n' ≡ true
or-numbered o o' n n' e f g = grind (arith)

-- A turn of an end that stays Connected, where nothing lives before and after it.
pub record Stilled (z : Rates) (total turn : ℕ) (a mid b : Account) (said : Said) (more : ℕ) : Type 0 where
  pub pays : dues total said.account + weight said.sent + one_if (is_free total a.outgoing) ≤ dues total a + more
  pub idle : is_waiting b.outgoing ≡ false
  pub unbroken : waits b.own_breaks ≡ false
  pub free : is_free total b.outgoing ≡ is_free total a.outgoing
  pub own : mid.own_breaks ≡ a.own_breaks

module _ {z : Rates} {user : User} {turn : ℕ} {role : Role} {a : Account} {arrived : Arrived} {mid b : Account}
    (i : Hearing z user turn role a arrived mid b) where
  pub stilled : (total : ℕ) {release : Bool} {said : Said} → Linked z turn turn role a → a.phase ≡ Connected
      → Stays z turn user role a mid b release said → length b.outgoing.pieces ≤ total → linked_lives turn a ≡ false
      → linked_lives (turn + 1) said.account ≡ false → is_busy turn user.busy ≡ false → is_originator a.setup.role || a.numbered ≡ true
      → (b.outgoing.front < total → b.outgoing.front < length b.outgoing.pieces)
      → Stilled z total turn a mid b said (arrived_weight arrived)
  stilled total {release} {said} h e s all dead dead' busy may more =
      let idle = keeps-waiting z total (length user.breaks) turn role b said
      (spoke z total (length user.breaks) turn role b i.rates i.b_is_of s.linked i.b_role all said s.says) dead' in
      let before = or-false-both (is_waiting a.outgoing) (is_breaking turn a.own_breaks) dead in
      let waits-a : waits a.own_breaks ≡ false = (or-false-both (waits a.own_breaks) (nat_lt turn a.own_breaks.rest) before.1).0 in
      let same : is_waiting b.outgoing ≡ is_waiting mid.outgoing = ap is_waiting s.serves.longer.outgoing in
      let heard = still-hears z total turn role a h before.0 arrived mid e i.hears (sym same ∙ idle.0) s.mid_phase in
      let free : is_free total b.outgoing ≡ is_free total mid.outgoing = ap (is_free total) s.serves.longer.outgoing in
      let due : dues total b ≡ dues total mid = served-dues turn (length user.breaks) total (is_busy turn user.busy) mid b s.serves free in
      let may' : is_originator b.setup.role || b.numbered ≡ true = grind (arith, or-numbered, b) in
      let pays = speaks-still z total (length user.breaks) turn role b said i.rates i.b_is_of s.linked i.b_role all s.says dead'
      (s.serves.busy_now (ap is_connected s.mid_phase) ∙ busy) may' more in grind (arith)

-- a break that is ready is asked for, and then waits
waits-then : (turn l : ℕ) (b : OwnBreaks) → b.answered ≤ length b.lengths → waits b ≡ false → nat_lt turn b.rest ≡ false
    → waits (after_ask turn l b) ≡ true
waits-then turn l b low w r = grind (arith, length-append {A = ℕ})

unready : (user : User) (turn : ℕ) (mid : Account) → mid.phase ≡ Connected → mid.own_breaks.answered ≤ length mid.own_breaks.lengths
    → waits mid.own_breaks ≡ false → nat_lt turn mid.own_breaks.rest ≡ false
    → waits (served_account user turn false mid).own_breaks ≡ false
    → is_ready turn (next_break user.breaks (served_account user turn false mid)) ≡ false
unready user turn mid e low w r after = grind (arith, waits-then, serves-own, serves-phase)

-- An end with nothing outstanding and nothing free has finished, unless a break is ready: that would be asked for.
pub finished : {z : Rates} {total more : ℕ} {user : User} {turn : ℕ} {role : Role} {a mid : Account} {release : Bool} {said : Said}
    → Stays z turn user role a mid (served_account user turn false mid) release said
    → Stilled z total turn a mid (served_account user turn false mid) said more → Breaks z turn turn a.own_breaks
    → length (served_account user turn false mid).outgoing.pieces ≤ total → linked_lives turn a ≡ false → is_free total a.outgoing ≡ false
    → has_finished user turn (served_account user turn false mid) ≡ true
finished {z} {total} {more} {user} {turn} {role} {a} {mid} s t own all dead none =
    both (is_done b) (break_waits b) (is_ready turn (next_break user.breaks b)) done unbroken ready
  where
    b : Account
    b = served_account user turn false mid

    both : (d w r : Bool) → d ≡ true → w ≡ false → r ≡ false → d && not (w || r) ≡ true
    both d w r e f g = rw (e, f, g) refl

    o : Outgoing
    o = b.outgoing

    whole-front : o.front ≡ length o.pieces
    whole-front = let a1 = s.linked.sends.front_from in let a2 = s.linked.sends.from_high in let a3 = s.linked.sends.high_pieces in
        let a4 : total ≤ o.front = grind (arith, nat_tests) in omega (arith, a1, a2, a3, a4, all)

    wanted-none : wanted o ≡ None
    wanted-none = ap (λ c. cond c (wanted o) None) (sym (ap is_connected s.phase)) ∙ s.serves.wants_none

    room : nat_lt (length o.pieces) (o.front + o.window) ≡ true
    room = let w = s.linked.sends.window in let f = whole-front in grind (arith, nat_tests)

    has-ended : (x y : Bool) → y ≡ true → cond (not x && y) (Some (length o.pieces)) None ≡ None → x ≡ true
    has-ended b y e f = grind (arith)

    done : is_done b ≡ true
    done = let same : nat_eq o.front (length o.pieces) ≡ true = let f = whole-front in grind (arith, nat_tests) in
        ap (λ c. cond c (is_whole o) false) (ap is_connected s.phase)
        ∙ rw (has-ended o.ended (nat_lt (length o.pieces) (o.front + o.window)) room wanted-none, same) refl

    unbroken : break_waits b ≡ false
    unbroken = ap (λ c. cond c (waits b.own_breaks) false) (ap is_connected s.phase) ∙ t.unbroken

    still-own : (waits a.own_breaks ≡ false) × (nat_lt turn a.own_breaks.rest ≡ false)
    still-own = grind (arith, or-false-both)

    ready : is_ready turn (next_break user.breaks b) ≡ false
    ready = grind (arith, unready, still-own)
