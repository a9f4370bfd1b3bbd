use Rattle.std.proofs.lemmas.Bool.{cases_Bool}
use Rattle.turn_losses.proofs.Names.{◌⊎◌, inl, inr, ◌≡◌, ℕ, ◌+◌, ◌&&◌, ◌||◌, not, Bool, true, false, arith, refl, sym, ◌∙◌, ap, Option}
use Rattle.turn_losses.proofs.Names.{Some, None, Ok, ◌≤◌, cond, Frame, Account, is_connected, trying, Said, frame_for, nr_of, ready_frame}
use Rattle.turn_losses.proofs.Names.{speak, Role, Originator, Answerer, linked-so, Steps, steps-so, Tries, Ways, next-keeps, Connected}
use Rattle.turn_losses.proofs.Names.{Releasing, Answer, Phase, is_closed, is_released, OneDue, of_frame, keeps, or-late, unlinked-connected}
use Rattle.turn_losses.proofs.Names.{and-second, and-true, clash, and-drop, NoneDue, SetFrom, is_linked, poll_due, PollTurn, is_poll}
use Rattle.turn_losses.proofs.Names.{is_final}
use Rattle.link_account.specs.Speak.{running}
use Rattle.link_account.proofs.SpeakWays.{Before, ConnectedWays, by-ways, answers-unconnected}
use Rattle.turn_losses.proofs.PollHear.{set-same, PollHeard, linked-connected}
use Rattle.turn_losses.proofs.Trace.{Early}

-- What the nine steps make of an end's polls and replies, once its timers are done.
pub record StepPoll (turn : ℕ) (a : Account) (said : Said) : Type 0 where
  pub phase : said.account.phase ≡ a.phase
  pub numbered : said.account.numbered ≡ a.numbered
  pub timer : SetFrom turn a.wait.timer said.account.wait.timer
  pub sent : of_frame is_poll said.sent ≡ true → (a.wait.poll ≡ true) × (said.account.wait.poll ≡ false)
  pub kept : said.account.wait.poll ≡ true
      → (a.wait.poll ≡ true) × (a.owes.answer ≡ None → (a.owes.reply ≡ true) × (of_frame is_final said.sent ≡ true))
  pub final : of_frame is_final said.sent ≡ true → a.owes.reply ≡ true
  pub replies : a.owes.answer ≡ None → a.owes.reply ≡ true → of_frame is_final said.sent ≡ true
  pub goes : a.wait.poll ≡ true → (of_frame is_poll said.sent ≡ true) ⊎ (said.account.wait.poll ≡ true)
  pub awaited : said.account.outgoing.awaited ≡ a.outgoing.awaited
  pub count : said.account.outgoing.count ≡ a.outgoing.count
  pub runs : (r : ℕ) → a.wait.timer ≡ Some r → said.account.wait.timer ≡ Some r

ready-kinds : (busy command pf : Bool) (nr : ℕ)
    → (is_poll (ready_frame busy command nr pf) ≡ command && pf) × (is_final (ready_frame busy command nr pf) ≡ pf && not command)
ready-kinds b command pf nr = grind (arith)

set-running : (turn : ℕ) (m : Option ℕ) → SetFrom turn m (running turn m)
set-running turn m s k = grind (arith)

running-runs : (turn : ℕ) (m : Option ℕ) (s : ℕ) → m ≡ Some s → running turn m ≡ Some s
running-runs turn b s h = grind (arith)

-- a frame that is no poll and no answer to one, behind both
quiet : (turn : ℕ) (a : Account) (said : Said) → Before a → said.account.phase ≡ a.phase → said.account.numbered ≡ a.numbered
    → SetFrom turn a.wait.timer said.account.wait.timer
    → said.account.wait.poll ≡ a.wait.poll → of_frame is_poll said.sent ≡ false → of_frame is_final said.sent ≡ false
    → said.account.outgoing.awaited ≡ a.outgoing.awaited → said.account.outgoing.count ≡ a.outgoing.count
    → ((s : ℕ) → a.wait.timer ≡ Some s → said.account.wait.timer ≡ Some s) → StepPoll turn a said
quiet turn a said k f n t w x y v m g = grind (arith)

answer-quiet : (d : Answer) (a : Account) → (of_frame is_poll (frame_for d a) ≡ false) × (of_frame is_final (frame_for d a) ≡ false)
answer-quiet d a = grind (arith)

steps-poll : (turn : ℕ) (special : Bool) (a : Account) → Steps (StepPoll turn a) turn special a
steps-poll turn special a = record {
  answers = grind (arith, answer-quiet, set-same);
  final = grind (arith, ready-kinds, nr_of, set-same);
  poll = grind (arith, ready-kinds, nr_of, set-same);
  segment = grind (arith, quiet, set-running, next-keeps, running-runs);
  brkack = λ k s word e. still k _ refl refl (refl, refl) refl refl;
  brk = λ k s w word e. still k _ refl refl (refl, refl) refl refl;
  tell = λ k w e. let q = ready-kinds a.owes.busy false false (nr_of a) in still k _ refl refl (refl, refl) q.0 q.1;
  rej = λ k w n e. still k _ refl refl (refl, refl) refl refl;
  srej = λ k w s n e. still k _ refl refl (refl, refl) refl refl;
  flags = λ i. still i.before _ refl refl (refl, refl) refl refl;
}
  where
    -- neither the wait nor the sender's part changes
    still : Before a → (said : Said) → said.account.phase ≡ a.phase → said.account.numbered ≡ a.numbered
        → (said.account.wait ≡ a.wait) × (said.account.outgoing ≡ a.outgoing)
        → of_frame is_poll said.sent ≡ false → of_frame is_final said.sent ≡ false → StepPoll turn a said
    still k said p n e x y = grind (arith)

-- What a Connected end that isn't told to release makes of them as it speaks.
pub record SaidPoll (turn : ℕ) (a : Account) (said : Said) : Type 0 where
  pub made : Bool
  pub phase : said.account.phase ≡ a.phase
  pub numbered : said.account.numbered ≡ a.numbered
  pub timer : SetFrom turn a.wait.timer said.account.wait.timer
  pub made_timer : made ≡ true → (s : ℕ) → said.account.wait.timer ≡ Some s → s ≡ turn
  pub made_from : made ≡ true → (s : ℕ) × (a.wait.timer ≡ Some s) × (turn ≡ s + a.setup.period)
  pub sent : of_frame is_poll said.sent ≡ true → (made ≡ false → a.wait.poll ≡ true) × (said.account.wait.poll ≡ false)
  pub kept : said.account.wait.poll ≡ true
      → (made ≡ false → a.wait.poll ≡ true) × (a.owes.answer ≡ None → (a.owes.reply ≡ true) × (of_frame is_final said.sent ≡ true))
  pub final : of_frame is_final said.sent ≡ true → a.owes.reply ≡ true
  pub replies : a.owes.answer ≡ None → a.owes.reply ≡ true → of_frame is_final said.sent ≡ true
  pub goes : (made ≡ true) ⊎ (a.wait.poll ≡ true) → (of_frame is_poll said.sent ≡ true) ⊎ (said.account.wait.poll ≡ true)
  pub awaited : said.account.outgoing.awaited ≡ made || a.outgoing.awaited
  pub counted : (n : ℕ) → said.account.outgoing.count ≡ n + 1
      → ((made ≡ true) × (a.outgoing.count ≡ n) × (said.account.wait.timer ≡ Some turn))
      ⊎ ((made ≡ false) × (a.outgoing.count ≡ n + 1) × ((r : ℕ) → a.wait.timer ≡ Some r → said.account.wait.timer ≡ Some r))

pub linked-poll : (turn : ℕ) (a : Account) → ConnectedWays (SaidPoll turn a) turn a
linked-poll turn a = ways
  where
    ways : ConnectedWays (SaidPoll turn a) turn a
    ways = grind (arith, steps-so, steps-poll)

-- What any end makes of them as it speaks.
pub record SpeakPoll (turn : ℕ) (a : Account) (said : Said) : Type 0 where
  pub linked : is_linked said.account.phase ≡ is_linked a.phase
  pub connected : is_connected said.account.phase ≡ true → (is_connected a.phase ≡ true) × SaidPoll turn a said
  pub other : is_connected said.account.phase ≡ false
      → (said.account.wait.poll ≡ a.wait.poll) × (said.account.numbered ≡ a.numbered) × (of_frame is_poll said.sent ≡ false)
      × (of_frame is_final said.sent ≡ false)

other-speaks : (turn : ℕ) (a : Account) (said : Said) → is_connected said.account.phase ≡ false
    → is_linked said.account.phase ≡ is_linked a.phase → said.account.wait.poll ≡ a.wait.poll → said.account.numbered ≡ a.numbered
    → of_frame is_poll said.sent ≡ false → of_frame is_final said.sent ≡ false → SpeakPoll turn a said
other-speaks turn a said f l p n x y = grind (arith)

poll-ways : (turn : ℕ) (release : Bool) (a : Account) → Ways (SpeakPoll turn a) turn release a
poll-ways turn release a = record {
  answers = grind (arith, answer-quiet, other-speaks, answers-unconnected);
  flags = λ alone e. other-speaks turn a _ (answers-unconnected a.phase a.setup.role alone) refl refl refl refl refl;
  mark = λ p r e. other-speaks turn a _ (ap is_connected p) refl refl refl refl refl;
  odp = λ p r l. other-speaks turn a _ (ap is_connected p) refl refl refl refl refl;
  xid = λ p r. tries _ a (ap is_connected p) refl refl refl refl refl;
  sabme = λ p. tries _ a (ap is_connected p) refl refl refl refl refl;
  linked = λ p r. linked-so _ _ turn a (connected p) (linked-poll turn a);
  releases = λ p r. tries _ (trying Releasing turn a) refl (sym (ap is_linked p)) refl refl refl refl;
  disc = λ p. tries _ a (ap is_connected p) refl refl refl refl refl;
}
  where
    tries : (frame : Frame) (b : Account) → is_connected b.phase ≡ false → is_linked b.phase ≡ is_linked a.phase
        → b.wait.poll ≡ a.wait.poll → b.numbered ≡ a.numbered → is_poll frame ≡ false → is_final frame ≡ false
        → Tries (SpeakPoll turn a) turn frame b
    tries frame b f l p n x y = grind (arith)

    connected : a.phase ≡ Connected → (said : Said) → SaidPoll turn a said → SpeakPoll turn a said
    connected p said h = record {
      linked = ap is_linked h.phase;
      connected = λ c. (ap is_connected p, h);
      other = λ c. let wrong : true ≡ false = sym (ap is_connected (h.phase ∙ p)) ∙ c in cc;
    }

pub poll-speaks : (turn : ℕ) (release : Bool) (a : Account) (said : Said) → speak turn release a ≡ Ok said → SpeakPoll turn a said
poll-speaks turn release a said e = by-ways (SpeakPoll turn a) turn release a (poll-ways turn release a) said e

unlinked-released : (p : Phase) → is_linked p ≡ false → is_released p ≡ false
unlinked-released p e = grind (arith)

connected-released : (p : Phase) → is_connected p ≡ true → is_released p ≡ false
connected-released p e = grind (arith)

connected-closed : (p : Phase) → is_connected p ≡ true → is_closed p ≡ false
connected-closed p e = grind (arith)

-- b is the account once it has heard, c once it has spoken
pub poll-turn : (period turn : ℕ) (role : Role) (polled final : Bool) (a b : Account) (said : Said) → 1 ≤ period
    → PollHeard role turn polled a b → SpeakPoll turn b said → OneDue role b → NoneDue a → Early role a
    → (is_linked a.phase ≡ false → a.wait.timer ≡ None)
    → (role ≡ Answerer → is_connected b.phase ≡ true → b.numbered ≡ false → b.wait.timer ≡ None) → b.setup.period ≡ period
    → (is_connected a.phase ≡ true → b.outgoing.awaited ≡ cond final false a.outgoing.awaited) → (count : ℕ) → b.outgoing.count ≡ count
    → (is_connected a.phase ≡ true → (count ≡ 0) ⊎ ((count ≡ a.outgoing.count) × (b.wait.timer ≡ a.wait.timer)))
    → (made : Bool) × PollTurn period turn role polled final made count said.sent a said.account
poll-turn period turn role polled final a b said some h k one none early untimed silent q wait count same-count keeps =
    go (cases_Bool (is_connected said.account.phase))
  where
    c : Account
    c = said.account

    -- an end that isn't Connected after the turn, or wasn't before
    unlinked-before : is_linked c.phase ≡ false → is_linked b.phase ≡ false
    unlinked-before e = sym k.linked ∙ e

    unlinked-first : is_linked b.phase ≡ false → is_linked a.phase ≡ false
    unlinked-first e = elim (cases_Bool (is_linked a.phase)) [ inl x ↦ clash (is_linked b.phase) (h.linked x) e | inr x ↦ x ]

    stays-linked : is_linked a.phase ≡ true → is_linked c.phase ≡ true
    stays-linked e = k.linked ∙ h.linked e

    early-poll : is_linked c.phase ≡ false → c.wait.poll ≡ false
    early-poll e = let u = unlinked-before e in (k.other (unlinked-connected c.phase e)).0 ∙ ((h.early u).0 ∙ early.poll (unlinked-first u))

    early-numbered : is_linked c.phase ≡ false → c.numbered ≡ false
    early-numbered e = grind (arith, unlinked-before, unlinked-connected, unlinked-first)

    -- whether a reply is due
    reply-heard : is_connected b.phase ≡ true → b.owes.reply ≡ true → polled ≡ true
    reply-heard e r = grind (arith, connected-released, clash, unlinked-released)

    -- an answerer that has heard no I frame and no supervisory frame polls for nothing
    silent-poll : is_connected c.phase ≡ true → role ≡ Answerer → c.numbered ≡ false → c.wait.poll ≡ true → ⊥
    silent-poll e r n p = grind (arith, cases_Bool, clash)

    early-silent : role ≡ Answerer → is_connected c.phase ≡ true → c.numbered ≡ false → c.wait.poll ≡ false
    early-silent r e n = elim (cases_Bool c.wait.poll) [ inl p ↦ absurd (silent-poll e r n p) | inr p ↦ p ]

    after-early : Early role c
    after-early = record { poll = early-poll; numbered = early-numbered; silent = early-silent }

    -- no answer is due where a poll is held up
    no-answer : is_connected c.phase ≡ true → is_connected b.phase ≡ true → SaidPoll turn b said → c.wait.poll ≡ true → b.owes.answer ≡ None
    no-answer e f l p = grind (arith, connected-closed, cases_Bool, silent-poll, clash)

    held : is_connected c.phase ≡ true → poll_due c ≡ true → polled ≡ true
    held e d = grind (arith, and-second, reply-heard, no-answer)

    final-heard : is_connected c.phase ≡ true → of_frame is_final said.sent ≡ true → polled ≡ true
    final-heard e d = let z = k.connected e in reply-heard z.0 (z.1.final d)

    answered : polled ≡ true → is_connected a.phase ≡ true → is_connected c.phase ≡ true → of_frame is_final said.sent ≡ true
    answered p x e = grind (arith, or-late, clash, connected-released)

    keeps-count : is_connected a.phase ≡ true → (count ≡ 0) ⊎ (count ≡ a.outgoing.count)
    keeps-count x = elim (keeps x) [ inl y ↦ inl y | inr x ↦ inr x.0 ]

    -- it isn't Connected after the turn
    over : is_connected c.phase ≡ false → (made : Bool) × PollTurn period turn role polled final made count said.sent a c
    over e = grind (arith)

    -- it was Connected before it
    during : is_connected c.phase ≡ true → is_connected b.phase ≡ true → SaidPoll turn b said → is_connected a.phase ≡ true
        → (made : Bool) × PollTurn period turn role polled final made count said.sent a c
    during e f l x = (
      l.made,
      record {
        early = after-early;
        linked = stays-linked;
        due_from = λ d m. was m ((l.kept (and-second (is_connected c.phase) c.wait.poll d)).0 m);
        held_up = held e;
        sent_from = λ s m. was m ((l.sent s).0 m);
        sent_done = λ s. and-drop (is_connected c.phase) c.wait.poll ((l.sent s).1);
        timer = λ g y. (x, λ s w. timed s (l.timer s w));
        made_timer = λ m g. l.made_timer m;
        made_awaited = λ m g. l.awaited ∙ ap (λ v. v || b.outgoing.awaited) m;
        made_linked = λ m. linked-connected c.phase e;
        made_from = λ m y. let w = expired-from (l.made_from m) in (x, w.0, w.1, w.2);
        replied = final-heard e;
        goes = λ y g w. still-due (l.goes (due w));
        awaited = λ y g. l.awaited ∙ ap (λ v. l.made || v) (wait x);
        counted = λ y g n h. counts n (l.counted n h) (keeps x);
        kept = keeps-count;
        replies = answered;
      },
    )
      where
        was : l.made ≡ false → b.wait.poll ≡ true → poll_due a ≡ true
        was m p = and-true (is_connected a.phase) a.wait.poll x (sym (h.poll x) ∙ p)

        counts : (n : ℕ) → ((l.made ≡ true) × (b.outgoing.count ≡ n) × (c.wait.timer ≡ Some turn))
            ⊎ ((l.made ≡ false) × (b.outgoing.count ≡ n + 1) × ((r : ℕ) → b.wait.timer ≡ Some r → c.wait.timer ≡ Some r))
            → (count ≡ 0) ⊎ ((count ≡ a.outgoing.count) × (b.wait.timer ≡ a.wait.timer))
            → ((l.made ≡ true) × (count ≡ n) × (c.wait.timer ≡ Some turn))
            ⊎ ((l.made ≡ false) × (count ≡ n + 1) × ((r : ℕ) → a.wait.timer ≡ Some r → c.wait.timer ≡ Some r))
        counts n t v = grind (arith)

        due : (l.made ≡ true) ⊎ (poll_due a ≡ true) → (l.made ≡ true) ⊎ (b.wait.poll ≡ true)
        due o = grind (arith, and-second)

        still-due : (of_frame is_poll said.sent ≡ true) ⊎ (c.wait.poll ≡ true) → (of_frame is_poll said.sent ≡ true) ⊎ (poll_due c ≡ true)
        still-due i = grind (arith, and-true)

        timed : (s : ℕ) → (s ≡ turn) ⊎ (b.wait.timer ≡ Some s) → (s ≡ turn) ⊎ (a.wait.timer ≡ Some s)
        timed s j = grind (arith)

        expired-from : (s : ℕ) × (b.wait.timer ≡ Some s) × (turn ≡ s + b.setup.period)
            → (s : ℕ) × (a.wait.timer ≡ Some s) × (turn ≡ s + period)
        expired-from way = grind (arith)

    -- it becomes so in it
    begins : is_connected c.phase ≡ true → is_connected b.phase ≡ true → SaidPoll turn b said → is_linked a.phase ≡ false → (r : Role)
        → role ≡ r → (made : Bool) × PollTurn period turn role polled final made count said.sent a c
    begins e f l x Originator g = (
      true,
      record {
        early = after-early;
        linked = stays-linked;
        due_from = λ d m. cc;
        held_up = held e;
        sent_from = λ s m. cc;
        sent_done = λ s. and-drop (is_connected c.phase) c.wait.poll ((l.sent s).1);
        timer = λ v y. clash (is_linked a.phase) y x;
        made_timer = λ m v s w. timed s (l.timer s w);
        made_awaited = λ m v. l.awaited ∙ or-late l.made b.outgoing.awaited (h.awaits g x f);
        made_linked = λ m. linked-connected c.phase e;
        made_from = λ m y. clash (is_linked a.phase) y x;
        replied = final-heard e;
        goes = λ y g. clash (is_linked a.phase) (linked-connected a.phase y) x;
        awaited = λ y g. clash (is_linked a.phase) (linked-connected a.phase y) x;
        counted = λ y g. clash (is_linked a.phase) (linked-connected a.phase y) x;
        kept = keeps-count;
        replies = answered;
      },
    )
      where
        begun-timer : (s : ℕ) → (s ≡ turn) ⊎ (a.wait.timer ≡ Some s) → s ≡ turn
        begun-timer s which = grind (arith)

        timed : (s : ℕ) → (s ≡ turn) ⊎ (b.wait.timer ≡ Some s) → s ≡ turn
        timed s case = grind (arith, begun-timer)
    begins e f l x Answerer g = (
      false,
      record {
        early = after-early;
        linked = stays-linked;
        due_from = λ d m. absurd (none-kept ((l.kept (and-second (is_connected c.phase) c.wait.poll d)).0));
        held_up = held e;
        sent_from = λ s m. absurd (none-kept ((l.sent s).0));
        sent_done = λ s. absurd (none-kept ((l.sent s).0));
        timer = λ v y. clash (is_linked a.phase) y x;
        made_timer = λ m. cc;
        made_awaited = λ m. cc;
        made_linked = λ m. cc;
        made_from = λ m. cc;
        replied = final-heard e;
        goes = λ y g. clash (is_linked a.phase) (linked-connected a.phase y) x;
        awaited = λ y g. clash (is_linked a.phase) (linked-connected a.phase y) x;
        counted = λ y g. clash (is_linked a.phase) (linked-connected a.phase y) x;
        kept = keeps-count;
        replies = answered;
      },
    )
      where
        none-kept : (l.made ≡ false → b.wait.poll ≡ true) → ⊥
        none-kept w = grind (arith, cases_Bool, clash)

    go : (is_connected c.phase ≡ true) ⊎ (is_connected c.phase ≡ false)
        → (made : Bool) × PollTurn period turn role polled final made count said.sent a c
    go (inr e) = over e
    go (inl e) = let z = k.connected e in elim (h.from z.0) [ inl x ↦ during e z.0 z.1 x | inr x ↦ begins e z.0 z.1 x role refl ]
