-- What speaking makes of an end's breaks, of what it owes for the other end's, and of its urgent segment.
use Rattle.std.proofs.Common.{◌⊎◌, inl, inr, ◌≡◌, ℕ, ◌+◌, ◌-◌, ◌%◌, ◌<◌, ◌&&◌, ◌||◌, not, Bool, true, false, nat_eq, nat_lt, length}
use Rattle.std.proofs.Common.{arith, refl, sym, ◌∙◌, ap, Option, Some, None, Ok, ◌≤◌, length-append}
use Rattle.link_account.proofs.Names.{is_some, nat_tests, Srej, BreakWord, OwnBreaks, waits, ticked, Account, Said, ready_frame}
use Rattle.link_account.proofs.Names.{speak_linked, Role, Sent, Arrived, is_connected}
use Rattle.link_run.proofs.Names.{Link}
use Rattle.lapm_receiver.specs.Incoming.{after_asked}
use Rattle.break_signals.specs.Breaks.{own_due, after_brk, after_ack}
use Rattle.link_account.specs.Speak.{says_word}
use Rattle.turn_bound.proofs.Value.{IsAck}
use Rattle.link_account.proofs.SpeakWays.{NoWord, Steps, steps-so, polling_at, by-linked}
use Rattle.turn_bound.proofs.Truths.{or-late, or-first, clash, and-true, and-second, and-drop}
use Rattle.turn_losses.proofs.Names.{of_frame, is_poll, is_final, of_arrived, Served}
use Rattle.turn_losses.proofs.Words.{ack_of, any_brk, brk_of, of_word, pends_of, pends}
use Rattle.lapm_frames.specs.declared.sent.Sent.TheVariants as slots
use Rattle.turn_losses.proofs.InTurn.{InTurn}
use Rattle.turn_losses.proofs.BreakHear.{BreakHeard, Unanswered, answered_own}

-- what holds a break's word up: an F reply, a poll, an urgent segment, a BRKACK, a word in the turn before, or another answer
abbrev pub holds : (final poll hurries acks special answer : Bool) → Bool
holds final poll hurries acks special answer = final || (poll || (hurries || (acks || (special || answer))))

-- What the nine steps make of them, of what they were: the end's breaks, the BRKACK that is due, whether a segment is urgent, and whether
-- another answer is due.
pub record StepBreaks (special : Bool) (o : OwnBreaks) (due : Option BreakWord) (urgent answer : Bool) (said : Said) : Type 0 where
  pub hurries : Bool
  pub acks : Bool
  pub own : ((said.account.own_breaks ≡ o) × (of_frame (of_word any_brk) said.sent ≡ false))
      ⊎ ((o.brk ≡ true) × (said.account.own_breaks ≡ after_brk o) × (of_frame (of_word (brk_of (o.answered % 2))) said.sent ≡ true))
  pub ack : ((said.account.their_breaks.ack ≡ due) × (acks ≡ false))
      ⊎ ((said.account.their_breaks.ack ≡ None) × (pends due ≡ true)
      × ((n : ℕ) → n < 2 → pends_of n due ≡ true → of_frame (of_word (ack_of n)) said.sent ≡ true))
  pub hurried : hurries ≡ true → (urgent ≡ true) × (said.account.wait.urgent ≡ false)
  pub calm : said.account.wait.urgent ≡ true → urgent ≡ true
  pub held : (said.account.own_breaks.brk ≡ true) ⊎ (pends said.account.their_breaks.ack ≡ true)
      → holds (of_frame is_final said.sent) (of_frame is_poll said.sent) hurries acks special answer ≡ true
  pub special_own : said.account.special ≡ true → said.account.own_breaks.brk ≡ true → acks ≡ true
  pub special_ack : said.account.special ≡ true → pends said.account.their_breaks.ack ≡ true → ⊥

ready-kinds : (busy command pf : Bool) (nr : ℕ) → (is_poll (ready_frame busy command nr pf) ≡ command && pf)
    × (is_final (ready_frame busy command nr pf) ≡ pf && not command) × (of_word any_brk (ready_frame busy command nr pf) ≡ false)
ready-kinds b command pf nr = grind (arith)

small : (n : ℕ) → nat_lt (n % 2) 2 ≡ true
small n = grind (arith, nat_tests)

same-number : (n : ℕ) → nat_eq n n ≡ true
same-number n = grind (arith, nat_tests)

undue : (o : OwnBreaks) → own_due o ≡ None → o.brk ≡ false
undue o n = grind (arith)

module _ (special : Bool) (a : Account) where
  abbrev P : Said → Type 0
  P = StepBreaks special a.own_breaks a.their_breaks.ack a.wait.urgent (is_some a.owes.answer)

  abbrev Due : Type 0
  Due = (a.own_breaks.brk ≡ true) ⊎ (pends a.their_breaks.ack ≡ true)

  -- a frame that leaves them alone, and holds a word up where one is due
  quiet : (said : Said) → said.account.own_breaks ≡ a.own_breaks → said.account.their_breaks ≡ a.their_breaks
      → said.account.special ≡ false → (said.account.wait.urgent ≡ true → a.wait.urgent ≡ true)
      → of_frame (of_word any_brk) said.sent ≡ false
      → (h : Bool) → (h ≡ true → (a.wait.urgent ≡ true) × (said.account.wait.urgent ≡ false))
      → (Due → holds (of_frame is_final said.sent) (of_frame is_poll said.sent) h false special (is_some a.owes.answer) ≡ true) → P said
  quiet said o t s u b h hu k = record {
    hurries = h;
    acks = false;
    own = inl (o, b);
    ack = inl (ap (λ x. x.ack) t, refl);
    hurried = hu;
    calm = u;
    held = λ d. k (elim d [ inl e ↦ inl (ap (λ x. x.brk) (sym o) ∙ e) | inr e ↦ inr (ap (λ x. pends x.ack) (sym t) ∙ e) ]);
    special_own = λ e f. clash said.account.special e s;
    special_ack = λ e f. clash said.account.special e s;
  }

  none-due : {A : Type 0} → (own_due a.own_breaks ≡ None) × (a.their_breaks.ack ≡ None) → Due → A
  none-due x y = grind (arith, clash, undue)

  -- one that goes only where none is due, or in the turn after a word
  idle : (said : Said) → said.account.own_breaks ≡ a.own_breaks → said.account.their_breaks ≡ a.their_breaks
      → said.account.special ≡ false → (said.account.wait.urgent ≡ true → a.wait.urgent ≡ true)
      → of_frame (of_word any_brk) said.sent ≡ false → NoWord special a → P said
  idle said o t s u b w = grind (arith, or-late, or-first, none-due)

  acked : (w : BreakWord) → a.their_breaks.ack ≡ Some w → IsAck (Some w)
      → P (says_word (length a.their_breaks.lengths - 1) w (record a { their_breaks = after_ack a.their_breaks }))
  acked w g i = grind (arith)

  asked : NoWord special a → special ≡ false → (n : ℕ)
      → P (record {
        sent = slots.Frame (Srej false (n % 128) false);
        number = n;
        account = record a
            { incoming = after_asked n a.incoming; special = true };
      })
  asked v s n = grind (arith)

  steps-breaks : (turn : ℕ) → a.special ≡ false → IsAck a.their_breaks.ack → Steps P turn special a
  steps-breaks turn none is_ack = grind (arith)

-- What the timer of a break makes of it: nothing, or it expires.
abbrev pub TicksOwn : (turn period : ℕ) → OwnBreaks → OwnBreaks → Type 0
TicksOwn turn period o new = (new ≡ o)
    ⊎ ((waits o ≡ true) × (turn ≡ o.set + period) × (new ≡ record o { brk = true; set = turn; count = o.count + 1 }))

ticks-own : (turn period tries : ℕ) (o new : OwnBreaks) → ticked turn period tries o ≡ Some new → TicksOwn turn period o new
ticks-own turn period tries o new e = grind (arith)

-- What a Connected end that isn't told to release makes of them: the timer first, and then the nine steps.
pub record SaidBreaks (turn : ℕ) (a : Account) (said : Said) : Type 0 where
  pub own : OwnBreaks
  pub ticks : TicksOwn turn a.setup.period a.own_breaks own
  pub step : StepBreaks a.special own a.their_breaks.ack a.wait.urgent (is_some a.owes.answer) said

pub breaks-said : (turn : ℕ) (a : Account) (said : Said) → IsAck a.their_breaks.ack → speak_linked turn a ≡ Ok said → SaidBreaks turn a said
breaks-said turn a said i h = by-linked (SaidBreaks turn a) turn a (record {
  stands = λ x own t. rows own t (steps-breaks a.special (record a { own_breaks = own; special = false }) turn refl i);
  expires = λ set x own t. rows own t (steps-breaks a.special (polling_at turn a own) turn refl i);
}) said h
  where
    rows : {b : Account} (own : OwnBreaks) → ticked turn a.setup.period a.setup.tries a.own_breaks ≡ Some own
        → Steps (StepBreaks a.special own a.their_breaks.ack a.wait.urgent (is_some a.owes.answer)) turn a.special b
        → Steps (SaidBreaks turn a) turn a.special b
    rows own t = steps-so _ _ turn a.special _
        (λ s k. record { own = own; ticks = ticks-own turn a.setup.period a.setup.tries a.own_breaks own t; step = k })

-- A turn after which an end is Connected, by its breaks and by what it owes for the other end's.

-- between turns: the number of the break that waits; its BRK is due; a BRKACK is due
abbrev pub number_of : Account → ℕ
number_of a = a.own_breaks.answered % 2

abbrev pub brk_due : Account → Bool
brk_due a = is_connected a.phase && a.own_breaks.brk

abbrev pub ack_due : Account → Bool
ack_due a = pends a.their_breaks.ack

-- What an end does in a turn.
pub record Deeds : Type 0 where
  pub made : Bool  -- a BRK becomes due: a break is taken, or its timer expires
  pub hurries : Bool  -- the urgent segment goes
  pub acks : Bool  -- a BRKACK goes
  pub answers : Bool  -- another answer is due

-- breaks but for whether a BRK is due; and once the timer has expired
abbrev pub but_brk : Bool → OwnBreaks → OwnBreaks
but_brk b o = record o { brk = b }

abbrev pub again : ℕ → Bool → OwnBreaks → OwnBreaks
again turn b o = record o { brk = b; set = turn; count = o.count + 1 }

-- What becomes of its own breaks: they stay, but that a BRK may go; the one that waits is answered; one more is taken; the timer expires.
pub data OwnTurn (period turn : ℕ) (arrived : Arrived) (made : Bool) (a c : OwnBreaks) : Type 0 where
  Stays : made ≡ false → Unanswered arrived a → c ≡ but_brk c.brk a → OwnTurn period turn arrived made a c
  Ends : made ≡ false → waits a ≡ true → waits c ≡ false → c.rest ≡ turn + 8 → OwnTurn period turn arrived made a c
  Takes : made ≡ true → waits a ≡ false → a.rest ≤ turn → waits c ≡ true → c.set ≡ turn → c.count ≡ 0 → OwnTurn period turn arrived made a c
  Expires : made ≡ true → waits a ≡ true → turn ≡ a.set + period → Unanswered arrived a
      → c ≡ again turn c.brk a → OwnTurn period turn arrived made a c

pub made-set : {period turn : ℕ} {arrived : Arrived} {made : Bool} {a c : OwnBreaks} → OwnTurn period turn arrived made a c → made ≡ true
    → (waits c ≡ true) × (c.set ≡ turn)
made-set {made = made} (Stays m n q) e = clash made e m
made-set {made = made} (Ends m w v r) e = clash made e m
made-set (Takes m w r v s z) e = (v, s)
made-set (Expires m w d n q) e = (ap waits q ∙ w, ap (λ x. x.set) q)

-- the answer ends the wait
pub wait-ends : {period turn : ℕ} {arrived : Arrived} {made : Bool} {a c : OwnBreaks} → OwnTurn period turn arrived made a c
    → waits a ≡ true → of_arrived (of_word (ack_of (a.answered % 2))) arrived ≡ true → waits c ≡ false
wait-ends (Stays m n q) w e = let wrong : true ≡ false = sym e ∙ n w in cc
wait-ends (Ends m w v r) x e = v
wait-ends {a = a} (Takes m w r v s z) x e = clash (waits a) x w
wait-ends (Expires m w d n q) x e = let wrong : true ≡ false = sym e ∙ n x in cc

pub record BreakTurn (period turn : ℕ) (arrived : Arrived) (sent : Sent) (d : Deeds) (a c : Account) : Type 0 where
  pub own : OwnTurn period turn arrived d.made a.own_breaks c.own_breaks
  pub waited : waits a.own_breaks ≡ true → is_connected a.phase ≡ true
  -- a BRK goes where it is due
  pub brk_from : brk_due c ≡ true → (brk_due a ≡ true) ⊎ (d.made ≡ true)
  pub brk_sent : of_frame (of_word any_brk) sent ≡ true → ((brk_due a ≡ true) ⊎ (d.made ≡ true)) × (brk_due c ≡ false)
      × (of_frame (of_word (brk_of (number_of c))) sent ≡ true)
  pub brk_goes : waits c.own_breaks ≡ true → (brk_due a ≡ true) ⊎ (d.made ≡ true)
      → (brk_due c ≡ true) ⊎ (of_frame (of_word (brk_of (number_of c))) sent ≡ true)
  pub held : (brk_due c ≡ true) ⊎ (ack_due c ≡ true)
      → holds (of_frame is_final sent) (of_frame is_poll sent) d.hurries d.acks a.special d.answers ≡ true
  -- BRKACKs
  pub ack_from : ack_due c ≡ true → ((ack_due a ≡ true) ⊎ (of_arrived (of_word any_brk) arrived ≡ true)) × (d.acks ≡ false)
  pub acked : d.acks ≡ true → (ack_due a ≡ true) ⊎ (of_arrived (of_word any_brk) arrived ≡ true)
  pub asked : (n : ℕ) → n < 2 → (of_arrived (of_word (brk_of n)) arrived ≡ true)
      ⊎ ((pends_of n a.their_breaks.ack ≡ true) × (of_arrived (of_word any_brk) arrived ≡ false))
      → (pends_of n c.their_breaks.ack ≡ true) ⊎ (of_frame (of_word (ack_of n)) sent ≡ true)
  -- the turn before
  pub urgent : c.wait.urgent ≡ true → (a.wait.urgent ≡ true) ⊎ (of_arrived is_final arrived ≡ true)
  pub hurried : d.hurries ≡ true → ((a.wait.urgent ≡ true) ⊎ (of_arrived is_final arrived ≡ true)) × (c.wait.urgent ≡ false)
  pub special_own : c.special ≡ true → brk_due c ≡ true → d.acks ≡ true
  pub special_ack : c.special ≡ true → ack_due c ≡ true → ⊥

pub waits-not : (b : OwnBreaks) → length b.lengths ≤ b.answered → waits b ≡ false
waits-not b l = grind (arith, nat_tests, l)

-- serving takes one more break, of this turn
pub record TakesBreak (turn : ℕ) (a b : OwnBreaks) : Type 0 where
  pub none : waits a ≡ false
  pub rested : a.rest ≤ turn
  pub waiting : waits b ≡ true
  pub brk : b.brk ≡ true
  pub set : b.set ≡ turn
  pub count : b.count ≡ 0

pub served-own : (turn breaks : ℕ) (busy : Bool) (a b : Account) → Served turn breaks busy a b
    → a.own_breaks.answered ≤ length a.own_breaks.lengths
    → (b.own_breaks ≡ a.own_breaks) ⊎ TakesBreak turn a.own_breaks b.own_breaks
served-own turn breaks busy a b s low = grind (arith, length-append, waits)

-- A turn of an end that becomes or stays Connected, by what it made of its breaks as it heard, was served and spoke.
module _ {tries period : ℕ} {link : Link} {r : Role} {turn : ℕ} {a : Account} {arrived : Arrived} {mid b : Account}
    (i : InTurn tries period link r turn a arrived mid b) (said : Said) (low : mid.own_breaks.answered ≤ length mid.own_breaks.lengths)
    (high : length a.own_breaks.lengths ≤ a.own_breaks.answered + 1) (waited : waits a.own_breaks ≡ true → is_connected a.phase ≡ true)
    (on : a.own_breaks.brk ≡ true → is_connected a.phase ≡ true) (now : is_connected said.account.phase ≡ true)
    (h : BreakHeard turn arrived a mid) (k : SaidBreaks turn b said) where
  abbrev OwnSo : Type 0
  OwnSo = (made : Bool) × OwnTurn period turn arrived made a.own_breaks said.account.own_breaks
      × (k.own.brk ≡ true → (brk_due a ≡ true) ⊎ (made ≡ true))
      × (waits said.account.own_breaks ≡ true → (brk_due a ≡ true) ⊎ (made ≡ true) → k.own.brk ≡ true)

  like : said.account.own_breaks ≡ but_brk said.account.own_breaks.brk k.own
  like = grind (arith)

  ended : waits (answered_own turn a.own_breaks) ≡ false
  ended = waits-not (answered_own turn a.own_breaks) (omega (arith, high))

  own-so : ((mid.own_breaks ≡ a.own_breaks) × Unanswered arrived a.own_breaks)
      ⊎ ((waits a.own_breaks ≡ true) × (mid.own_breaks ≡ answered_own turn a.own_breaks))
      → (b.own_breaks ≡ mid.own_breaks) ⊎ TakesBreak turn mid.own_breaks b.own_breaks
      → TicksOwn turn b.setup.period b.own_breaks k.own → OwnSo
  own-so (inl (q, n)) (inl s) (inl t) = let e = t ∙ (s ∙ q) in (
    false,
    Stays refl n (like ∙ ap (but_brk said.account.own_breaks.brk) e),
    (λ f. let g = ap (λ o. o.brk) (sym e) ∙ f in inl (and-true (is_connected a.phase) a.own_breaks.brk (on g) g)),
    (λ w d. elim d [ inl x ↦ ap (λ o. o.brk) e ∙ and-second (is_connected a.phase) a.own_breaks.brk x | inr m ↦ cc ]),
  )
  own-so (inl (q, n)) (inl s) (inr (w, d, t)) = grind (arith, like)
  own-so (inl (q, n)) (inr s) (inl t) = grind (arith, like)
  own-so (inl x) (inr s) (inr (w, d, t)) = let set = s.set in absurd (omega (arith, d, set, i.b_period, i.long))
  own-so (inr (w, q)) (inl s) (inl t) = grind (arith, like, clash)
  own-so (inr (w, q)) (inl s) (inr (v, d, t)) = clash (waits b.own_breaks) v (ap waits (s ∙ q) ∙ ended)
  own-so (inr (w, q)) (inr s) t = let rest = ap (λ o. o.rest) q in let low = s.rested in absurd (omega (arith, low, rest))

  number : of_frame (of_word (brk_of (k.own.answered % 2))) said.sent ≡ true
      → of_frame (of_word (brk_of (number_of said.account))) said.sent ≡ true
  number e = ap (λ o. of_frame (of_word (brk_of (o.answered % 2))) said.sent) like ∙ e

  ack-heard : pends b.their_breaks.ack ≡ true → (ack_due a ≡ true) ⊎ (of_arrived (of_word any_brk) arrived ≡ true)
  ack-heard e = grind (arith)

  pub break-turn : (d : Deeds) × (d.answers ≡ is_some b.owes.answer) × BreakTurn period turn arrived said.sent d a said.account
      × (waits said.account.own_breaks ≡ waits b.own_breaks)
  break-turn = by (own-so h.own (served-own _ _ _ mid b i.served low) k.ticks)
    where
      waits-said : waits said.account.own_breaks ≡ waits b.own_breaks
      waits-said = ap waits like ∙ elim k.ticks [ inl t ↦ ap waits t | inr x ↦ ap waits x.2 ]

      asked : (n : ℕ) → n < 2 → pends_of n b.their_breaks.ack ≡ true
          → (pends_of n said.account.their_breaks.ack ≡ true) ⊎ (of_frame (of_word (ack_of n)) said.sent ≡ true)
      asked n l e = elim k.step.ack [ inl z ↦ inl (ap (pends_of n) z.0 ∙ e) | inr z ↦ inr (z.2 n l e) ]

      by : OwnSo → (d : Deeds) × (d.answers ≡ is_some b.owes.answer) × BreakTurn period turn arrived said.sent d a said.account
          × (waits said.account.own_breaks ≡ waits b.own_breaks)
      by (made, own, from, still) = (
        record { made = made; hurries = k.step.hurries; acks = k.step.acks; answers = is_some b.owes.answer },
        refl,
        record {
          own = own;
          waited = waited;
          brk_from = grind (arith, and-second);
          brk_sent = λ e. elim k.step.own [
            | inl y ↦ clash (of_frame (of_word any_brk) said.sent) e y.1
            | inr y ↦ (from y.0, and-drop (is_connected said.account.phase) said.account.own_breaks.brk (ap (λ o. o.brk) y.1), number y.2)
          ];
          brk_goes = grind (arith, and-true, number);
          held = grind (arith, and-second);
          ack_from = grind (arith, ack-heard, clash);
          acked = λ e. elim k.step.ack [ inl z ↦ clash k.step.acks e z.1 | inr z ↦ ack-heard z.1 ];
          asked = λ n l e. asked n l (ap (λ t. pends_of n t.ack) i.served.ack
              ∙ elim e [ inl x ↦ h.asked n x | inr x ↦ ap (pends_of n) (h.kept x.1) ∙ x.0 ]);
          urgent = λ e. h.urgent (ap (λ w. w.urgent) (sym i.served.wait) ∙ k.step.calm e);
          hurried = λ e. let x = k.step.hurried e in (h.urgent (ap (λ w. w.urgent) (sym i.served.wait) ∙ x.0), x.1);
          special_own = λ e f. k.step.special_own e (and-second (is_connected said.account.phase) said.account.own_breaks.brk f);
          special_ack = k.step.special_ack;
        },
        waits-said,
      )
