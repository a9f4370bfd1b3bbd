-- The ways in which an end speaks: what holds of each way holds of all that it sends. So a fact about what is sent has one line for each
-- way, and no case distinction over phases, timers and steps of its own.
use Rattle.link_account.proofs.Names.{◌⊎◌, inr, arith, ◌≡◌, ℕ, ◌+◌, ◌-◌, ◌%◌, ◌&&◌, Bool, true, false, cond, nat_eq, nat_le, length, refl}
use Rattle.link_account.proofs.Names.{Option, Some, None, Result, Ok, Err, ◌∙◌, ap, subst, nat_tests, OwnBreaks, after_ack, after_brk}
use Rattle.link_account.proofs.Names.{own_due, ticked, waits, BreakWord, Frame, Disc, Rej, Sabme, Srej, Xid, Sent, after_asked, asks}
use Rattle.link_account.proofs.Names.{Outgoing, after_next, expired, Account, Wait, is_connected, trying, Said, after_timers, answering}
use Rattle.link_account.proofs.Names.{breaking, else_says, frame_for, has_news, may_send, nr_of, polling, says, says_asking, says_break}
use Rattle.link_account.proofs.Names.{says_frame, says_own, says_segment, says_word, speak, speak_detecting, speak_in, speak_linked}
use Rattle.link_account.proofs.Names.{speak_negotiating, speak_releasing, spent, step1, step2, step3, step4, step5, step6, step7, step8}
use Rattle.link_account.proofs.Names.{steps, telling, tells, then_tries, timer_expires, tries_frame, trying_again, u_try, where_says}
use Rattle.link_account.proofs.Names.{Answer, Phase, Closed, Connected, Detecting, Establishing, Negotiating, Releasing, is_originator}
use Rattle.link_account.proofs.Names.{LinkFault, NotDetected, Role, Answerer, Originator, written}
use Rattle.std.proofs.Common.{◌*◌}
use Rattle.shared_terms.specs.Timer.{expires}
use Rattle.lapm_frames.specs.declared.sent.Sent.TheVariants as slots

abbrev pub AllSaid : (Said → Type 0) → Option Said → Type 0
AllSaid P None = Unit {0}
AllSaid P (Some said) = P said

abbrev pub OnSaid : (Said → Type 0) → Result Said LinkFault → Type 0
OnSaid P (Ok said) = P said
OnSaid P (Err fault) = Unit {0}

-- the first of two rules that applies; the second where the first doesn't
pub else-says : (P : Said → Type 0) (first : Option Said) (said : Said) → AllSaid P first → (first ≡ None → P said) → P
    (else_says first said)
else-says P first said h k = grind (arith)

pub where-says : (P : Said → Type 0) (b : Bool) (said : Said) → (b ≡ true → P said) → AllSaid P (where_says b said)
where-says P b said h = grind (arith)

-- an answer that is due is sent
abbrev pub Answers : (Said → Type 0) → Account → Type 0
Answers P a = (d : Answer) → a.owes.answer ≡ Some d → P (says (frame_for d a) (record a { owes = record a.owes { answer = None } }))

-- What went before a step of a Connected end: no answer, no F reply and no poll was due.
pub record Before (a : Account) : Type 0 where
  pub answer : a.owes.answer ≡ None
  pub reply : a.owes.reply ≡ false
  pub poll : a.wait.poll ≡ false

-- no BRK and no BRKACK was due, or one may not go in this turn
abbrev pub NoWord : Bool → Account → Type 0
NoWord special a = (special ≡ true) ⊎ ((own_due a.own_breaks ≡ None) × (a.their_breaks.ack ≡ None))

-- a REJ or an SREJ is due
pub record Asking (srej : Bool) (a : Account) (n : ℕ) : Type 0 where
  pub kind : a.incoming.srej ≡ srej
  pub busy : a.owes.busy ≡ false
  pub number : asks a.incoming ≡ Some n

-- and last, nothing is due
pub record Idle (special : Bool) (a : Account) : Type 0 where
  pub before : Before a
  pub words : NoWord special a
  pub segment : may_send a ≡ None
  pub owed : a.incoming.owed ≡ false

-- The nine steps of a Connected end whose timers are done, in their order but for a segment, which has one row whether it is urgent or
-- not, and RR or RNR, which has one row as news and as an acknowledgement that is owed.
pub record Steps (P : Said → Type 0) (turn : ℕ) (special : Bool) (a : Account) : Type 0 where
  pub answers : Answers P a
  pub final : a.owes.answer ≡ None → a.owes.reply ≡ true → P (tells false true (record a { owes = record a.owes { reply = false } }))
  pub poll : a.owes.answer ≡ None → a.owes.reply ≡ false → a.wait.poll ≡ true
      → P (tells true true (record a { wait = record a.wait { poll = false } }))
  pub segment : Before a → (a.wait.urgent ≡ true) ⊎ NoWord special a → (n : ℕ) → may_send a ≡ Some n → AllSaid P
      (says_segment turn (Some n) a)
  pub brkack : Before a → special ≡ false → (word : BreakWord) → a.their_breaks.ack ≡ Some word
      → P (says_word (length a.their_breaks.lengths - 1) word (record a { their_breaks = after_ack a.their_breaks }))
  pub brk : Before a → special ≡ false → a.their_breaks.ack ≡ None → (word : BreakWord) → own_due a.own_breaks ≡ Some word
      → P (says_word a.own_breaks.answered word (record a { own_breaks = after_brk a.own_breaks }))
  pub tell : Before a → NoWord special a → (has_news a ≡ true) ⊎ ((may_send a ≡ None) × (a.incoming.owed ≡ true)) → P (tells false false a)
  pub rej : Before a → NoWord special a → (n : ℕ) → Asking false a n → P (says_frame (Rej false (nr_of a) false)
      (telling (record a { incoming = after_asked n a.incoming; owes = record a.owes { busy_told = false } })))
  pub srej : Before a → NoWord special a → special ≡ false → (n : ℕ) → Asking true a n
      → P (record {
        sent = slots.Frame (Srej false (n % 128) false);
        number = n;
        account = record a { incoming = after_asked n a.incoming; special = true };
      })
  pub flags : Idle special a → P (says slots.Flags a)

-- rows of one fact give those of another that follows from it
pub steps-so : (P Q : Said → Type 0) (turn : ℕ) (special : Bool) (a : Account) → ((said : Said) → P said → Q said) → Steps P turn special a
    → Steps Q turn special a
steps-so P Q turn special a f h = grind (arith)

module _ (P : Said → Type 0) (turn : ℕ) (special : Bool) (a : Account) (h : Steps P turn special a) where
  answered : (o : Option Answer) → a.owes.answer ≡ o → AllSaid P (answering o a)
  answered x e = grind (arith)

  sends : Before a → (a.wait.urgent ≡ true) ⊎ NoWord special a → (o : Option ℕ) → may_send a ≡ o → AllSaid P (says_segment turn o a)
  sends k u x e = grind (arith)

  urgent : Before a → (b : Bool) → a.wait.urgent ≡ b → AllSaid P (cond b (says_segment turn (may_send a) a) None)
  urgent k x e = grind (arith)

  words : Before a → (s : Bool) → special ≡ s → (o : Option BreakWord) → a.their_breaks.ack ≡ o → AllSaid P (cond s None (says_break o a))
  words k true e o f = tt
  words k false e (Some word) f = h.brkack k e word f
  words k false e None f = own (own_due a.own_breaks) refl
    where
      own : (o : Option BreakWord) → own_due a.own_breaks ≡ o → AllSaid P (says_own o a)
      own o g = grind (arith)

  asked : Before a → NoWord special a → a.owes.busy ≡ false → (srej s : Bool) → a.incoming.srej ≡ srej → special ≡ s → (o : Option ℕ)
      → asks a.incoming ≡ o → AllSaid P (says_asking srej s o a)
  asked k w y srej s q e x f = grind (arith)

  news : Before a → NoWord special a → (n busy : Bool) → has_news a ≡ n → a.owes.busy ≡ busy
      → AllSaid P (cond n (Some (tells false false a)) (cond busy None (says_asking a.incoming.srej special (asks a.incoming) a)))
  news k w x busy e y = grind (arith)

  not-said : (b : Bool) (said : Said) → where_says b said ≡ None → b ≡ false
  not-said x said e = grind (arith)

  no-answer : (o : Option Answer) → answering o a ≡ None → o ≡ None
  no-answer x e = grind (arith)

  no-segment : (o : Option ℕ) → says_segment turn o a ≡ None → o ≡ None
  no-segment x e = grind (arith)

  no-word : (s : Bool) → special ≡ s → (o : Option BreakWord) → a.their_breaks.ack ≡ o → cond s None (says_break o a) ≡ None
      → NoWord special a
  no-word s e o f n = grind (arith)

  pub by-steps : P (steps turn special a)
  by-steps =
      else-says P (step1 a) _ (answered a.owes.answer refl) (λ e1.
      let d = no-answer a.owes.answer e1 in
      else-says P (step2 a) _ (where-says P a.owes.reply _ (h.final d)) (λ e2.
      let r = not-said a.owes.reply _ e2 in
      else-says P (step3 a) _ (where-says P a.wait.poll _ (h.poll d r)) (λ e3.
      let k : Before a = record { answer = d; reply = r; poll = not-said a.wait.poll _ e3 } in
      else-says P (step4 turn a) _ (urgent k a.wait.urgent refl) (λ e4.
      else-says P (step5 special a) _ (words k special refl a.their_breaks.ack refl) (λ e5.
      let w = no-word special refl a.their_breaks.ack refl e5 in
      else-says P (step6 special a) _ (news k w (has_news a) a.owes.busy refl refl) (λ e6.
      else-says P (step7 turn a) _ (sends k (inr w) (may_send a) refl) (λ e7.
      let s = no-segment (may_send a) e7 in
      else-says P (step8 a) _ (where-says P a.incoming.owed _ (λ o. h.tell k w (inr (s, o)))) (λ e8.
      h.flags (record { before = k; words = w; segment = s; owed = not-said a.incoming.owed _ e8 })))))))))

-- an account as its timers leave it, that of the break by these
abbrev pub retimed : Account → ℕ → Bool → Wait → OwnBreaks → Account
retimed a count awaited wait own = record a {
  outgoing = record a.outgoing { count = count; awaited = awaited };
  wait = wait;
  own_breaks = record a.own_breaks { brk = own.brk; set = own.set; count = own.count };
  special = false;
}

-- and as the timer of the segments leaves it where it has expired
abbrev pub polling_at : ℕ → Account → OwnBreaks → Account
polling_at turn a own = record a {
  outgoing = record a.outgoing { count = a.outgoing.count + 1; awaited = true };
  wait = record a.wait { poll = true; timer = Some turn };
  own_breaks = own;
  special = false;
}

-- the timer of the segments expires, and a try is left
pub record Expired (turn : ℕ) (a : Account) (set : ℕ) : Type 0 where
  pub timer : a.wait.timer ≡ Some set
  pub due : turn ≡ set + a.setup.period
  pub left : nat_eq a.outgoing.count a.outgoing.tries ≡ false

-- Once its timers are done: that of the segments doesn't expire or does, and that of the break does what it does.
pub record ConnectedWays (P : Said → Type 0) (turn : ℕ) (a : Account) : Type 0 where
  pub stands : timer_expires turn a a.wait.timer ≡ false → (own : OwnBreaks) → ticked turn a.setup.period a.setup.tries a.own_breaks
      ≡ Some own
      → Steps P turn a.special (record a { own_breaks = own; special = false })
  pub expires : (set : ℕ) → Expired turn a set → (own : OwnBreaks) → ticked turn a.setup.period a.setup.tries a.own_breaks ≡ Some own
      → Steps P turn a.special (polling_at turn a own)

pub linked-so : (P Q : Said → Type 0) (turn : ℕ) (a : Account) → ((said : Said) → P said → Q said) → ConnectedWays P turn a
    → ConnectedWays Q turn a
linked-so P Q turn a f h = record {
  stands = λ x own t. steps-so P Q turn a.special _ f (h.stands x own t);
  expires = λ set x own t. steps-so P Q turn a.special _ f (h.expires set x own t);
}

-- what the timer of a break changes
ticked-only : (turn period tries : ℕ) (b own : OwnBreaks) → ticked turn period tries b ≡ Some own
    → record b { brk = own.brk; set = own.set; count = own.count } ≡ own
ticked-only turn period tries b own e = grind (arith)

-- rows for whatever the timers did
pub linked-alike : (P : Said → Type 0) (turn : ℕ) (a : Account)
    → ((count : ℕ) (awaited : Bool) (w : Wait) (own : OwnBreaks) → Steps P turn a.special (retimed a count awaited w own))
    → ConnectedWays P turn a
linked-alike P turn a h = record {
  stands = λ e own t. subst (λ o. Steps P turn a.special (record a { own_breaks = o; special = false }))
      (ticked-only turn a.setup.period a.setup.tries a.own_breaks own t) (h a.outgoing.count a.outgoing.awaited a.wait own);
  expires = λ set x own t. subst (λ o. Steps P turn a.special (polling_at turn a o))
      (ticked-only turn a.setup.period a.setup.tries a.own_breaks own t)
      (h (a.outgoing.count + 1) true (record a.wait { poll = true; timer = Some turn }) own);
}

module _ (P : Said → Type 0) (turn : ℕ) (a : Account) (h : ConnectedWays P turn a) where
  second : (b : Account) (o : Option OwnBreaks)
      → ((own : OwnBreaks) → o ≡ Some own → Steps P turn a.special (record b { own_breaks = own; special = false }))
      → OnSaid P (after_timers turn a.special (breaking turn o b))
  second b None k = tt
  second b (Some own) k = by-steps P turn a.special (record b { own_breaks = own; special = false }) (k own refl)

  by-timers : OnSaid P (speak_linked turn a)
  by-timers = timed a.wait.timer refl
    where
      timed : (m : Option ℕ) → a.wait.timer ≡ m → OnSaid P (after_timers turn a.special (then_tries turn
          (cond (timer_expires turn a m) (polling turn (expired a.outgoing) a) (Ok a))))
      timed None e = second a _ (h.stands (ap (timer_expires turn a) e))
      timed (Some set) e = go (nat_eq turn (set + a.setup.period)) refl (nat_eq a.outgoing.count a.outgoing.tries) refl
        where
          go : (b : Bool) → nat_eq turn (set + a.setup.period) ≡ b → (c : Bool) → nat_eq a.outgoing.count a.outgoing.tries ≡ c
              → OnSaid P (after_timers turn a.special (then_tries turn
              (cond b (polling turn (cond c None (Some (record a.outgoing { count = a.outgoing.count + 1; awaited = true }))) a) (Ok a))))
          go true q true n = tt
          go true q false n = second (record a {
            outgoing = record a.outgoing { count = a.outgoing.count + 1; awaited = true };
            wait = record a.wait { poll = true; timer = Some turn };
          }) _ (h.expires set (record { timer = e; due = grind (arith, nat_tests, q); left = n }))
          go false q c n = second a _ (h.stands (ap (timer_expires turn a) e ∙ q))

  pub by-linked : (said : Said) → speak_linked turn a ≡ Ok said → P said
  by-linked said e = subst (OnSaid P) e by-timers

-- A U try: its frame goes where it is due, and again where its timer expires and a try is left.
pub record Tries (P : Said → Type 0) (turn : ℕ) (frame : Frame) (a : Account) : Type 0 where
  pub sent : expires a.wait.try_set a.setup.period turn ≡ false → a.wait.try ≡ true
      → P (says_frame frame (record a { wait = record a.wait { try = false } }))
  pub again : expires a.wait.try_set a.setup.period turn ≡ true → nat_eq a.wait.try_count a.setup.tries ≡ false
      → P (says_frame frame (record a { wait = record a.wait { try = false; try_set = turn; try_count = a.wait.try_count + 1 } }))
  pub flags : expires a.wait.try_set a.setup.period turn ≡ false → a.wait.try ≡ false → P (says slots.Flags a)

-- rows for whatever the timer did
pub tries-alike : (P : Said → Type 0) (turn : ℕ) (frame : Frame) (a : Account) → ((w : Wait) → P (says_frame frame (record a { wait = w })))
    → P (says slots.Flags a) → Tries P turn frame a
tries-alike P turn frame a h k = record { sent = λ x e. h _; again = λ x e. h _; flags = λ x e. k }

pub by-tries : (P : Said → Type 0) (turn : ℕ) (frame : Frame) (a : Account) → Tries P turn frame a → OnSaid P (u_try turn frame a)
by-tries P turn frame a h = grind (arith, expires, spent, says)

-- an end sends nothing but the answers that it owes: an answerer that isn't Connected yet, and an end that is closed
abbrev pub answers_alone : Phase → Role → Bool
answers_alone Detecting Answerer = true
answers_alone Negotiating Answerer = true
answers_alone Closed role = true
answers_alone p role = false

pub answers-unconnected : (p : Phase) (role : Role) → answers_alone p role ≡ true → is_connected p ≡ false
answers-unconnected p role e = grind (arith)

-- All ways of an end, by its phase.
pub record Ways (P : Said → Type 0) (turn : ℕ) (release : Bool) (a : Account) : Type 0 where
  pub answers : answers_alone a.phase a.setup.role ≡ true → Answers P a
  pub flags : answers_alone a.phase a.setup.role ≡ true → a.owes.answer ≡ None → P (says slots.Flags a)
  pub mark : a.phase ≡ Detecting → a.setup.role ≡ Answerer → a.owes.answer ≡ None → P (says slots.Mark a)
  pub odp : a.phase ≡ Detecting → a.setup.role ≡ Originator → nat_le ((a.setup.tries + 1) * a.setup.period) turn ≡ false → P
      (says slots.Odp a)
  pub xid : a.phase ≡ Negotiating → a.setup.role ≡ Originator → Tries P turn (Xid true false (written a.setup.offer)) a
  pub sabme : a.phase ≡ Establishing → Tries P turn (Sabme true) a
  pub linked : a.phase ≡ Connected → (release && is_originator a.setup.role) ≡ false → ConnectedWays P turn a
  pub releases : a.phase ≡ Connected → (release && is_originator a.setup.role) ≡ true → Tries P turn (Disc true) (trying Releasing turn a)
  pub disc : a.phase ≡ Releasing → Tries P turn (Disc true) a

module _ (P : Said → Type 0) (turn : ℕ) (release : Bool) (a : Account) (h : Ways P turn release a) where
  due : (slot : Sent) → answers_alone a.phase a.setup.role ≡ true → (a.owes.answer ≡ None → P (says slot a))
      → P (else_says (answering a.owes.answer a) (says slot a))
  due slot alone idle = grind (arith, says)

  detects : a.phase ≡ Detecting → (r : Role) → a.setup.role ≡ r → OnSaid P (speak_detecting r turn a)
  detects e r f = grind (arith, says, due)

  negotiates : a.phase ≡ Negotiating → (r : Role) → a.setup.role ≡ r → OnSaid P (speak_negotiating r turn a)
  negotiates e x f = grind (arith)

  connects : a.phase ≡ Connected → (b : Bool) → (release && is_originator a.setup.role) ≡ b
      → OnSaid P (cond b (speak_releasing turn (trying Releasing turn a)) (speak_linked turn a))
  connects e true f = by-tries P turn _ (trying Releasing turn a) (h.releases e f)
  connects e false f = by-timers P turn a (h.linked e f)

  in-phase : (p : Phase) → a.phase ≡ p → OnSaid P (speak_in p turn release a)
  in-phase Detecting e = detects e a.setup.role refl
  in-phase Negotiating e = negotiates e a.setup.role refl
  in-phase Establishing e = by-tries P turn _ a (h.sabme e)
  in-phase Connected e = connects e (release && is_originator a.setup.role) refl
  in-phase Releasing e = by-tries P turn _ a (h.disc e)
  in-phase Closed e = grind (arith, due)

  -- what holds of each way holds of all that is sent
  pub by-ways : (said : Said) → speak turn release a ≡ Ok said → P said
  by-ways said e = subst (OnSaid P) e (in-phase a.phase refl)

-- Whose tries are spent: of a U try, of the segments' timer, of a break that waits. An end that is told to release begins a U try, whose
-- timer doesn't expire in that turn but where a period is 0.
pub data Ended (turn : ℕ) (release : Bool) (a : Account) : Type 0 where
  TryEnds : ((a.phase ≡ Negotiating) × (a.setup.role ≡ Originator)) ⊎ ((a.phase ≡ Establishing) ⊎ (a.phase ≡ Releasing))
      → expires a.wait.try_set a.setup.period turn ≡ true → nat_eq a.wait.try_count a.setup.tries ≡ true → Ended turn release a
  ReleaseEnds : a.phase ≡ Connected → expires turn a.setup.period turn ≡ true → Ended turn release a
  TimerEnds : a.phase ≡ Connected → (set : ℕ) → a.wait.timer ≡ Some set → expires set a.setup.period turn ≡ true
      → nat_eq a.outgoing.count a.outgoing.tries ≡ true → Ended turn release a
  BreakEnds : a.phase ≡ Connected → waits a.own_breaks ≡ true → expires a.own_breaks.set a.setup.period turn ≡ true
      → nat_eq a.own_breaks.count a.setup.tries ≡ true → Ended turn release a

-- Why an end breaks as it speaks: it detected nothing, or its tries are spent.
pub data Breaks (turn : ℕ) (release : Bool) (a : Account) (fault : LinkFault) : Type 0 where
  Undetected : a.phase ≡ Detecting → a.setup.role ≡ Originator → nat_le ((a.setup.tries + 1) * a.setup.period) turn ≡ true → fault
      ≡ NotDetected
      → Breaks turn release a fault
  Spends : Ended turn release a → fault ≡ spent turn a → Breaks turn release a fault

module _ (turn : ℕ) (release : Bool) (a : Account) where
  abbrev Broken : {A : Type 0} → Result A LinkFault → Type 0
  Broken (Ok x) = Unit {0}
  Broken (Err fault) = Breaks turn release a fault

  tries-broken : (frame : Frame) (b : Account) → spent turn b ≡ spent turn a
      → (expires b.wait.try_set b.setup.period turn ≡ true → nat_eq b.wait.try_count b.setup.tries ≡ true → Ended turn release a)
      → Broken (u_try turn frame b)
  tries-broken frame b e f = go (expires b.wait.try_set b.setup.period turn) refl (nat_eq b.wait.try_count b.setup.tries) refl
    where
      go : (x : Bool) → expires b.wait.try_set b.setup.period turn ≡ x → (y : Bool) → nat_eq b.wait.try_count b.setup.tries ≡ y
          → Broken (cond x (cond y (Err (spent turn b)) (Ok (tries_frame frame (trying_again turn b)))) (Ok (tries_frame frame b)))
      go true x true y = Spends (f x y) e
      go true x false y = tt
      go false x c y = tt

  ticks-broken : a.phase ≡ Connected → (b : Account) → spent turn b ≡ spent turn a
      → Broken (after_timers turn a.special (breaking turn (ticked turn a.setup.period a.setup.tries a.own_breaks) b))
  ticks-broken p b e = grind (arith)

  linked-broken : a.phase ≡ Connected → (m : Option ℕ) → a.wait.timer ≡ m → Broken (after_timers turn a.special (then_tries turn
      (cond (timer_expires turn a m) (polling turn (expired a.outgoing) a) (Ok a))))
  linked-broken p None e = ticks-broken p a refl
  linked-broken p (Some set) e = go (nat_eq turn (set + a.setup.period)) refl (nat_eq a.outgoing.count a.outgoing.tries) refl
    where
      go : (x : Bool) → nat_eq turn (set + a.setup.period) ≡ x → (y : Bool) → nat_eq a.outgoing.count a.outgoing.tries ≡ y
          → Broken (after_timers turn a.special (then_tries turn
          (cond x (polling turn (cond y None (Some (record a.outgoing { count = a.outgoing.count + 1; awaited = true }))) a) (Ok a))))
      go true q true n = Spends (TimerEnds p set e q n) refl
      go true q false n = ticks-broken p (record a {
        outgoing = record a.outgoing { count = a.outgoing.count + 1; awaited = true };
        wait = record a.wait { poll = true; timer = Some turn };
      }) refl
      go false q c n = ticks-broken p a refl

  phase-broken : (p : Phase) → a.phase ≡ p → Broken (speak_in p turn release a)
  phase-broken p e = grind (arith, tries-broken, trying, linked-broken)

  pub why-broken : (fault : LinkFault) → speak turn release a ≡ Err fault → Breaks turn release a fault
  why-broken fault e = subst Broken e (phase-broken a.phase refl)

-- what sending a segment leaves of the sender's part
pub record NextKeeps (o new : Outgoing) : Type 0 where
  pub window : new.window ≡ o.window
  pub size : new.size ≡ o.size
  pub tries : new.tries ≡ o.tries
  pub pieces : new.pieces ≡ o.pieces
  pub ended : new.ended ≡ o.ended
  pub front : new.front ≡ o.front
  pub count : new.count ≡ o.count
  pub awaited : new.awaited ≡ o.awaited
  pub paused : new.paused ≡ o.paused

pub next-keeps : (o : Outgoing) → NextKeeps o (after_next o)
next-keeps o = grind (arith)
