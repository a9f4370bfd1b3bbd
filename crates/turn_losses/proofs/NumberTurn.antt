-- What a Connected end tells as it speaks.
use Rattle.turn_losses.proofs.Names.{◌⊎◌, inl, inr, ◌≡◌, ℕ, ◌%◌, ◌||◌, Bool, true, false, cond, length, refl, sym, ◌∙◌, ap, Option, Some}
use Rattle.turn_losses.proofs.Names.{None, Ok, zero, suc, ◌+◌, ◌≤◌, List, arith, after_asked, is_some, Outgoing, Incoming, OwnBreaks}
use Rattle.turn_losses.proofs.Names.{Account, Said, nr_of, frame_for, ready_frame, speak_linked, Role, Sent, Arrived, is_connected, speak}
use Rattle.turn_losses.proofs.Names.{IsAllowed, Steps, linked-alike, next-keeps, Answer, Link, fits, linked-says, rates, linked-of}
use Rattle.turn_losses.proofs.Names.{is_linked, is-linked}
use Rattle.link_account.specs.Account.{Wait}
use Rattle.link_account.specs.Speak.{says_frame}
use Rattle.turn_losses.proofs.NumberHear.{frame_nr, frame_ns, nr_sent, ns_sent, NumbersHeard, numbers-heard, Room, Fits, begins-roomy}
use Rattle.link_account.proofs.SpeakWays.{by-linked, retimed}
use Rattle.turn_losses.proofs.InTurn.{InTurn}
use Rattle.turn_losses.proofs.PollTurn.{SaidPoll, poll-speaks}
use Rattle.turn_losses.proofs.HeardNumber.{PausedHeard, paused-hears}

-- the sender's part but for what waits and goes next
pub record SameFront (o new : Outgoing) : Type 0 where
  pub window : new.window ≡ o.window
  pub pieces : new.pieces ≡ o.pieces
  pub front : new.front ≡ o.front
  pub paused : new.paused ≡ o.paused

pub record NumbersSaid (special : Bool) (a : Account) (said : Said) : Type 0 where
  pub outgoing : SameFront a.outgoing said.account.outgoing
  pub taken : said.account.incoming.taken ≡ a.incoming.taken
  pub numbered : said.account.numbered ≡ a.numbered
  pub tells : (nr : ℕ) → nr_sent said.sent ≡ Some nr → nr ≡ length a.incoming.taken % 128
  pub told : a.incoming.owed ≡ true → a.owes.answer ≡ None
      → (is_some (nr_sent said.sent) ≡ true) ⊎ ((special ≡ false) × (said.account.special ≡ true) × (said.account.incoming.owed ≡ true))
  pub segment : (ns : ℕ) → ns_sent said.sent ≡ Some ns → said.account.outgoing.awaited ≡ false

ready-nr : (busy command pf : Bool) (nr : ℕ)
    → (frame_nr (ready_frame busy command nr pf) ≡ Some nr) × (frame_ns (ready_frame busy command nr pf) ≡ None)
ready-nr b command pf nr = grind (arith)

-- a frame with N(R) goes, which is no I frame
says-nr : (special : Bool) (a : Account) (said : Said) → SameFront a.outgoing said.account.outgoing → said.account.incoming.taken
    ≡ a.incoming.taken
    → said.account.numbered ≡ a.numbered → nr_sent said.sent ≡ Some (nr_of a) → ns_sent said.sent ≡ None
    → NumbersSaid special a said
says-nr special a said o t m e n = grind (arith)

-- a word of breaks or an SREJ goes
says-special : (special : Bool) (a : Account) (said : Said) → special ≡ false → SameFront a.outgoing said.account.outgoing
    → said.account.incoming.taken ≡ a.incoming.taken → said.account.numbered ≡ a.numbered → said.account.incoming.owed ≡ a.incoming.owed
    → said.account.special ≡ true
    → nr_sent said.sent ≡ None → ns_sent said.sent ≡ None → NumbersSaid special a said
says-special special a said u o t m w s e n = grind (arith)

asked-taken : (n : ℕ) (i : Incoming) → ((after_asked n i).taken ≡ i.taken) × ((after_asked n i).owed ≡ i.owed)
asked-taken n i = grind (arith)

-- an answer that is due
says-answer : (special : Bool) (a : Account) (d : Answer) (said : Said) → a.owes.answer ≡ Some d
    → SameFront a.outgoing said.account.outgoing
    → said.account.incoming ≡ a.incoming → said.account.numbered ≡ a.numbered → nr_sent said.sent ≡ None → ns_sent said.sent ≡ None
    → NumbersSaid special a said
says-answer special a d said e o i m n k = grind (arith)

answer-none : (d : Answer) (a : Account) → (nr_sent (frame_for d a) ≡ None) × (ns_sent (frame_for d a) ≡ None)
answer-none d a = grind (arith)

unawaited : (b awaited paused : Bool) (m : Option ℕ) (n : ℕ) → cond b (cond (awaited || paused) None m) None ≡ Some n → awaited ≡ false
unawaited b awaited paused m n e = grind (arith)

pub linked-numbers : (turn : ℕ) (a : Account) (said : Said) → speak_linked turn a ≡ Ok said → NumbersSaid a.special a said
linked-numbers turn a said e = by-linked (NumbersSaid a.special a) turn a (linked-alike _ turn a ways) said e
  where
    ways : (count : ℕ) (awaited : Bool) (w : Wait) (own : OwnBreaks)
        → Steps (NumbersSaid a.special a) turn a.special (retimed a count awaited w own)
    ways count awaited w own = record {
      answers = λ d q. let k = answer-none d b in says-answer a.special a d _ q still refl refl k.0 k.1;
      final = λ n q. ready false true _ still refl refl;
      poll = λ n r q. ready true true _ still refl refl;
      segment = λ before u n q. record {
        outgoing = let k = next-keeps b.outgoing in record { window = k.window; pieces = k.pieces; front = k.front; paused = k.paused };
        taken = refl;
        numbered = refl;
        tells = λ nr f. let same : nr_of a ≡ nr = cc in sym same;
        told = λ h k. inl refl;
        segment = grind (arith, next-keeps, b, unawaited);
      };
      brkack = λ before s word q. says-special a.special a _ s still refl refl refl refl refl refl;
      brk = λ before s k word q. says-special a.special a _ s still refl refl refl refl refl refl;
      tell = λ before x q. ready false false _ still refl refl;
      rej = λ before x n q. says-nr a.special a _ still (asked-taken n a.incoming).0 refl refl refl;
      srej = grind (arith, says-special, still, asked-taken);
      flags = grind (arith, still);
    }
      where
        b : Account
        b = retimed a count awaited w own

        still : SameFront a.outgoing b.outgoing
        still = record { window = refl; pieces = refl; front = refl; paused = refl }

        ready : (command pf : Bool) (c : Account) → SameFront a.outgoing c.outgoing → c.incoming.taken ≡ a.incoming.taken → c.numbered
            ≡ a.numbered
            → NumbersSaid a.special a (says_frame (ready_frame a.owes.busy command (nr_of a) pf) c)
        ready command pf c o t n = let k = ready-nr a.owes.busy command pf (nr_of a) in says-nr a.special a _ o t n k.0 k.1

-- A turn of an end that is Connected before it and after it, by the numbers that it hears and tells.
pub record NumberTurn (arrived : Arrived) (sent : Sent) (a mid c : Account) : Type 0 where
  pub heard : NumbersHeard arrived a mid
  pub front : c.outgoing.front ≡ mid.outgoing.front
  pub paused : PausedHeard arrived a mid
  pub paused_on : c.outgoing.paused ≡ mid.outgoing.paused
  pub taken : c.incoming.taken ≡ mid.incoming.taken
  pub numbered : a.numbered ≡ true → mid.numbered ≡ true
  pub numbered_on : c.numbered ≡ mid.numbered
  pub tells : (nr : ℕ) → nr_sent sent ≡ Some nr → nr ≡ length mid.incoming.taken % 128
  pub told : mid.incoming.owed ≡ true → mid.numbered ≡ true
      → (is_some (nr_sent sent) ≡ true) ⊎ ((a.special ≡ false) × (c.special ≡ true) × (c.incoming.owed ≡ true))
  pub segment : (ns : ℕ) → ns_sent sent ≡ Some ns → c.outgoing.awaited ≡ false
  pub room : Room a → Room c

-- Becoming Connected: there is room, and the retry count is 0.
pub record Begins (c : Account) : Type 0 where
  pub room : Room c
  pub count : c.outgoing.count ≡ 0

module _ {tries period : ℕ} {link : Link} {role : Role} {turn : ℕ} {a : Account} {arrived : Arrived} {mid b : Account} {said : Said}
    (i : InTurn tries period link role turn a arrived mid b) (release : Bool) (speaks : speak turn release b ≡ Ok said)
    (now : is_connected said.account.phase ≡ true) where
  polled : (is_connected b.phase ≡ true) × SaidPoll turn b said
  polled = (poll-speaks turn release b said speaks).connected now

  connected : is_connected mid.phase ≡ true
  connected = ap is_connected (sym i.served.phase) ∙ polled.0

  numbers : NumbersSaid b.special b said
  numbers = linked-numbers turn b said (linked-says turn release b said (is-linked b.phase polled.0) now speaks).0

  room-said : Room mid → Room said.account
  room-said r = grind (arith, numbers)

  pub begins-turn : a.wait.timer ≡ None → Fits a.terms → IsAllowed a.setup.offer → is_linked a.phase ≡ false → Begins said.account
  begins-turn untimed fits own ua = assumption (
    room-said (record { window = w.0; pieces = let p = w.1 in omega (arith, p) }),
    zero-count said.account.outgoing.count refl,
  )
    where
      w : (mid.outgoing.window ≤ 127) × (length mid.outgoing.pieces ≡ 0) × (mid.outgoing.count ≡ 0)
      w = (begins-roomy arrived turn a mid ua fits own i.hears).so connected

      b-count : b.outgoing.count ≡ 0
      b-count = ap (λ o. o.count) i.served.longer.outgoing ∙ w.2

      zero-count : (n : ℕ) → said.account.outgoing.count ≡ n → said.account.outgoing.count ≡ 0
      zero-count zero e = e
      zero-count (suc n) e = absurd (by (polled.1.counted n (omega (arith, e))))
        where
          set-by : (x : ℕ) → (x ≡ turn) ⊎ (a.wait.timer ≡ Some x) → turn ≡ x + b.setup.period → ⊥
          set-by x c r = grind (arith)

          by : ((polled.1.made ≡ true) × (b.outgoing.count ≡ n) × (said.account.wait.timer ≡ Some turn))
              ⊎ ((polled.1.made ≡ false) × (b.outgoing.count ≡ n + 1)
              × ((r : ℕ) → b.wait.timer ≡ Some r → said.account.wait.timer ≡ Some r)) → ⊥
          by (inr (x, y, z)) = omega (arith, y, b-count)
          by (inl (x, y, z)) =
              let m = polled.1.made_from x in
              set-by m.0 ((i.polls.begun ua connected).2 m.0 (ap (λ v. v.timer) (sym i.served.wait) ∙ m.1)) m.2

  pub number-turn : is_connected a.phase ≡ true → NumberTurn arrived said.sent a mid said.account
  number-turn ca = record {
    heard = heard;
    front = numbers.outgoing.front ∙ ap (λ o. o.front) i.served.longer.outgoing;
    paused = paused-hears arrived turn a mid ca i.hears;
    paused_on = numbers.outgoing.paused ∙ ap (λ o. o.paused) i.served.longer.outgoing;
    taken = numbers.taken ∙ i.left.taken;
    numbered = i.polls.heard ca;
    numbered_on = numbers.numbered ∙ i.served.numbered;
    tells = λ nr e. numbers.tells nr e ∙ ap (λ (l : List (List ℕ)). length l % 128) i.left.taken;
    told = λ o n. to-mid (numbers.told (i.left.owed ∙ o) (i.served.answer ∙ (i.polls.answer ca connected n ∙ i.none_due.answer)));
    segment = numbers.segment;
    room = grind (arith, heard, room-said);
  }
    where
      heard : NumbersHeard arrived a mid
      heard = numbers-heard (rates tries period) arrived turn a mid ca
          (linked-of (rates tries period) turn turn role a.phase a i.stands ca).sends i.hears

      special : b.special ≡ a.special
      special = i.served.special ∙ heard.special

      to-mid : (is_some (nr_sent said.sent) ≡ true)
          ⊎ ((b.special ≡ false) × (said.account.special ≡ true) × (said.account.incoming.owed ≡ true))
          → (is_some (nr_sent said.sent) ≡ true)
          ⊎ ((a.special ≡ false) × (said.account.special ≡ true) × (said.account.incoming.owed ≡ true))
      to-mid given = grind (arith, special)
