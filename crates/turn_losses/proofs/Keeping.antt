use Rattle.std.proofs.Common.{◌≡◌, ℕ, ◌+◌, ◌-◌, ◌<◌, Bool, true, ◌∷◌, length, arith, refl, sym, ◌∙◌, ap, Option, Some}
use Rattle.turn_losses.proofs.Names.{TwoEnds, of_frame, of_arrived, is_poll, is_final, Deed, past, sent_or, sends_poll, hears_poll}
use Rattle.turn_losses.proofs.Names.{sends_final, hears_final, TimedRun, end_of}
use Rattle.turn_losses.proofs.PeriodLaws.{polls-apart, still-awaited, reply-matches, two-ends, Answers, StillAwaited, looked}
use Rattle.link_account.proofs.Names.{slice_get, Role, Originator, Answerer, other, of, Frame, Heard, is_connected}
use Rattle.link_run.proofs.Names.{Accounts, Spoken, Turn, arrival, sent_in, sent_ago}
use Rattle.link_run.specs.Overheard.{passes_in}
use Rattle.link_run.specs.Starved.{turn_at}
use Rattle.turn_losses.specs.Polls.{sends_of, PollsIn, PollsKeepApart, RepliesAtOnce, AnswersPoll, AnswersMatchPolls}
use Rattle.turn_losses.proofs.Tracing.{OneMore, traced-turn, past-all, past-before, timed-run, timed-of}
use Rattle.turn_bound.proofs.Truths.{and-not}

sends-kind : (is : Frame → Bool) (m : Option Spoken) (s : Spoken) → m ≡ Some s → sends_of is m ≡ of_frame is (sent_or m)
sends-kind is b s e = grind (arith)

passes-kind : (is : Frame → Bool) (h : Heard) → passes_in is h ≡ of_arrived is (arrival h)
passes-kind is b = grind (arith)

-- the turn of that number
pub turn-is : (w : TimedRun) → (t : ℕ) → t < length w.ts → turn_at t w.ts ≡ Some (w.deed t).turn
turn-is w t l = ap (λ us. slice_get us (length w.ts - 1 - t)) (sym (ap (past w.ts) (omega (arith, l)) ∙ past-all w.ts))
    ∙ looked w (length w.ts - 1 - t) t (omega (arith, l))

polls-of : (w : TimedRun) → (role : Role) (t : ℕ) → t < length w.ts → PollsIn role t w.ts → sends_poll (end_of w role) t ≡ true
polls-of w role t l p = grind (arith, sends-kind, turn-is)

pub polls-keep-apart : PollsKeepApart
polls-keep-apart tries period delay link ts ends k run c role s t less within ps pt =
    let w = timed-run tries period delay link ts ends k run c in
    polls-apart (two-ends w role) s t less within
    (polls-of w role s (omega (arith, less, within)) ps) (polls-of w role t within pt)

both-ways : (b c : Bool) → (b ≡ true → c ≡ true) → (c ≡ true → b ≡ true) → b ≡ c
both-ways b c f g = grind (arith)

pub replies-at-once : RepliesAtOnce
replies-at-once tries period delay link ts before t after k run g c role cb ca =
    go (traced-turn tries period delay link ts before t after k run g c)
  where
    go : (d : Deed) × (d.turn ≡ t) × OneMore period delay link t ts before d after
        → sends_of is_final (of role t).sent ≡ passes_in is_poll (of role t).heard
    go (d, dt, m) =
        both-ways _ _ (λ e. hears ∙ (ends.own n (omega arith)).replied (sym sends ∙ e))
        (λ e. sends ∙ (ends.own n (omega arith)).replies (sym hears ∙ e)
        (ap (λ (x : Accounts). is_connected (of role x).phase) m.before_is ∙ ap is_connected cb)
        (ap (λ (x : Accounts). is_connected (of role x).phase) (ap w.state (omega arith) ∙ w.last) ∙ ap is_connected ca))
      where
        n : ℕ
        n = length ts

        w : TimedRun
        w = timed-of tries period delay link (t ∷ ts) after k (before, run, g) c m.traced

        ends : TwoEnds period (length (t ∷ ts)) (end_of w role) (end_of w (other role))
        ends = two-ends w role

        turn : (w.deed n).turn ≡ t
        turn = ap (λ x. x.turn) m.deed_is ∙ dt

        sends : sends_of is_final (of role t).sent ≡ sends_final (end_of w role) n
        sends = grind (arith, sends-kind)

        hears : passes_in is_poll (of role t).heard ≡ hears_poll (end_of w role) n
        hears = passes-kind is_poll (of role t).heard ∙ ap (λ (x : Turn). of_arrived is_poll (arrival (of role x).heard)) (sym turn)

pub answers-match : AnswersMatchPolls
answers-match tries period delay link ts before t after k run g c role cb h =
    go (traced-turn tries period delay link ts before t after k run g c)
  where
    go : (d : Deed) × (d.turn ≡ t) × OneMore period delay link t ts before d after → AnswersPoll delay ts before role
    go (d, dt, m) = record {
      polled = polled role refl;
      awaited = ap (λ (x : Accounts). (of role x).outgoing.awaited) (sym m.before_is) ∙ still.awaited;
      none_due = grind (arith, and-not, still);
    }
      where
        n : ℕ
        n = length ts

        w : TimedRun
        w = timed-of tries period delay link (t ∷ ts) after k (before, run, g) c m.traced

        ends : TwoEnds period (length (t ∷ ts)) (end_of w role) (end_of w (other role))
        ends = two-ends w role

        turn : (w.deed n).turn ≡ t
        turn = ap (λ x. x.turn) m.deed_is ∙ dt

        hears : hears_final (end_of w role) n ≡ true
        hears = ap (λ (x : Turn). of_arrived is_final (arrival (of role x).heard)) turn ∙ (sym (passes-kind is_final (of role t).heard) ∙ h)

        still : StillAwaited (of role (w.state n))
        still = still-awaited ends n (omega arith) (ap (λ (x : Accounts). is_connected (of role x).phase) m.before_is
            ∙ ap is_connected cb) hears

        a : Answers n (end_of w role) (end_of w (other role))
        a = reply-matches ends n (omega arith) hears

        polled : (r : Role) → r ≡ role → sends_of is_poll (sent_ago (delay Originator + delay Answerer) role ts) ≡ true
        polled r e =
            let trip = a.round_trip in
            let sum = both-delays role in
            let one = k.delays Originator in
            let seen : slice_get (past (t ∷ ts) (a.sent + (delay Originator + delay Answerer - 1) + 1))
            (delay Originator + delay Answerer - 1) ≡ Some (w.deed a.sent).turn
            = looked w (delay Originator + delay Answerer - 1) a.sent
            (omega (arith, trip, sum, one)) in
            let there : slice_get ts (delay Originator + delay Answerer - 1) ≡ Some (w.deed a.sent).turn
            = ap (λ us. slice_get us (delay Originator + delay Answerer - 1))
            (sym (ap (past (t ∷ ts)) (omega (arith, trip, sum, one)) ∙ past-now)) ∙ seen in
            let s = (w.trace.happens a.sent (omega (arith, trip))).speaking role in
            ap (λ x. sends_of is_poll (sent_in role x)) there
            ∙ (sends-kind is_poll (of role (w.deed a.sent).turn).sent _ s.sent_is ∙ a.is_sent)
          where
            both-delays : (x : Role) → delay x + delay (other x) ≡ delay Originator + delay Answerer
            both-delays b = grind (arith)

            past-now : past (t ∷ ts) n ≡ ts
            past-now = past-before t ts
