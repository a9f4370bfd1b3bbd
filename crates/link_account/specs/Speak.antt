-- What an end sends and then is: one definition a rule, then one a phase. A Connected end looks at its timers first, and then
-- sends what the first of nine steps gives that applies. An end breaks once all its tries are spent.
use Rattle.std.specs.Prelude.{not, ℕ, ◌+◌, ◌-◌, ◌%◌, Bool, true, false, if◌then◌else◌, ◌&&◌, ◌||◌, nat_eq, nat_le, [], length, Option, Some, None, Result, Ok, Err, slice_index_or}
use Rattle.shared_terms.specs.declared.role.Role.{Role}
use Rattle.shared_terms.specs.declared.role.Role.TheVariants.{Originator, Answerer}
use Rattle.lapm_frames.specs.declared.frame.Frame.{Frame}
use Rattle.lapm_frames.specs.declared.frame.Frame.TheVariants.{I, Rr, Rnr, Rej, Srej, Sabme, Disc, Ua, Dm, Ui, Xid}
use Rattle.xid_params.specs.Offers.{written}
use Rattle.shared_terms.specs.Timer.{expires, wait, waited_since}
use Rattle.lapm_sender.specs.Outgoing.{Outgoing, next_number, after_next, expired}
use Rattle.lapm_receiver.specs.Incoming.{next_expected, asks, after_asked, after_told}
use Rattle.break_signals.specs.declared.word.BreakWord.{BreakWord}
use Rattle.break_signals.specs.Words.{spelled}
use Rattle.break_signals.specs.Breaks.{OwnBreaks, own_due, after_brk, after_ack, ticked}
use Rattle.lapm_frames.specs.declared.sent.Sent.{Sent}
use Rattle.lapm_frames.specs.declared.sent.Sent.TheVariants as slots
use Rattle.link_account.specs.declared.phase.Phase.{Phase}
use Rattle.link_account.specs.declared.phase.Phase.TheVariants.{Detecting, Negotiating, Establishing, Connected, Releasing, Closed}
use Rattle.shared_terms.specs.declared.fault.LinkFault.{LinkFault}
use Rattle.shared_terms.specs.declared.fault.LinkFault.TheVariants.{NotDetected, Spent}
use Rattle.link_account.specs.declared.answer.Answer.{Answer}
use Rattle.link_account.specs.declared.answer.Answer.TheVariants as answers
use Rattle.link_account.specs.Account.{Account}
use Rattle.shared_terms.specs.Role.{is_originator}
use Rattle.link_account.specs.Hear.{trying}

-- What is sent, its meant number, and the account after it. The meant number is, of an I frame, that of its segment, of an SREJ the one asked for,
-- of a BRK its place among the breaks taken, of a BRKACK the place of the break that it answers, and else 0.
pub record Said : Type 0 where
  pub sent : Sent
  pub number : ℕ
  pub account : Account

abbrev pub says : Sent → Account → Said
says sent a = record { sent = sent; number = 0; account = a }

abbrev pub says_frame : Frame → Account → Said
says_frame frame a = says (slots.Frame frame) a

-- the first of two rules that applies
abbrev pub else_says : Option Said → Said → Said
else_says None said = said
else_says (Some first) said = first

-- where a rule's condition holds
abbrev pub where_says : Bool → Said → Option Said
where_says true said = Some said
where_says false said = None

-- the retries of a timer are spent
abbrev pub spent : ℕ → Account → LinkFault
spent turn a = Spent a.outgoing.front (waited_since a.setup.tries a.setup.period turn)

-- an answer that is due
abbrev pub frame_for : Answer → Account → Sent
frame_for answers.Adp a = slots.Adp
frame_for answers.Xid a = slots.Frame (Xid false false (written a.setup.offer))
frame_for (answers.Ua pf) a = slots.Frame (Ua pf)
frame_for (answers.Dm pf) a = slots.Frame (Dm pf)

abbrev pub answering : Option Answer → Account → Option Said
answering None a = None
answering (Some answer) a = Some (says (frame_for answer a) (record a { owes = record a.owes { answer = None } }))

-- a U try: at an expiry the count rises and the frame is due again
abbrev pub trying_again : ℕ → Account → Account
trying_again turn a = record a { wait = record a.wait { try = true; try_set = turn; try_count = a.wait.try_count + 1 } }

abbrev pub tries_frame : Frame → Account → Said
tries_frame frame a =
    else_says (where_says a.wait.try (says_frame frame (record a { wait = record a.wait { try = false } }))) (says slots.Flags a)

abbrev pub u_try : ℕ → Frame → Account → Result Said LinkFault
u_try turn frame a =
    if expires a.wait.try_set a.setup.period turn
    then (if nat_eq a.wait.try_count a.setup.tries then Err (spent turn a) else Ok (tries_frame frame (trying_again turn a)))
    else Ok (tries_frame frame a)

-- Detecting
abbrev pub speak_detecting : Role → ℕ → Account → Result Said LinkFault
speak_detecting Originator turn a = if nat_le (wait a.setup.tries a.setup.period) turn then Err NotDetected else Ok (says slots.Odp a)
speak_detecting Answerer turn a = Ok (else_says (answering a.owes.answer a) (says slots.Mark a))

-- an answerer that negotiates, and an end that is closed
abbrev pub speak_answer : Account → Result Said LinkFault
speak_answer a = Ok (else_says (answering a.owes.answer a) (says slots.Flags a))

abbrev pub speak_negotiating : Role → ℕ → Account → Result Said LinkFault
speak_negotiating Originator turn a = u_try turn (Xid true false (written a.setup.offer)) a
speak_negotiating Answerer turn a = speak_answer a

-- Connected: an expired timer comes first, of the segments and of the break that waits
abbrev pub polling : ℕ → Option Outgoing → Account → Result Account LinkFault
polling turn None a = Err (spent turn a)
polling turn (Some o) a = Ok (record a { outgoing = o; wait = record a.wait { poll = true; timer = Some turn } })

abbrev pub timer_expires : ℕ → Account → Option ℕ → Bool
timer_expires turn a None = false
timer_expires turn a (Some set) = expires set a.setup.period turn

abbrev pub on_timer : ℕ → Account → Result Account LinkFault
on_timer turn a = if timer_expires turn a a.wait.timer then polling turn (expired a.outgoing) a else Ok a

abbrev pub breaking : ℕ → Option OwnBreaks → Account → Result Account LinkFault
breaking turn None a = Err (spent turn a)
breaking turn (Some b) a = Ok (record a { own_breaks = b })

abbrev pub on_break_timer : ℕ → Account → Result Account LinkFault
on_break_timer turn a = breaking turn (ticked turn a.setup.period a.setup.tries a.own_breaks) a

-- a frame with N(R) was sent
abbrev pub telling : Account → Account
telling a = record a { incoming = after_told a.incoming }

-- N(R) and N(S)
abbrev pub nr_of : Account → ℕ
nr_of a = next_expected a.incoming % 128

-- the number that an I frame may have now: an answerer sends none before it heard an I frame or a supervisory frame
abbrev pub may_send : Account → Option ℕ
may_send a = if is_originator a.setup.role || a.numbered then next_number a.outgoing else None

-- the timer is set where it isn't running
abbrev pub running : ℕ → Option ℕ → Option ℕ
running turn None = Some turn
running turn (Some set) = Some set

-- an I frame of this number
abbrev pub says_segment : ℕ → Option ℕ → Account → Option Said
says_segment turn None a = None
says_segment turn (Some n) a = Some (record {
  sent = slots.Frame (I (n % 128) (nr_of a) false (slice_index_or a.outgoing.pieces n []));
  number = n;
  account = record (telling a) {
    outgoing = after_next a.outgoing;
    wait = record a.wait { urgent = false; timer = running turn a.wait.timer };
  };
})

-- a break's word
abbrev pub says_word : ℕ → BreakWord → Account → Said
says_word n word a = record { sent = slots.Frame (Ui true false (spelled word)); number = n; account = record a { special = true } }

abbrev pub says_own : Option BreakWord → Account → Option Said
says_own None a = None
says_own (Some word) a = Some (says_word a.own_breaks.answered word (record a { own_breaks = after_brk a.own_breaks }))

abbrev pub says_break : Option BreakWord → Account → Option Said
says_break None a = says_own (own_due a.own_breaks) a
says_break (Some word) a = Some (says_word (length a.their_breaks.lengths - 1) word (record a { their_breaks = after_ack a.their_breaks }))

-- REJ, which carries the next number expected and tells that the end isn't busy, or SREJ of a number; SREJ not in the turn after a special frame
abbrev pub says_asking : Bool → Bool → Option ℕ → Account → Option Said
says_asking srej special None a = None
says_asking false special (Some n) a =
    Some (says_frame (Rej false (nr_of a) false)
    (telling (record a { incoming = after_asked n a.incoming; owes = record a.owes { busy_told = false } })))
says_asking true true (Some n) a = None
says_asking true false (Some n) a =
    Some (record {
      sent = slots.Frame (Srej false (n % 128) false);
      number = n;
      account = record a { incoming = after_asked n a.incoming; special = true };
    })

-- RR, or RNR where the end is busy, with the next number expected: it tells which
abbrev pub ready_frame : Bool → Bool → ℕ → Bool → Frame
ready_frame false command nr pf = Rr command nr pf
ready_frame true command nr pf = Rnr command nr pf

abbrev pub tells : Bool → Bool → Account → Said
tells command pf a = says_frame (ready_frame a.owes.busy command (nr_of a) pf)
    (telling (record a { owes = record a.owes { busy_told = a.owes.busy } }))

abbrev pub differs : Bool → Bool → Bool
differs true b = not b
differs false b = b

-- whether the other end is to be told that the end has become busy, or isn't any more: an answerer tells once it has heard a number
abbrev pub has_news : Account → Bool
has_news a = differs a.owes.busy a.owes.busy_told && (is_originator a.setup.role || a.numbered)

-- The steps, for an account whose timers are done. `special` says whether the last speaking was of a BRK, a BRKACK or an SREJ.

-- an answer that is due (UA alone can be)
abbrev pub step1 : Account → Option Said
step1 a = answering a.owes.answer a

-- an F reply
abbrev pub step2 : Account → Option Said
step2 a = where_says a.owes.reply (tells false true (record a { owes = record a.owes { reply = false } }))

-- a poll
abbrev pub step3 : Account → Option Said
step3 a = where_says a.wait.poll (tells true true (record a { wait = record a.wait { poll = false } }))

-- the urgent first I frame
abbrev pub step4 : ℕ → Account → Option Said
step4 turn a = if a.wait.urgent then says_segment turn (may_send a) a else None

-- BRKACK, else BRK
abbrev pub step5 : Bool → Account → Option Said
step5 special a = if special then None else says_break a.their_breaks.ack a

-- RR or RNR, where there is news; else, where the end isn't busy, REJ or SREJ
abbrev pub step6 : Bool → Account → Option Said
step6 special a =
    if has_news a then Some (tells false false a)
    else if a.owes.busy then None else says_asking a.incoming.srej special (asks a.incoming) a

-- an I frame
abbrev pub step7 : ℕ → Account → Option Said
step7 turn a = says_segment turn (may_send a) a

-- the acknowledgement that is owed
abbrev pub step8 : Account → Option Said
step8 a = where_says a.incoming.owed (tells false false a)

-- flags
abbrev pub step9 : Account → Said
step9 a = says slots.Flags a

-- the first that applies
abbrev pub steps : ℕ → Bool → Account → Said
steps turn special a =
    else_says (step1 a) (else_says (step2 a) (else_says (step3 a) (else_says (step4 turn a) (else_says (step5 special a)
    (else_says (step6 special a) (else_says (step7 turn a) (else_says (step8 a) (step9 a))))))))

abbrev pub after_timers : ℕ → Bool → Result Account LinkFault → Result Said LinkFault
after_timers turn special (Err fault) = Err fault
after_timers turn special (Ok a) = Ok (steps turn special (record a { special = false }))

abbrev pub then_tries : ℕ → Result Account LinkFault → Result Account LinkFault
then_tries turn (Err fault) = Err fault
then_tries turn (Ok a) = on_break_timer turn a

abbrev pub speak_linked : ℕ → Account → Result Said LinkFault
speak_linked turn a = after_timers turn a.special (then_tries turn (on_timer turn a))

-- an originator that is told to release
abbrev pub speak_releasing : ℕ → Account → Result Said LinkFault
speak_releasing turn a = u_try turn (Disc true) a

abbrev pub speak_connected : ℕ → Bool → Account → Result Said LinkFault
speak_connected turn release a =
    if release && is_originator a.setup.role then speak_releasing turn (trying Releasing turn a) else speak_linked turn a

abbrev pub speak_in : Phase → ℕ → Bool → Account → Result Said LinkFault
speak_in Detecting turn release a = speak_detecting a.setup.role turn a
speak_in Negotiating turn release a = speak_negotiating a.setup.role turn a
speak_in Establishing turn release a = u_try turn (Sabme true) a
speak_in Connected turn release a = speak_connected turn release a
speak_in Releasing turn release a = speak_releasing turn a
speak_in Closed turn release a = speak_answer a

-- what an end sends in this turn, and what it then is
abbrev pub speak : ℕ → Bool → Account → Result Said LinkFault
speak turn release a = speak_in a.phase turn release a
