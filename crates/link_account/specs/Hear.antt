-- What an end becomes by what it hears: one definition a rule, then one a phase, by the rules of ITU-T V.42 and of this link. A
-- Connected end breaks where an acknowledgement is of no number that was sent, or where the other end begins anew or refuses.
use Rattle.std.specs.Prelude.{ℕ, ◌%◌, Bool, true, false, not, if◌then◌else◌, ◌&&◌, ◌||◌, nat_lt, List, Option, Some, None, Result, Ok, Err}
use Rattle.std.specs.Option.{option_map}
use Rattle.shared_terms.specs.declared.role.Role.{Role}
use Rattle.shared_terms.specs.declared.role.Role.TheVariants.{Originator, Answerer}
use Rattle.shared_terms.specs.Role.{other}
use Rattle.lapm_frames.specs.declared.frame.Frame.{Frame}
use Rattle.lapm_frames.specs.declared.frame.Frame.TheVariants.{I, Rr, Rnr, Rej, Srej, Sabme, Disc, Ua, Dm, Frmr, Ui, Xid}
use Rattle.xid_params.specs.declared.offer.Offer.{Offer}
use Rattle.xid_params.specs.Terms.{agree, default_offer}
use Rattle.xid_params.specs.Offers.{offer_in}
use Rattle.lapm_sender.specs.Outgoing.{Outgoing, is_outstanding, acknowledged, rejected, replied, selected, paused_at, resumed}
use Rattle.lapm_sender.specs.Outgoing as outgoing
use Rattle.lapm_receiver.specs.Incoming.{Incoming, after_take, next_expected}
use Rattle.lapm_receiver.specs.Incoming as incoming
use Rattle.break_signals.specs.declared.word.BreakWord.{BreakWord}
use Rattle.break_signals.specs.declared.word.BreakWord.TheVariants.{Brk, Ack}
use Rattle.break_signals.specs.declared.fault.BreakFault.{BreakFault}
use Rattle.break_signals.specs.Words.{word_in}
use Rattle.break_signals.specs.Breaks.{after_answer, after_break}
use Rattle.lapm_frames.specs.declared.seen.Seen.{Seen}
use Rattle.lapm_frames.specs.declared.seen.Seen.TheVariants.{Odp, Adp}
use Rattle.lapm_frames.specs.declared.arrived.Arrived.{Arrived}
use Rattle.lapm_frames.specs.declared.arrived.Arrived.TheVariants as arrivals
use Rattle.link_account.specs.declared.phase.Phase.{Phase}
use Rattle.link_account.specs.declared.phase.Phase.TheVariants.{Detecting, Negotiating, Establishing, Connected, Releasing, Closed}
use Rattle.shared_terms.specs.declared.fault.LinkFault.{LinkFault}
use Rattle.shared_terms.specs.declared.fault.LinkFault.TheVariants.{BadAck, PeerReset, PeerRefused}
use Rattle.link_account.specs.declared.answer.Answer.{Answer}
use Rattle.link_account.specs.declared.answer.Answer.TheVariants as answers
use Rattle.link_account.specs.Account.{Account, Wait, size_for, window_for}
use Rattle.shared_terms.specs.Role.{is_originator}

-- an answer becomes due in the place of any that is
abbrev pub owing : Answer → Account → Account
owing answer a = record a { owes = record a.owes { answer = Some answer } }

-- a U try begins: its timer is set, its count is 0, and its frame is due
abbrev pub trying : Phase → ℕ → Account → Account
trying phase turn a = record a { phase = phase; wait = record a.wait { try = true; try_set = turn; try_count = 0 } }

-- the waits as an end becomes Connected: an originator polls
abbrev pub first_wait : Role → ℕ → Wait → Wait
first_wait Originator turn wait = record wait { poll = true; timer = Some turn }
first_wait Answerer turn wait = wait

-- becoming Connected on the agreed terms
abbrev pub connected : ℕ → Account → Account
connected turn a = record a {
  phase = Connected;
  outgoing = outgoing.begun (window_for a.setup.role a.terms) (size_for a.setup.role a.terms) a.setup.tries (is_originator a.setup.role);
  incoming = incoming.begun (window_for (other a.setup.role) a.terms) a.terms.srej;
  wait = first_wait a.setup.role turn a.wait;
}

-- on nothing: an ADP is no longer due
abbrev pub without_adp : Option Answer → Option Answer
without_adp None = None
without_adp (Some answers.Adp) = None
without_adp (Some answers.Xid) = Some answers.Xid
without_adp (Some (answers.Ua pf)) = Some (answers.Ua pf)
without_adp (Some (answers.Dm pf)) = Some (answers.Dm pf)

abbrev pub on_nothing : Account → Account
on_nothing a = record a { owes = record a.owes { answer = without_adp a.owes.answer } }

-- on a pattern, while Detecting
abbrev pub on_pattern : Role → Seen → ℕ → Account → Account
on_pattern Originator Adp turn a = trying Negotiating turn a
on_pattern Originator Odp turn a = a
on_pattern Answerer Odp turn a = owing answers.Adp a
on_pattern Answerer Adp turn a = a

-- on an XID command, at an answerer: none is an information field that is refused
abbrev pub on_xid_command : Option Offer → Account → Account
on_xid_command None a = a
on_xid_command (Some offer) a = owing answers.Xid (record a { phase = Negotiating; terms = agree offer a.setup.offer })

-- on an XID response, at an originator
abbrev pub on_xid_response : Option Offer → ℕ → Account → Account
on_xid_response None turn a = a
on_xid_response (Some offer) turn a = trying Establishing turn (record a { terms = agree a.setup.offer offer })

-- each phase before Connected: role and frame
abbrev pub on_detecting : Role → Frame → ℕ → Account → Result Account LinkFault
on_detecting Answerer (Xid true pf info) turn a = Ok (on_xid_command (offer_in info) a)
on_detecting Answerer (Sabme pf) turn a =
    Ok (owing (answers.Ua pf) (connected turn (record a { terms = agree default_offer a.setup.offer })))
on_detecting role frame turn a = Ok a

abbrev pub on_negotiating : Role → Frame → ℕ → Account → Result Account LinkFault
on_negotiating Originator (Xid false pf info) turn a = Ok (on_xid_response (offer_in info) turn a)
on_negotiating Originator (Dm pf) turn a = Err PeerRefused
on_negotiating Answerer (Xid true pf info) turn a = Ok (on_xid_command (offer_in info) a)
on_negotiating Answerer (Sabme pf) turn a = Ok (owing (answers.Ua pf) (connected turn a))
on_negotiating Answerer (Disc pf) turn a = Ok (owing (answers.Dm pf) a)
on_negotiating role frame turn a = Ok a

abbrev pub on_establishing : Frame → ℕ → Account → Result Account LinkFault
on_establishing (Ua true) turn a = Ok (connected turn a)
on_establishing (Dm true) turn a = Err PeerRefused
on_establishing frame turn a = Ok a

-- and those behind it
abbrev pub on_releasing : Frame → Account → Result Account LinkFault
on_releasing (Ua true) a = Ok (record a { phase = Closed })
on_releasing (Dm true) a = Ok (record a { phase = Closed })
on_releasing frame a = Ok a

abbrev pub on_closed : Frame → Account → Result Account LinkFault
on_closed (Disc pf) a = Ok (owing (answers.Dm pf) a)
on_closed frame a = Ok a

-- Connected: the sender's timer, by what an N(R) made of the sender's part. Where the wait for a poll ends, or the other end counts as busy no
-- more, with nothing outstanding, no poll awaited and the other end not busy, it stops. Where the front advances it is set anew while segments
-- are outstanding, a poll is awaited or the other end counts as busy, and else stops.
abbrev pub timer_after : ℕ → Outgoing → Outgoing → Option ℕ → Option ℕ
timer_after turn old new timer =
    if ((old.awaited && not new.awaited) || (old.paused && not new.paused)) && not
    (is_outstanding new || (new.awaited || new.paused)) then None
    else if nat_lt old.front new.front then (if is_outstanding new || (new.awaited || new.paused) then Some turn else None)
    else timer

abbrev pub bad_ack : ℕ → Account → LinkFault
bad_ack nr a = BadAck nr (a.outgoing.front % 128) (a.outgoing.high % 128)

-- what an N(R) or an SREJ makes of the account, where the sender's part takes it
abbrev pub on_number : ℕ → ℕ → Option Outgoing → Account → Result Account LinkFault
on_number turn nr None a = Err (bad_ack nr a)
on_number turn nr (Some new) a =
    Ok (record a { numbered = true; outgoing = new; wait = record a.wait { timer = timer_after turn a.outgoing new a.wait.timer } })

-- and then
abbrev pub then_in : (Account → Account) → Result Account LinkFault → Result Account LinkFault
then_in f (Ok a) = Ok (f a)
then_in f (Err fault) = Err fault

-- an F reply becomes due
abbrev pub replying : Bool → Account → Account
replying asked a = record a { owes = record a.owes { reply = a.owes.reply || asked } }

-- the first I frame becomes urgent
abbrev pub hurrying : Bool → Account → Account
hurrying ended a = record a { wait = record a.wait { urgent = a.wait.urgent || ended } }

-- the segment goes to the receiver
abbrev pub taking : ℕ → List ℕ → Account → Account
taking ns info a = record a { incoming = after_take ns info a.incoming }

-- on I
abbrev pub on_i : ℕ → ℕ → ℕ → Bool → List ℕ → Account → Result Account LinkFault
on_i turn ns nr pf info a = then_in (λ b. replying pf (taking ns info b)) (on_number turn nr (acknowledged nr a.outgoing) a)

-- whether a frame is the answer to the poll that is awaited
abbrev pub ends_wait : Bool → Bool → Account → Bool
ends_wait command pf a = a.outgoing.awaited && (pf && not command)

-- on RNR: the other end counts as busy, and the timer is set
abbrev pub pausing : ℕ → Account → Account
pausing turn a = record a { wait = record a.wait { timer = Some turn } }

abbrev pub on_rnr : ℕ → Bool → ℕ → Bool → Account → Result Account LinkFault
on_rnr turn command nr pf a =
    then_in (λ b. pausing turn (replying (command && pf) b))
    (on_number turn nr (option_map paused_at (if ends_wait command pf a then replied nr a.outgoing else acknowledged nr a.outgoing)) a)

-- on RR: the other end counts as busy no more
abbrev pub on_ready : ℕ → Bool → ℕ → Bool → Account → Result Account LinkFault
on_ready turn command nr pf a =
    then_in (λ b. hurrying (ends_wait command pf a) (replying (command && pf) b))
    (on_number turn nr (option_map resumed (if ends_wait command pf a then replied nr a.outgoing else acknowledged nr a.outgoing)) a)

-- on REJ: the same, and sending goes on from its number
abbrev pub on_rej : ℕ → Bool → ℕ → Bool → Account → Result Account LinkFault
on_rej turn command nr pf a =
    then_in (λ b. hurrying (ends_wait command pf a) (replying (command && pf) b))
    (on_number turn nr (option_map resumed (if ends_wait command pf a then replied nr a.outgoing else rejected nr a.outgoing)) a)

-- on SREJ
abbrev pub on_srej : ℕ → ℕ → Account → Result Account LinkFault
on_srej turn nr a = on_number turn nr (selected nr a.outgoing) a

-- on SABME: an answerer that heard no I frame and no supervisory frame owes UA and resets nothing
abbrev pub peer_reset : Account → LinkFault
peer_reset a = PeerReset a.outgoing.front (next_expected a.incoming)

abbrev pub on_sabme : Bool → Account → Result Account LinkFault
on_sabme pf a = if a.numbered || is_originator a.setup.role then Err (peer_reset a) else Ok (owing (answers.Ua pf) a)

-- on DISC
abbrev pub on_disc : Role → Bool → Account → Result Account LinkFault
on_disc Originator pf a = Err PeerRefused
on_disc Answerer pf a = Ok (owing (answers.Ua pf) (record a { phase = Closed }))

-- on UI: a break or a break's answer; what is refused is ignored
abbrev pub on_word : ℕ → Result BreakWord BreakFault → Account → Account
on_word turn (Ok (Brk number length_octet)) a = record a { their_breaks = after_break number length_octet a.their_breaks }
on_word turn (Ok (Ack number length_octet)) a = record a { own_breaks = after_answer turn number a.own_breaks }
on_word turn (Err fault) a = a

-- Connected: one row a kind of frame; UA, XID and TEST change nothing
abbrev pub on_connected : Frame → ℕ → Account → Result Account LinkFault
on_connected (I ns nr pf info) turn a = on_i turn ns nr pf info a
on_connected (Rr command nr pf) turn a = on_ready turn command nr pf a
on_connected (Rnr command nr pf) turn a = on_rnr turn command nr pf a
on_connected (Rej command nr pf) turn a = on_rej turn command nr pf a
on_connected (Srej command nr pf) turn a = on_srej turn nr a
on_connected (Sabme pf) turn a = on_sabme pf a
on_connected (Disc pf) turn a = on_disc a.setup.role pf a
on_connected (Dm pf) turn a = Err PeerRefused
on_connected (Frmr pf info) turn a = Err (peer_reset a)
on_connected (Ui command pf info) turn a = Ok (on_word turn (word_in info) a)
on_connected frame turn a = Ok a

abbrev pub on_frame : Phase → Frame → ℕ → Account → Result Account LinkFault
on_frame Detecting frame turn a = on_detecting a.setup.role frame turn a
on_frame Negotiating frame turn a = on_negotiating a.setup.role frame turn a
on_frame Establishing frame turn a = on_establishing frame turn a
on_frame Connected frame turn a = on_connected frame turn a
on_frame Releasing frame turn a = on_releasing frame a
on_frame Closed frame turn a = on_closed frame a

abbrev pub on_seen : Phase → Seen → ℕ → Account → Account
on_seen Detecting seen turn a = on_pattern a.setup.role seen turn a
on_seen Negotiating seen turn a = a
on_seen Establishing seen turn a = a
on_seen Connected seen turn a = a
on_seen Releasing seen turn a = a
on_seen Closed seen turn a = a

-- what an end becomes that hears this in this turn
abbrev pub hear : ℕ → Arrived → Account → Result Account LinkFault
hear turn arrivals.Nothing a = Ok (on_nothing a)
hear turn (arrivals.Pattern seen) a = Ok (on_seen a.phase seen turn a)
hear turn (arrivals.Frame frame) a = on_frame a.phase frame turn a
