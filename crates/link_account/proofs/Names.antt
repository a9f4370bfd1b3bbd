-- What the proofs about ends and runs name of the crates below, and of this one.
pub use Rattle.std.proofs.Common.{Bool, Err, List, None, Ok, Option, Result, Some, [], ap, arith, cond, drop, false, inr, length}
pub use Rattle.std.proofs.Common.{length-append, max, nat_eq, nat_le, nat_lt, refl, slice_index_or, subst, sym, take, true, ℕ, ◌%◌, ◌&&◌}
pub use Rattle.std.proofs.Common.{◌++◌, ◌+◌, ◌-◌, ◌<◌, ◌||◌, ◌∙◌, ◌∷◌, ◌≡◌, ◌≢◌, ◌≤◌, ◌⊎◌}
pub use Rattle.std.proofs.lemmas.Bool.{cases_lt, eqb-false, false≢true, ltb-false}
pub use Rattle.std.proofs.lemmas.Bool.Decides.{nat_tests}
pub use Rattle.std.proofs.lemmas.Grind.{common_steps}
pub use Rattle.std.proofs.lemmas.List.{append-nil, append_assoc, take-append-drop, take-append-le, take_more}
pub use Rattle.std.specs.List.{AllByRecursion}
pub use Rattle.std.specs.Option.{option_map}
pub use Rattle.std.specs.Prelude.{is_some, slice_get}
pub use Rattle.break_signals.specs.Breaks.{OwnBreaks, TheirBreaks, after_ack, after_answer, after_ask, after_break, after_brk, own_due}
pub use Rattle.break_signals.specs.Breaks.{ticked, waits, with_given}
pub use Rattle.break_signals.specs.Words.{spelled, word_in}
pub use Rattle.break_signals.specs.declared.fault.BreakFault.{BreakFault}
pub use Rattle.break_signals.specs.declared.word.BreakWord.{BreakWord}
pub use Rattle.break_signals.specs.declared.word.BreakWord.TheVariants.{Ack, Brk}
pub use Rattle.frame_check.specs.declared.check.Check.{Check}
pub use Rattle.lapm_frames.specs.declared.arrived.Arrived.{Arrived}
pub use Rattle.lapm_frames.specs.declared.frame.Frame.{Frame}
pub use Rattle.lapm_frames.specs.declared.frame.Frame.TheVariants.{Disc, Dm, Frmr, I, Rej, Rnr, Rr, Sabme, Srej, Test, Ua, Ui, Xid}
pub use Rattle.lapm_frames.specs.declared.heard.Heard.{Heard}
pub use Rattle.lapm_frames.specs.declared.heard.Heard.TheVariants.{Chance, Lost, Nothing, Passed}
pub use Rattle.lapm_frames.specs.declared.sent.Sent.{Sent}
pub use Rattle.lapm_receiver.specs.Held.{Held, is_held, with_held}
pub use Rattle.lapm_receiver.specs.Incoming.{Incoming, KeepsTaken, after_asked, after_delivered, after_kind, after_take, after_told, asks}
pub use Rattle.lapm_receiver.specs.Incoming.{kind_of, next_expected, offset}
pub use Rattle.lapm_receiver.specs.declared.took.Took.{Took}
pub use Rattle.lapm_receiver.specs.declared.took.Took.TheVariants.{Gap, InOrder, Kept, Repeat}
pub use Rattle.lapm_sender.specs.Meant.{meant}
pub use Rattle.lapm_sender.specs.Numbers.{from_number, with_number}
pub use Rattle.lapm_sender.specs.Outgoing.{Outgoing, acknowledged, advanced, after_next, expired, gone_back, is_outstanding, next_among}
pub use Rattle.lapm_sender.specs.Outgoing.{next_number, paused_at, rejected, replied, resumed, selected, sent_among, wait_ended, wanted}
pub use Rattle.lapm_sender.specs.Outgoing.{with_piece}
pub use Rattle.link_account.specs.Account.{Account, Wait, after_break_asked, after_busy, after_delivery, after_given, after_offer, check_of}
pub use Rattle.link_account.specs.Account.{fresh, is_connected, piece_size, wants, window_for}
pub use Rattle.link_account.specs.Hear.{connected, ends_wait, hear, hurrying, on_closed, on_connected, on_detecting, on_disc}
pub use Rattle.link_account.specs.Hear.{on_establishing, on_frame, on_i, on_negotiating, on_nothing, on_number, on_pattern, on_ready}
pub use Rattle.link_account.specs.Hear.{on_rej, on_releasing, on_rnr, on_sabme, on_seen, on_srej, on_word, on_xid_command, on_xid_response}
pub use Rattle.link_account.specs.Hear.{owing, pausing, peer_reset, replying, taking, then_in, timer_after, trying, without_adp}
pub use Rattle.link_account.specs.Laws.{AcknowledgesTaken, AgreesOnSrej, AnswersGiven, BreaksForWantAlone, GivesBreaksInOrder, IsBreakOf}
pub use Rattle.link_account.specs.Laws.{IsInRange, IsTakenBy, KnownByNumber, MayPlay, ReceivesAsAgreed, SaysNumbers, SendsBreaksTaken}
pub use Rattle.link_account.specs.Laws.{SendsInRange, SendsWhatWasOffered, TakesByNumber, TakesInOrder, WantsAnswers, has_begun, played}
pub use Rattle.link_account.specs.Play.{Delivers, Event, Gives_break, Hears_nothing, Is_asked, Is_busy, Is_lost, Is_offered, Pair, Passes}
pub use Rattle.link_account.specs.Play.{Play, Side, Slot, Speaks, arrives, goes_on, happens, happens_at, heard, is_lost, is_offered, passes}
pub use Rattle.link_account.specs.Play.{play, play_of, role_of, seen_from, spoken, start}
pub use Rattle.link_account.specs.Speak.{Said, after_timers, answering, breaking, else_says, frame_for, has_news, may_send, nr_of, polling}
pub use Rattle.link_account.specs.Speak.{ready_frame, says, says_asking, says_break, says_frame, says_own, says_segment, says_word, speak}
pub use Rattle.link_account.specs.Speak.{speak_detecting, speak_in, speak_linked, speak_negotiating, speak_releasing, spent, step1, step2}
pub use Rattle.link_account.specs.Speak.{step3, step4, step5, step6, step7, step8, steps, telling, tells, then_tries, timer_expires}
pub use Rattle.link_account.specs.Speak.{tries_frame, trying_again, u_try, where_says}
pub use Rattle.link_account.specs.declared.answer.Answer.{Answer}
pub use Rattle.link_account.specs.declared.phase.Phase.{Phase}
pub use Rattle.link_account.specs.declared.phase.Phase.TheVariants.{Closed, Connected, Detecting, Establishing, Negotiating, Releasing}
pub use Rattle.link_account.specs.declared.setup.Setup.{Setup}
pub use Rattle.shared_terms.specs.Both.{Both, of}
pub use Rattle.shared_terms.specs.Prefix.{IsPrefixOf}
pub use Rattle.shared_terms.specs.Role.{is_originator, other}
pub use Rattle.shared_terms.specs.declared.fault.LinkFault.{LinkFault}
pub use Rattle.shared_terms.specs.declared.fault.LinkFault.TheVariants.{BadAck, NotDetected, PeerRefused, PeerReset, Spent}
pub use Rattle.shared_terms.specs.declared.role.Role.{Role}
pub use Rattle.shared_terms.specs.declared.role.Role.TheVariants.{Answerer, Originator}
pub use Rattle.xid_params.specs.Offers.{IsAllowed, ReadsAllowed, ReadsWritten, offer_in, written}
pub use Rattle.xid_params.specs.Terms.{agree}
pub use Rattle.xid_params.specs.declared.offer.Offer.{Offer}
pub use Rattle.xid_params.specs.declared.terms.Terms.{Terms}
pub use borrow.Author.Tests.{eqb-true, ltb-true}
