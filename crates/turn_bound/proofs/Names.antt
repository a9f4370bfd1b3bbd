-- What several proofs here name of the crates below.
pub use Rattle.std.proofs.Common.{Bool, Err, List, None, Ok, Option, Result, Some, [], ap, arith, cond, drop, false, inl, inr, length}
pub use Rattle.std.proofs.Common.{length-append, map, min, nat_eq, nat_le, nat_lt, not, refl, slice_index_or, subst, suc, sym, true, zero}
pub use Rattle.std.proofs.Common.{ℕ, ◌%◌, ◌&&◌, ◌*◌, ◌++◌, ◌+◌, ◌-◌, ◌<◌, ◌||◌, ◌∙◌, ◌∷◌, ◌≡◌, ◌≤◌, ◌⊎◌}
pub use Rattle.std.proofs.Math.Nat.{mul-le-mul_left, mul-le-mul_right}
pub use Rattle.break_signals.specs.Breaks.{OwnBreaks, TheirBreaks, after_ack, after_answer, after_ask, after_brk, no_breaks, ticked, waits}
pub use Rattle.lapm_sender.specs.Numbers.{with_number}
pub use Rattle.lapm_sender.specs.Outgoing.{after_next, gone_back, is_whole, next_among, paused_at, sent_among, wait_ended}
pub use Rattle.link_account.proofs.Flow.{all_weaker}
pub use Rattle.link_account.proofs.HearWays.{ConnectedWays, EarlyWays, Numbers, Plain, acked, acked-keeps, acked_back, acked_back-keeps}
pub use Rattle.link_account.proofs.HearWays.{numbered_with, numbers-alike, resumed-keeps, resumed-unpaused}
pub use Rattle.link_account.proofs.Names.{AllByRecursion, Answerer, Arrived, BreakWord, Brk, Disc, Frame, Heard, I, Incoming, LinkFault}
pub use Rattle.link_account.proofs.Names.{Originator, Outgoing, Rej, Rnr, Role, Rr, Sabme, Said, Sent, Slot, Took, Ui, advanced, after_kind}
pub use Rattle.link_account.proofs.Names.{arrives, frame_for, hear, is_connected, is_originator, is_outstanding, is_some, kind_of, may_send}
pub use Rattle.link_account.proofs.Names.{meant, nat_tests, next_number, nr_of, of, offset, on_nothing, other, ready_frame, resumed}
pub use Rattle.link_account.proofs.Names.{slice_get, speak, speak_in, speak_linked, speak_releasing, trying, wanted, wants, without_adp}
pub use Rattle.link_account.proofs.Playing.{is-linked}
pub use Rattle.link_account.proofs.SpeakWays.{AllSaid, Breaks, Expired, NoWord, Steps, Tries, Ways, answers-unconnected, answers_alone}
pub use Rattle.link_account.proofs.SpeakWays.{by-linked, by-tries, by-ways, linked-alike, linked-so, next-keeps, polling_at, retimed}
pub use Rattle.link_account.proofs.SpeakWays.{steps-so, tries-alike, why-broken}
pub use Rattle.link_account.specs.Account.{Account, break_waits, is_done, size_for, window_for}
pub use Rattle.link_account.specs.Hear.{connected, ends_wait, first_wait, on_xid_command, on_xid_response, timer_after}
pub use Rattle.link_account.specs.Speak.{breaking, differs, running, says_segment, says_word, tells, timer_expires, u_try}
pub use Rattle.link_account.specs.declared.owes.Owes.{Owes}
pub use Rattle.link_run.proofs.Names.{Accounts, Answer, Carries, Closed, Connected, Crosses, Detecting, Establishing, GoingTurn, IsCarried}
pub use Rattle.link_run.proofs.Names.{Link, Negotiating, Phase, Releasing, RunOf, Setup, Spoken, Turn, User, arrival, has_finished, is_busy}
pub use Rattle.link_run.proofs.Names.{is_closed, is_released, next_break, offered_at, offered_times, releases, sent_in}
pub use Rattle.link_run.specs.End.{BusyLine, asked, asked_at, busy_left, busy_turns, is_ready}
pub use Rattle.link_run.specs.Run.{IsBroken, finished_at, served_ends}
pub use Rattle.turn_bound.specs.Advance.{AdvancesSoon, GoesOn, MaySend, NeverBusy}
pub use Rattle.turn_bound.specs.Due.{AnswersAtOnce, NoneDue}
pub use Rattle.turn_bound.specs.Offered.{IsWithin}
pub use Rattle.turn_bound.specs.Time.{KeepsTime}
pub use Rattle.xid_params.specs.declared.terms.Terms.{Terms}
