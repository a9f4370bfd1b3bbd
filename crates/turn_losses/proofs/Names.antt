-- What the proofs about losses name of the bound and of its own foundations.
pub use Rattle.std.proofs.Common.{Bool, Err, List, None, Ok, Option, Result, Some, [], ap, arith, cond, false, inl, inr, length}
pub use Rattle.std.proofs.Common.{length-append, map, max, nat_eq, nat_le, nat_lt, not, refl, subst, suc, sym, true, zero, ℕ, ◌%◌, ◌&&◌}
pub use Rattle.std.proofs.Common.{◌*◌, ◌+◌, ◌-◌, ◌<◌, ◌||◌, ◌∙◌, ◌∷◌, ◌≡◌, ◌≢◌, ◌≤◌, ◌⊎◌}
pub use Rattle.lapm_receiver.specs.Incoming.{after_asked}
pub use Rattle.link_account.proofs.HearWays.{ConnectedWays, Plain, acked, acked_back, by-linked, by-ways, numbered_with, numbers-alike}
pub use Rattle.link_account.proofs.Names.{Account, Ack, Answerer, Arrived, BreakWord, Disc, Frame, Heard, I, Incoming, IsAllowed, LinkFault}
pub use Rattle.link_account.proofs.Names.{MayPlay, NotDetected, Offer, Originator, Outgoing, OwnBreaks, ReadsWritten, Rej, Rnr, Role, Rr}
pub use Rattle.link_account.proofs.Names.{Sabme, Said, Sent, Spent, Srej, Ui, advanced, arrives, cases_lt, frame_for, hear, is_connected}
pub use Rattle.link_account.proofs.Names.{is_some, meant, nat_tests, nr_of, of, offer_in, on_nothing, other, ready_frame, resumed, says}
pub use Rattle.link_account.proofs.Names.{slice_get, speak, speak_in, speak_linked, ticked, trying, waits, word_in, written}
pub use Rattle.link_account.proofs.SpeakWays.{Steps, Tries, Ways, linked-alike, linked-so, next-keeps, steps-so, why-broken}
pub use Rattle.link_account.specs.Account.{break_waits, fresh}
pub use Rattle.link_account.specs.Hear.{connected, ends_wait}
pub use Rattle.link_account.specs.Speak.{answering, else_says}
pub use Rattle.link_run.proofs.Names.{Accounts, Answer, Carries, Closed, Connected, Detecting, Establishing, Hears, IsCarried, Link}
pub use Rattle.link_run.proofs.Names.{LosesSome, Negotiating, Phase, Releasing, RunOf, Spoken, Turn, User, arrival, is_busy, is_closed}
pub use Rattle.link_run.proofs.Names.{is_released, releases, said_at, sent_in, served_at, start}
pub use Rattle.link_run.proofs.Speaking.{speaks-phase}
pub use Rattle.link_run.specs.Run.{BrokenTurn}
pub use Rattle.link_run.specs.Starved.{IsLost, IsStarved, SpanLoses, turn_at}
pub use Rattle.turn_bound.proofs.AtMostOne.{OneDue}
pub use Rattle.turn_bound.proofs.Ending.{fits}
pub use Rattle.turn_bound.proofs.Hearing.{HeardAs}
pub use Rattle.turn_bound.proofs.MeetHear.{frame_disc, is_begun, o-hears, of_arrived, of_frame}
pub use Rattle.turn_bound.proofs.Meeting.{arrives-flag, speaks-so}
pub use Rattle.turn_bound.proofs.Run.{served_account}
pub use Rattle.turn_bound.proofs.Sender.{acked-heard, heard-advanced, heard-resumed, meant-range}
pub use Rattle.turn_bound.proofs.Serving.{Served, serves-all}
pub use Rattle.turn_bound.proofs.Speaking.{linked-says}
pub use Rattle.turn_bound.proofs.Tied.{Tied, is_lost, keeps, link_of, state_of, tied, turn_of}
pub use Rattle.turn_bound.proofs.Truths.{and-drop, and-not, and-second, and-true, and-two, clash, is-true, not-true, or-false, or-late}
pub use Rattle.turn_bound.proofs.Truths.{unlinked-connected}
pub use Rattle.turn_bound.proofs.Value.{AreRates, IsAck, IsOf, Rates, Sends, Stands, arrived_rnrs, linked-of, rates}
pub use Rattle.turn_bound.proofs.Value.{unlinked-of}
pub use Rattle.turn_bound.specs.Due.{NoneDue}
pub use Rattle.turn_bound.specs.Time.{KeepsTime}
pub use Rattle.turn_bound.specs.Together.{StandTogether}
pub use Rattle.turn_losses.proofs.Trace.{ArrivesLate, Deed, EndRun, Happens, PollTurn, SetFrom, TimedRun, Trace, TwoEnds, end_of}
pub use Rattle.turn_losses.proofs.Trace.{hears_final, hears_poll, is_linked, past, poll_due, sends_final, sends_poll, sent_or}
pub use Rattle.turn_losses.specs.Losses.{AnswererWantsAnswers, LosesEach, OriginatorIsStarved, OriginatorWantsAnswers}
pub use Rattle.turn_losses.specs.Losses.{OriginatorWantsPattern, PeriodLoses, UndetectedIsStarved}
pub use Rattle.turn_losses.specs.Polls.{is_final, is_poll}
pub use Rattle.turn_losses.specs.Tries.{AnswererWantsAnswer, GivesUpForLosses, OriginatorWantsFrame}
pub use Rattle.turn_bound.proofs.Serving.{serves-well}
pub use Rattle.link_account.proofs.Playing.{is-linked}
