-- What the proofs about runs name of the definitions of runs.
pub use Rattle.std.proofs.Common.{Bool, Err, List, None, Ok, Option, Result, Some, [], ap, arith, cond, drop, false, inl, inr, length}
pub use Rattle.std.proofs.Common.{length-append, map, max, nat_eq, nat_le, nat_lt, refl, slice_get, slice_index_or, subst, suc, sym, take}
pub use Rattle.std.proofs.Common.{true, zero, ℕ, ◌%◌, ◌&&◌, ◌*◌, ◌++◌, ◌+◌, ◌-◌, ◌<◌, ◌||◌, ◌∙◌, ◌∷◌, ◌≡◌, ◌≢◌, ◌≤◌, ◌⊎◌}
pub use Rattle.std.proofs.Math.Seq.{drop-append_seam}
pub use Rattle.std.proofs.lemmas.Bool.{or_left, or_right}
pub use Rattle.std.proofs.lemmas.List.{length-take, take_all}
pub use Rattle.std.specs.List.{concat}
pub use Rattle.std.specs.Prelude.{is_ok}
pub use Rattle.break_signals.specs.Breaks.{TheirBreaks, after_break, gives, with_given}
pub use Rattle.frame_check.specs.declared.check.Check.TheVariants.{Sixteen, ThirtyTwo}
pub use Rattle.lapm_receiver.specs.Held.{Held, is_held, rest_from, run_from, with_held}
pub use Rattle.lapm_receiver.specs.Incoming.{after_asked, kind_at, not_begun}
pub use Rattle.link_account.proofs.Events.{asked-event, at, busy-event, delivers-event, gives-event, hears-event, loses-event}
pub use Rattle.link_account.proofs.Events.{offered-event, passes-event, play-append, side, sides, slot_of, speaks-event}
pub use Rattle.link_account.proofs.HearWays.{ConnectedWays, EarlyWays, NumberKeeps, Plain, acked-keeps, acked_back-keeps, breaks-not}
pub use Rattle.link_account.proofs.HearWays.{by-early, by-linked, numbered_with, paused-keeps, resumed-keeps}
pub use Rattle.link_account.proofs.Names.{Account, Answerer, Arrived, Chance, Check, Disc, Frame, Heard, I, InOrder, Incoming, IsAllowed}
pub use Rattle.link_account.proofs.Names.{IsPrefixOf, KeepsTaken, Kept, LinkFault, Lost, MayPlay, Nothing, Originator, Outgoing, Passed}
pub use Rattle.link_account.proofs.Names.{Play, ReadsAllowed, ReadsWritten, Rej, Rnr, Role, Rr, Sabme, Said, Sent, Slot, Srej, Terms, Took}
pub use Rattle.link_account.proofs.Names.{Ua, Xid, after_busy, after_given, after_kind, after_offer, after_take, agree, append-nil}
pub use Rattle.link_account.proofs.Names.{append_assoc, arrives, check_of, false≢true, frame_for, fresh, hear, is_connected, is_originator}
pub use Rattle.link_account.proofs.Names.{is_some, kind_of, nat_tests, of, offset, on_nothing, other, piece_size, ready_frame, speak}
pub use Rattle.link_account.proofs.Names.{take-append-drop, trying, wants, with_piece, without_adp, written}
pub use Rattle.link_account.proofs.SpeakWays.{AllSaid, Steps, Tries, Ways, by-ways, linked-alike, next-keeps, tries-alike, why-broken}
pub use Rattle.link_account.specs.Account.{after_delivery, first_terms, given_break, size_for, window_for}
pub use Rattle.link_account.specs.Hear.{connected}
pub use Rattle.link_account.specs.Laws.{AcknowledgesTaken, AgreesOnSrej, AnswersGiven, BreaksForWantAlone, GivesBreaksInOrder, IsInRange}
pub use Rattle.link_account.specs.Laws.{IsTakenBy, KnownByNumber, NextIsBreak, NextIsKnown, NextIsTaken, NextWasOffered, ReceivesAsAgreed}
pub use Rattle.link_account.specs.Laws.{ReceivesBy, SendsBreaksTaken, SendsInOrder, SendsInRange, SendsWhatWasOffered, TakesByNumber}
pub use Rattle.link_account.specs.Laws.{TakesInOrder, WantsAnswers, has_begun}
pub use Rattle.link_account.specs.Play.{Delivers, Event, Gives_break, Hears_nothing, Is_asked, Is_busy, Is_lost, Is_offered, Passes}
pub use Rattle.link_account.specs.Play.{happens, play}
pub use Rattle.link_account.specs.declared.answer.Answer.{Answer}
pub use Rattle.link_account.specs.declared.phase.Phase.{Phase}
pub use Rattle.link_account.specs.declared.phase.Phase.TheVariants.{Closed, Connected, Detecting, Establishing, Negotiating, Releasing}
pub use Rattle.link_account.specs.declared.setup.Setup.{Setup}
pub use Rattle.link_run.specs.Alone.{LoneGoing, LoneRun, LoneTurn, lone_served}
pub use Rattle.link_run.specs.Carried.{Carries, Crosses, HasDelays, IsCarried, on_line, sent_ago, sent_in}
pub use Rattle.link_run.specs.Counts.{sequence_in}
pub use Rattle.link_run.specs.End.{BreakLine, Served, User, asked, asked_at, delivered, deliveries, has_finished, is_busy, is_closed}
pub use Rattle.link_run.specs.End.{is_released, next_break, offered, offered_at, offered_times, piece_at, room_for, served, speaks_alone}
pub use Rattle.link_run.specs.Laws.{BrokenForWant, DoneIsWhole, EachEndIsNamed, EachTurnIsMade, GivesAllBreaks, HearingsArePlays}
pub use Rattle.link_run.specs.Laws.{HearingsAreWell, HearingsDeliver, HearingsGiveAllBreaks, HearsPrefixes, HearsWhatPassed, HoldPrefixes}
pub use Rattle.link_run.specs.Laws.{HoldWhole, IsPlayed, MakesTurn, OffersUntilNoneIsWanted, OneOutcome, OneRun, RunsArePlays, RunsOver}
pub use Rattle.link_run.specs.Laws.{SendsShort, SpeakingTakesNothing, TakesPrefixes, TakesWhatPassed, agreed_srej, given_breaks, given_in}
pub use Rattle.link_run.specs.Laws.{heard_in, told_by_play, told_by_turn}
pub use Rattle.link_run.specs.Outcomes.{Broken, Done, Going, Outcome, TurnIs}
pub use Rattle.link_run.specs.Overheard.{AgreesByXid, EarlyBreaksAreIgnored, HearsAgreedCheck, IsOld, JudgesByItsCheck, JudgesOnceHeard}
pub use Rattle.link_run.specs.Overheard.{NothingNew, OpensByFrames, ReleasesLast, SegmentsPassLater, SendsAgreedCheck, agreed_check}
pub use Rattle.link_run.specs.Overheard.{agreed_terms, has_passed, is_xid, opens, passes_in}
pub use Rattle.link_run.specs.Reading.{BeginsUnoffered, HearingStaysOffered, IsCut, IsOffered, OffersWhatIsRead, OwnSegmentsStay}
pub use Rattle.link_run.specs.Reading.{RunsByWhatIsReadOn, RunsByWhatWasRead, SameSoFar, SegmentsAreTold, SpeakingStaysOffered, with_file}
pub use Rattle.link_run.specs.Reading.{with_files, with_segment}
pub use Rattle.link_run.specs.Run.{Accounts, GoingTurn, Hears, IsBroken, IsSilent, Link, Party, RunOf, Side, Speaks, SpeaksAt, Spoken, Turn}
pub use Rattle.link_run.specs.Run.{arrival, finished_at, releases, said_at, served_at, served_ends, spoken, start}
pub use Rattle.link_run.specs.Starved.{LosesSome}
pub use Rattle.link_run.specs.Taken.{Segment, keeping, octets_in}
pub use Rattle.link_account.proofs.HearWays.{IsNoWord, IsTest, IsUa, IsXid}
pub use Rattle.link_account.proofs.HearWays.{numbers-alike}
pub use Rattle.link_account.proofs.SpeakWays.{Breaks, Spends, Undetected}
pub use Rattle.link_account.specs.Account.{break_waits, is_done}
pub use Rattle.link_account.specs.Hear.{on_detecting, on_establishing, on_negotiating, on_xid_command, on_xid_response}
pub use Rattle.link_account.specs.Laws.{played}
pub use Rattle.link_account.specs.Play.{heard, seen_from}
pub use Rattle.link_run.specs.End.{is_ready}
pub use Rattle.link_run.specs.Laws.{IsAt}
