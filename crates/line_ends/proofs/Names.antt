-- What several proofs here name of the crates below.
pub use Rattle.break_signals.specs.Breaks.{OwnBreaks, after_ask, own_due, takes_break, waits, with_given}
pub use Rattle.detection.specs.Slots.{Signal, signal_bits, slots_of}
pub use Rattle.exact_decoder.specs.Surviving.V32.{line_depth, line_trellis}
pub use Rattle.frame_check.specs.Octets.{AreOctets}
pub use Rattle.frame_check.specs.declared.check.Check.{Check}
pub use Rattle.frame_check.specs.declared.sizes.TheConstants.{INFO}
pub use Rattle.lapm_frames.specs.Frame.{IsFrame, information_of, spelled}
pub use Rattle.lapm_frames.specs.Sendable.{IsSendable}
pub use Rattle.lapm_frames.specs.declared.frame.Frame.{Frame}
pub use Rattle.lapm_frames.specs.declared.heard.Heard.{Heard}
pub use Rattle.lapm_frames.specs.declared.heard.Heard.TheVariants.{Chance, Lost, Nothing, Passed}
pub use Rattle.lapm_frames.specs.declared.seen.Seen.{Seen}
pub use Rattle.lapm_frames.specs.declared.sent.Sent.{Sent}
pub use Rattle.line_ends.specs.Causes.{EndsHaveCauses, FewLossesKeepLinks, GivesEachBreak, GivesUpOnTime, HeardTurnsAreMade, LosesInPeriods}
pub use Rattle.line_ends.specs.Causes.{LostLinksWereStarved, MadeOver, WaitsForNoBreak}
pub use Rattle.line_ends.specs.Completes.{AreOfOctets, CompletesQuiet, CompletesUndisturbed, CompletesUnstarved, CompletesWithFewLosses}
pub use Rattle.line_ends.specs.Completes.{CompletesWithFewNamed, DisplacesNoneIsFaint, EndsDone, FaintGoOn, IsFaint, IsQuiet}
pub use Rattle.line_ends.specs.Completes.{LosesWhatIsNamed, OctetsAreSendable, ScriptRunsTo, heard_turns, slots_named}
pub use Rattle.line_ends.specs.EachEnds.{Becomes, EachRunEnds, EachSlotBecomes, EachTurnIsDecided, HasEnd, QuietRunsDeliver}
pub use Rattle.line_ends.specs.EachEnds.{UndisturbedRunsDeliver}
pub use Rattle.line_ends.specs.Plain.{AllPlain, AllShort, AsksInOctets, InOctets, IsPlain, IsPlainSent}
pub use Rattle.line_run.proofs.Slots.{SentAgo, sent-ago}
pub use Rattle.line_run.specs.Ends.{ChanceMatch, DoneLeavesWhole, EndsBy, EndsInTurn, GivesUp, IsDone, Left, LineEnds, LineLost, LinkLost}
pub use Rattle.line_run.specs.Ends.{MayRun, NotDetected, RunEnd, RunsLeavePrefixes, RunsLeaveWhatPassed, RunsTo, turns_heard}
pub use Rattle.line_run.specs.Fitting.{AreFit, Fits}
pub use Rattle.line_run.specs.Laws.{EmptyScriptDisplacesNone, FaintNeverLost, FaintReceivedIsSent, NeverChance, SlotsAreRecorded}
pub use Rattle.line_run.specs.Laws.{UndisplacedIsFaint}
pub use Rattle.line_run.specs.LineLaws.{OneIsCarried, SamplesAreCarried}
pub use Rattle.line_run.specs.Sampled.{Arrives, ArrivesAs, EndsLine, EndsLineBy, HeardIn, IsHeardOf, IsHeardOver, IsHeardWell, LineEnd}
pub use Rattle.line_run.specs.Sampled.{LineRun, LosesLine, Wire, bits_of, signal_in, signals, signals_before}
pub use Rattle.line_run.specs.Scripted.{ScriptsHaveDelays, ScriptsMayPlay, SlotsAreCodable, SlotsHaveRoom, break_line, breaks_of, link_of}
pub use Rattle.line_run.specs.Scripted.{longest_of, period_of, slot_symbols, wire_of}
pub use Rattle.line_run.specs.Stream.{AllSendable}
pub use Rattle.link_account.specs.Account.{Account, after_break_asked, after_busy, after_given, check_of, is_connected, piece_size, wants}
pub use Rattle.link_run.specs.Carried.{Carries, Crosses, sent_ago}
pub use Rattle.link_run.specs.Laws.{DoneIsWhole, EachEndIsNamed, EachTurnIsMade, HearingsDeliver, HearingsGiveAllBreaks, HearsPrefixes}
pub use Rattle.link_run.specs.Laws.{IsNamed, MakesTurn, RunsOver, SendsShort, TakesPrefixes}
pub use Rattle.link_run.specs.Outcomes.{Broken, Done, Going, Outcome, TurnIs}
pub use Rattle.link_run.specs.Run.{Accounts, GoingTurn, Hears, Link, Side, Spoken, Turn, arrival, releases, said_at, served_at, spoken}
pub use Rattle.link_run.specs.Run.{start}
pub use Rattle.noise_script.specs.Script.{IsInLimits, ScriptValue, delay_of, loses}
pub use Rattle.sample_line.specs.Recorded.{Records}
pub use Rattle.sample_line.specs.Signals.{signal_of}
pub use Rattle.shared_terms.specs.Both.{Both, of}
pub use Rattle.shared_terms.specs.Role.{is_originator, other, same_role}
pub use Rattle.shared_terms.specs.declared.fault.LinkFault.{LinkFault}
pub use Rattle.shared_terms.specs.declared.role.Role.{Role}
pub use Rattle.shared_terms.specs.declared.role.Role.TheVariants.{Answerer, Originator}
pub use Rattle.xid_params.specs.Offers.{IsAllowed, offer_in, written}
