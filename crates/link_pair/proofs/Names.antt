-- What the proofs of this crate name of the crates below, of the definitions, and of std.
pub use Rattle.std.proofs.Common.{Bool, Err, IsTrue, List, None, Ok, Option, Result, Some, [], ap, append-nil, arith, cond, drop, false}
pub use Rattle.std.proofs.Common.{inl, inr, length, map, max, nat_eq, refl, rules, subst, suc, sym, take, true, zero, ℕ, ◌*◌, ◌++◌, ◌+◌}
pub use Rattle.std.proofs.Common.{◌-◌, ◌<◌, ◌^◌, ◌||◌, ◌∙◌, ◌∷◌, ◌≡◌, ◌≢◌, ◌≤◌, ◌⊎◌}
pub use Rattle.std.proofs.lemmas.Bool.{false≢true}
pub use Rattle.std.proofs.lemmas.Bool.Decides.{nat_tests}
pub use Rattle.std.proofs.lemmas.List.{length-drop}
pub use Rattle.std.specs.List.{concat}
pub use Rattle.std.specs.Prelude.{is_some}
pub use Rattle.command_base.proofs.Jobs.{last-only}
pub use Rattle.command_base.specs.Job.{Answers}
pub use Rattle.command_base.specs.Lines.{both_done_line}
pub use Rattle.command_base.specs.Stops.{EndCounts, StopCounts}
pub use Rattle.command_base.specs.declared.status.Status.{Status}
pub use Rattle.command_base.specs.declared.stop.Stop.{Stop}
pub use Rattle.detection.specs.Slots.{Signal, signal_bits}
pub use Rattle.detection.specs.Slots.Signal.{FlagSlot}
pub use Rattle.frame_check.specs.Octets.{AreOctets}
pub use Rattle.frame_check.specs.declared.check.Check.{Check}
pub use Rattle.lapm_frames.specs.Sendable.{IsSendable}
pub use Rattle.lapm_frames.specs.declared.heard.Heard.{Heard}
pub use Rattle.lapm_frames.specs.declared.heard.Heard.TheVariants.{Chance}
pub use Rattle.line_ends.proofs.Hearing.{agree-on}
pub use Rattle.line_ends.proofs.RunLaws.{RunLaws, may-run, runs-over}
pub use Rattle.line_ends.specs.Causes.{LostLinksWereStarved}
pub use Rattle.line_ends.specs.Completes.{AreOfOctets, DisplacesNoneIsFaint, IsFaint}
pub use Rattle.line_run.proofs.Resulting.{compare}
pub use Rattle.line_run.proofs.Slots.{SentAgo, sent-ago}
pub use Rattle.line_run.proofs.WhatIsLeft.{leaves-so, left-is, left_of}
pub use Rattle.line_run.specs.Ends.{EndsInTurn, IsDone, Left, LinkLost, NotDetected, RunEnd, RunsTo}
pub use Rattle.line_run.specs.LineLaws.{OneIsCarried, SamplesAreCarried}
pub use Rattle.line_run.specs.Names.{Written, outputs_of, written}
pub use Rattle.line_run.specs.Sampled.{ArrivesAs, EndsLine, EndsLineBy, HeardIn, IsHeardOf, LineEnd, LineRun, Wire, and_then, signal_in}
pub use Rattle.line_run.specs.Sampled.{signals, signals_before}
pub use Rattle.line_run.specs.Scripted.{ScriptsHaveDelays, ScriptsMayPlay, SlotsAreCodable, link_of, longest_of, slot_symbols, wire_at}
pub use Rattle.line_run.specs.Scripts.{LineRunsEndSoon}
pub use Rattle.line_run.specs.Stream.{AllSendable, AreSent, Carried, IsDue, and_sent, carry}
pub use Rattle.line_run.specs.Unhindered.{ChecksAgree}
pub use Rattle.line_run.specs.declared.fault.RunFault.{RunFault}
pub use Rattle.line_texts.specs.LineText.{chance_line}
pub use Rattle.line_world.proofs.Folders.{IsApart}
pub use Rattle.line_world.proofs.Reached.{kept-none, knows-later, none_got}
pub use Rattle.line_world.specs.Lines.{AreDue, HaveArrived, LinesWait}
pub use Rattle.line_world.specs.Link.{AreWithin}
pub use Rattle.line_world.specs.Turn.{CountsOver, FaultCountsOver}
pub use Rattle.line_world.specs.Turns.{AddsTurn, held_of}
pub use Rattle.line_world.specs.World.{KnowsFiles}
pub use Rattle.line_world.specs.declared.lines.Lines.{Lines}
pub use Rattle.line_world.specs.declared.modems.Modems.{Modems}
pub use Rattle.link_account.specs.Account.{check_of}
pub use Rattle.link_pair.specs.Answers.{answer_of, last_turn_of, result_of}
pub use Rattle.link_pair.specs.Ends.{AreFiles, Ends, EndsBy, IsBegun, RanTo, StopsInRound, pair_job}
pub use Rattle.link_pair.specs.Half.{Follows, HalfAt, HalfEnds, HalfIsReady, HasCome, HoldLeft, IsEndedByLine, IsStopped, LinkStops}
pub use Rattle.link_pair.specs.Half.{LinkStopsReading, StandsFor, left_by, run_end}
pub use Rattle.link_pair.specs.Pair.{Awaits, Comes, FaultEnds, FaultEndsIn, HaveEnded, all_inputs, all_outputs, both_ended, round_of}
pub use Rattle.link_pair.specs.Pair.{script_of, streams_at}
pub use Rattle.link_pair.specs.Pairs.Beside.{after_first, after_second, first_dlci, first_wire, idle_turn, lasting, second_dlci}
pub use Rattle.link_pair.specs.Pairs.Beside.{second_wire, signal_or_flags, slot_in}
pub use Rattle.link_pair.specs.Pairs.Ends.{BothDone, EndsTurn, First, LeavesOf, PairEnd, PairRunsTo, Second, Which, by_line, by_links}
pub use Rattle.link_pair.specs.Pairs.Ends.{end_of, firsts_at, is_going, line_end, text_for}
pub use Rattle.link_pair.specs.Pairs.Laws.{AreFewRounds, ArePrefixes, AreShort, DonePairsAreWhole, EndsDone, FaintPairsAreIsolated}
pub use Rattle.link_pair.specs.Pairs.Laws.{FirstSlotsAreDue, OnePairResult, PairsHaveFewRounds, PairsLeavePrefixes, QuietPairsAreDone}
pub use Rattle.link_pair.specs.Pairs.Laws.{SecondSlotsAreDue, UnstarvedPairsAreDone}
pub use Rattle.link_pair.specs.Pairs.Pair.{Ended, Goes, HasEnded, HearsIdly, IdlesFor, IsByLink, Lasts, PairAt, Progress, ends_in}
pub use Rattle.link_pair.specs.Pairs.Pair.{last_ends, turns_in, turns_on_line}
pub use Rattle.link_pair.specs.Pairs.Stream.{both_sent, first_sent}
pub use Rattle.link_pair.specs.Words.{Names, files_of, inputs_of, named, names_of}
pub use Rattle.link_pair.specs.declared.command.LastTurns.{LastTurns}
pub use Rattle.link_pair.specs.declared.half.Half.{Half}
pub use Rattle.link_pair.specs.declared.half.LinkEnd.{LinkEnd}
pub use Rattle.link_pair.specs.declared.two_links.Endings.{Endings}
pub use Rattle.link_pair.specs.declared.two_links.Pair.{Pair}
pub use Rattle.link_run.proofs.Only.{hearing-of}
pub use Rattle.link_run.specs.Carried.{sent_ago}
pub use Rattle.link_run.specs.End.{deliveries}
pub use Rattle.link_run.specs.Outcomes.{Broken, Done, Going, Outcome, TurnIs}
pub use Rattle.link_run.specs.Overheard.{JudgesOnceHeard}
pub use Rattle.link_run.specs.Run.{Accounts, Hears, Link, Spoken, Turn, start}
pub use Rattle.link_run.specs.Trace.{trace_text}
pub use Rattle.noise_script.specs.Laws.{BreaksAreOctets}
pub use Rattle.noise_script.specs.Script.{IsInLimits, ScriptValue, delay_of}
pub use Rattle.outside_calls.proofs.Holding.{Holds-kept, Holds-more, HoldsPart-more}
pub use Rattle.outside_calls.proofs.OnlyOutputs.{OnlyOutputs-trans}
pub use Rattle.outside_calls.proofs.Putting.{HoldEach-kept, OnlyPuts-refl, OnlyPuts-trans, SomeRose-earlier}
pub use Rattle.outside_calls.proofs.Steps.{CountsStand-refl, CountsStand-trans}
pub use Rattle.outside_calls.specs.Folder.{CountsStand, FolderState, GoesOn, octets_at}
pub use Rattle.outside_calls.specs.Outputs.{AreApartFrom, CreatesPart, HoldEach, Holds, IsNoneOf, KeepsAll, KeepsEach, OnlyOutputs}
pub use Rattle.outside_calls.specs.Outputs.{OnlyPuts}
pub use Rattle.run_inputs.specs.Inputs.{RefusesOwn}
pub use Rattle.run_inputs.specs.declared.limits.TheConstants.{LIMITS}
pub use Rattle.sample_line.specs.Recorded.{Records}
pub use Rattle.sample_line.specs.Signals.{signal_of}
pub use Rattle.shared_terms.specs.Both.{Both, of}
pub use Rattle.shared_terms.specs.Prefix.{IsPrefixOf}
pub use Rattle.shared_terms.specs.Role.{other}
pub use Rattle.shared_terms.specs.declared.role.Role.{Role}
pub use Rattle.shared_terms.specs.declared.role.Role.TheVariants.{Answerer, Originator}
