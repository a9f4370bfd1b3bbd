-- What the proofs of this crate name of the crates below, of the definitions, and of std.
pub use Rattle.std.proofs.Common.{Bool, Err, List, None, Ok, Option, Result, Some, [], ap, append-nil, append_assoc, arith, drop, false}
pub use Rattle.std.proofs.Common.{inl, inr, is_ok, length, length-append, map, not, refl, rules, subst, suc, sym, take, true, zero, ℕ, ◌&&◌}
pub use Rattle.std.proofs.Common.{◌*◌, ◌++◌, ◌+◌, ◌-◌, ◌<◌, ◌^◌, ◌||◌, ◌∙◌, ◌∷◌, ◌≡◌, ◌≢◌, ◌≤◌}
pub use Rattle.std.proofs.lemmas.Bool.{false≢true}
pub use Rattle.std.proofs.lemmas.List.{length-drop, length-take, map-append, take-append-le, take_all, take_more}
pub use Rattle.std.proofs.lemmas.List.Folds.{concat-append}
pub use Rattle.std.specs.List.{concat}
pub use Rattle.std.specs.Option.{option_map}
pub use Rattle.std.specs.Prelude.{is_some, slice_get}
pub use Rattle.bit_stuffing.specs.BitSlot.{line_bits}
pub use Rattle.bit_stuffing.specs.declared.bit_slot.BitSlot.{BitSlot}
pub use Rattle.detection.specs.Slots.{Signal, signal_bits}
pub use Rattle.exact_decoder.specs.declared.decoder.Lost.{Lost}
pub use Rattle.frame_check.specs.Bits.{low_bits}
pub use Rattle.frame_check.specs.declared.check.Check.{Check}
pub use Rattle.lapm_frames.specs.Sendable.{IsSendable}
pub use Rattle.lapm_frames.specs.declared.arrived.Arrived.{Arrived}
pub use Rattle.lapm_frames.specs.declared.heard.Heard.{Heard}
pub use Rattle.lapm_frames.specs.declared.heard.Heard.TheVariants.{Chance}
pub use Rattle.lapm_frames.specs.declared.seen.Seen.{Seen}
pub use Rattle.lapm_frames.specs.declared.sent.Sent.{Sent}
pub use Rattle.line_run.specs.LineLaws.{OneIsCarried, SamplesAreCarried}
pub use Rattle.line_run.specs.Names.{Written, inputs_of, outputs_of, received_of, written}
pub use Rattle.line_run.specs.Recorded.{Tapes, tapes_of}
pub use Rattle.line_run.specs.Sampled.{EndsLine, HeardIn, IsHeardOf, LineRun, Wire, bits_of}
pub use Rattle.line_run.specs.Scripted.{ScriptsHaveDelays, ScriptsMayPlay, breaks_of, busy_of, link_of, longest_of, slot_symbols, wire_at}
pub use Rattle.line_run.specs.Scripted.{wire_of}
pub use Rattle.line_run.specs.Scripts.{NoLineRunIsLong}
pub use Rattle.line_run.specs.Stream.{Carried, IsDue, both_sent_by, carried_signal}
pub use Rattle.line_run.specs.declared.fault.RunFault.{RunFault}
pub use Rattle.line_texts.specs.LineText.{chance_line}
pub use Rattle.line_world.specs.Faults.{end_of}
pub use Rattle.line_world.specs.Lines.{AreDue, ArePut, ArrivesBoth, HaveArrived, HaveRoom, LinesWait, and_more, none_sent}
pub use Rattle.line_world.specs.Link.{AreCounted, AreIdle, AreWithin, HearsOn, HearsWell, LinkStands, octets_of}
pub use Rattle.line_world.specs.Mid.{AddsPart, HasGone, HearsThese, Overhears, ReadsBoth, SpeaksLast, TalliesHeard, handed, served, turn_in}
pub use Rattle.line_world.specs.Modems.{AreKept, AreReady, ModemsAfter}
pub use Rattle.line_world.specs.Tally.{Tallies}
pub use Rattle.line_world.specs.Tapes.{HoldTapes, HoldTapesPartly}
pub use Rattle.line_world.specs.Taping.{KeepTapes, RecordsBits, tape_names}
pub use Rattle.line_world.specs.Turn.{EndsInTurn, FaultCounts, FaultCountsOver, GoesOnBy, IsReading, IsWriting, Stops, StopsReading, added}
pub use Rattle.line_world.specs.Way.{AreOnWay, CodesNext, Due, Early, HeardBehind, IsOver, PassesOldest}
pub use Rattle.line_world.specs.World.{HasSent, IsReady, KnowsFiles, StayKnown, WorldAfter, script_of, turn_of}
pub use Rattle.line_world.specs.declared.direction.DelayedLine.{DelayedLine}
pub use Rattle.line_world.specs.declared.directions.LineEnd.{LineEnd}
pub use Rattle.line_world.specs.declared.lines.Lines.{Lines}
pub use Rattle.line_world.specs.declared.modems.Modems.{Modems}
pub use Rattle.line_world.specs.declared.slot.SentSlot.{SentSlot}
pub use Rattle.line_world.specs.declared.step.Step.{Step}
pub use Rattle.line_world.specs.declared.tally.Counts.{Counts}
pub use Rattle.line_world.specs.declared.world.World.{World}
pub use Rattle.link_account.specs.Account.{Account, after_busy, after_given, break_waits, check_of, fresh, given_break, is_done, wants}
pub use Rattle.link_account.specs.Hear.{hear}
pub use Rattle.link_account.specs.Numbers.{IsNumbered}
pub use Rattle.link_account.specs.Speak.{Said, speak}
pub use Rattle.link_account.specs.declared.setup.Setup.{Setup}
pub use Rattle.link_run.proofs.Only.{hearing-of}
pub use Rattle.link_run.specs.Counts.{lost_in}
pub use Rattle.link_run.specs.End.{BreakLine, asked, asked_at, delivered, deliveries, has_finished, is_busy, is_closed, is_ready}
pub use Rattle.link_run.specs.End.{is_released, offered_at}
pub use Rattle.link_run.specs.Outcomes.{Broken, Done, Going, Outcome, TurnIs}
pub use Rattle.link_run.specs.Reading.{SameSoFar}
pub use Rattle.link_run.specs.Run.{Accounts, Hears, LastTurn, Spoken, Turn, arrival, spoken, start}
pub use Rattle.link_run.specs.Trace.{turn_text}
pub use Rattle.noise_script.specs.Script.{IsInLimits, ScriptValue, delay_of, loses}
pub use Rattle.outside_calls.proofs.Holding.{Holds-kept, Holds-more, HoldsPart-more}
pub use Rattle.outside_calls.proofs.Putting.{AddEach-kept, AddEach-next, AddPart-longer, AddPart-next, AddPart-none, KeepsEach-reads}
pub use Rattle.outside_calls.proofs.Putting.{KeepsEach-refl, OnlyPuts-one, OnlyPuts-reads, OnlyPuts-refl, OnlyPuts-trans, inputs-kept}
pub use Rattle.outside_calls.proofs.Steps.{CountsStand-refl, CountsStand-trans, FaultsStand-trans, GoesOn-refl, OnlyReads-trans}
pub use Rattle.outside_calls.proofs.Steps.{octets-kept}
pub use Rattle.outside_calls.specs.Folder.{Appended, CountsStand, FaultsStand, FolderState, GoesOn, HasCause, KeepsName, OnlyReads}
pub use Rattle.outside_calls.specs.Folder.{OnlyWrites, PartlyAppended, Rose, octets_at}
pub use Rattle.outside_calls.specs.Outputs.{AddEach, AreApart, AreApartFrom, Holds, KeepsEach, OnlyPuts}
pub use Rattle.outside_calls.specs.declared.folder.FolderFault.{FolderFault}
pub use Rattle.sample_line.specs.Coder.{IsCodedAs}
pub use Rattle.sample_line.specs.Line.{Kept, LineStands, bits_behind, size_of}
pub use Rattle.sample_line.specs.Mode.{mode_of}
pub use Rattle.sample_line.specs.Outcomes.{IsOutcome}
pub use Rattle.sample_line.specs.Path.{LosesAt}
pub use Rattle.sample_line.specs.Recorded.{Records}
pub use Rattle.sample_line.specs.Signals.{signal_of}
pub use Rattle.scramblers.specs.declared.mode.Mode.{Mode}
pub use Rattle.shared_terms.specs.Both.{Both, of}
pub use Rattle.shared_terms.specs.Role.{other}
pub use Rattle.shared_terms.specs.declared.fault.LinkFault.{LinkFault}
pub use Rattle.shared_terms.specs.declared.role.Role.{Role}
pub use Rattle.shared_terms.specs.declared.role.Role.TheVariants.{Answerer, Originator}
pub use Rattle.stations.proofs.Offering.{no-fault}
pub use Rattle.stations.specs.Faults.{fault_of}
pub use Rattle.stations.specs.Station.{HearsAs, ReadsOn, SpeaksAs, Stands, Supplies, file_at}
pub use Rattle.stations.specs.declared.station.Station.{Station}
pub use Rattle.symbol_map.specs.declared.sample.Sample.{Sample}
pub use Rattle.turn_bound.specs.Limits.{file_limit}
pub use Rattle.xid_params.specs.Offers.{IsAllowed}
