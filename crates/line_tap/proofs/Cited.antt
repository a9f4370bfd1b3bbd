-- What the proofs of this crate name of the crates below, of the definitions, and of std.
pub use Rattle.std.proofs.Common.{All, Bool, Err, IsTrue, List, None, Ok, Option, Result, Some, [], ap, append-nil, arith, cond, drop}
pub use Rattle.std.proofs.Common.{false, inl, inr, length, length-append, map, min, nat_eq, refl, rules, slice_index, subst, suc, sym, take}
pub use Rattle.std.proofs.Common.{true, zero, ℕ, ◌%◌, ◌*◌, ◌++◌, ◌+◌, ◌-◌, ◌/◌, ◌<◌, ◌^◌, ◌∙◌, ◌∷◌, ◌≡◌, ◌≤◌, ◌⊎◌}
pub use Rattle.std.proofs.Math.Nat.{mul-suc}
pub use Rattle.std.proofs.Math.Seq.{drop-append_seam, take-append_seam}
pub use Rattle.std.proofs.lemmas.Bool.{cases_lt, eqb-true, false≢true}
pub use Rattle.std.proofs.lemmas.Grind.{common_steps}
pub use Rattle.std.proofs.lemmas.List.{append_assoc, drop-map, length-map, length-take, length-take-le, map-append, take-append-drop}
pub use Rattle.std.proofs.lemmas.List.{take-append-le, take-map, take_all, take_more}
pub use Rattle.std.proofs.lemmas.List.Elements.{All-append, All-cons, All-head, All-nil, All-tail, All-take}
pub use Rattle.std.proofs.lemmas.List.Folds.{concat-append}
pub use Rattle.std.specs.List.{concat}
pub use Rattle.std.specs.Option.{option_map}
pub use Rattle.std.specs.Prelude.{IfNone, IfSome, is_some, ◌&&◌, ◌||◌}
pub use Rattle.std.specs.Result.{result_ok}
pub use Rattle.bit_stuffing.proofs.Fill.{phase-low}
pub use Rattle.bit_stuffing.proofs.Found.{pieces-none}
pub use Rattle.bit_stuffing.proofs.Written.{length-line_bits}
pub use Rattle.bit_stuffing.specs.BitSlot.{line_bits}
pub use Rattle.bit_stuffing.specs.Deframer.{DeframerStands, Kept}
pub use Rattle.bit_stuffing.specs.Flags.{bit_of}
pub use Rattle.bit_stuffing.specs.Found.{Found, lent_of, pieces_of}
pub use Rattle.bit_stuffing.specs.Sent.{wholes}
pub use Rattle.bit_stuffing.specs.SlotWriter.{WriterStands}
pub use Rattle.bit_stuffing.specs.Slots.{next_phase, opening, phase_after, rest_of_flag, slot_bits}
pub use Rattle.bit_stuffing.specs.Stuffing.{stuffed}
pub use Rattle.bit_stuffing.specs.declared.slot_writer.TheConstants.{HEAD, TAIL}
pub use Rattle.command_base.proofs.Jobs.{end-earlier, last-only, stop-earlier}
pub use Rattle.command_base.proofs.Reading.{ReadTo-kept}
pub use Rattle.command_base.specs.Inputs.{ReadTo}
pub use Rattle.command_base.specs.Job.{Answers}
pub use Rattle.command_base.specs.Lines.{turns_line}
pub use Rattle.command_base.specs.declared.status.Status.{Status}
pub use Rattle.command_base.specs.declared.status.Status.TheVariants.{BadTap, ChanceMatch, LineLost}
pub use Rattle.command_base.specs.declared.stop.Stop.{Stop}
pub use Rattle.command_base.specs.declared.stop.Stop.TheVariants.{NoMemory, Own, Read, Say, Write}
pub use Rattle.detection.specs.Patterns.{ones}
pub use Rattle.detection.specs.Slots.{Signal, signal_bits, slot_of, slots_of}
pub use Rattle.detection.specs.Slots.Signal.{FlagSlot}
pub use Rattle.frame_check.specs.Bits.{low_bits}
pub use Rattle.frame_check.specs.Division.{with_check}
pub use Rattle.frame_check.specs.Octets.{AreOctets}
pub use Rattle.frame_check.specs.declared.check.Check.{Check}
pub use Rattle.frame_check.specs.declared.check.Check.TheVariants.{Sixteen}
pub use Rattle.lapm_frames.specs.Checked.{SpellsFrame, checked}
pub use Rattle.lapm_frames.specs.Frame.{address_of, control_octet, has_number, information_of, spelled, tail_octets}
pub use Rattle.lapm_frames.specs.Parts.{parts_of}
pub use Rattle.lapm_frames.specs.Sendable.{IsSendable}
pub use Rattle.lapm_frames.specs.declared.frame.Frame.{Frame}
pub use Rattle.lapm_frames.specs.declared.frame.Frame.TheVariants.{I, Ui}
pub use Rattle.lapm_frames.specs.declared.heard.Heard.{Heard}
pub use Rattle.lapm_frames.specs.declared.heard.Heard.TheVariants.{Chance, Passed}
pub use Rattle.lapm_frames.specs.declared.sent.Sent.{Sent}
pub use Rattle.lapm_receiver.specs.Incoming.{Incoming, KeepsTaken}
pub use Rattle.lapm_receiver.specs.Taking.{StandsIn, Taking}
pub use Rattle.line_coding.specs.Demodulates.{Demodulates, DemodulatorStands}
pub use Rattle.line_coding.specs.Modulates.{Modulates}
pub use Rattle.line_coding.specs.declared.demodulator.Demodulator.{Demodulator}
pub use Rattle.line_ends.proofs.Deciding.{Decided}
pub use Rattle.line_run.proofs.Bits.{signals-more}
pub use Rattle.line_run.specs.Ends.{Left}
pub use Rattle.line_run.specs.Fitting.{AreFit}
pub use Rattle.line_run.specs.Laws.{CodableFits, CodableIsSendable, OneMoreFits, SlotsTellWhatWasSent, SpelledInOctets}
pub use Rattle.line_run.specs.Sampled.{HeardAt, HeardIn, IsHeardOf, IsHeardWell, LineEnd, Wire, bits_of, signals}
pub use Rattle.line_run.specs.Scripted.{ScriptsHaveDelays, SlotsHaveRoom}
pub use Rattle.line_run.specs.Stream.{both_sent_by, sent_by}
pub use Rattle.line_tap.specs.End.{ReadsNext, ReadsOn, Slot, slot_as}
pub use Rattle.line_tap.specs.EndListener.{IsIdle, Listens, Overhears, delivered}
pub use Rattle.line_tap.specs.Ends.{EndsBy, EndsLine, EndsOnLine, EndsWhole, IsDone, IsFirstRefused, LastHears, Leaves, TapEnd}
pub use Rattle.line_tap.specs.Headers.{HasNoHeader, IsNotHeader}
pub use Rattle.line_tap.specs.Labels.{AreLabels, NoStep, ReadsLabels}
pub use Rattle.line_tap.specs.Laws.{TellsOnce}
pub use Rattle.line_tap.specs.Names.{TapNames, inputs_of, named, outputs_of, recording_of, recordings_of}
pub use Rattle.line_tap.specs.Outcomes.{Ends, IsBegun, IsRefused, Tapped, tap_job}
pub use Rattle.line_tap.specs.Reader.{IsNext, ReaderStands, ReadsFor, ReadsSlot, carries}
pub use Rattle.line_tap.specs.Reading.{IsGuess, is_plain, plain_bits}
pub use Rattle.line_tap.specs.Seeking.{AreBitsOf, CanBeSent, EndsAt, EndsFirst, FindsSent, IsAt, part}
pub use Rattle.line_tap.specs.Tap.{AreReadOut, AreReadTo, EndsInTurn, EndsReading, GoesOnBy, HearsSo, HearsThese, InTurn, IsBehind, IsReady}
pub use Rattle.line_tap.specs.Tap.{IsToGo, ReadsToo, StopsInTurn, StopsReadingIn, TapAfter, going_in, silent_in, slots_as, turn_in}
pub use Rattle.line_tap.specs.Tapping.{GoesOn, Hears, HoldsNext, Sends, Tapping, Tells, line_of, next_bits, octets_of, phase_behind}
pub use Rattle.line_tap.specs.Tapping.{tapping, terms_of, told}
pub use Rattle.line_tap.specs.Turn.{AddsGot, added, got_in, left_of, no_octets}
pub use Rattle.line_tap.specs.declared.listener.EndListener.{EndListener}
pub use Rattle.line_tap.specs.declared.reader.SlotReader.{SlotReader}
pub use Rattle.line_tap.specs.declared.seeker.Seeker.{Seeker}
pub use Rattle.line_tap.specs.declared.tapping.Hearing.{Hearing}
pub use Rattle.line_tap.specs.declared.tapping.Tap.{Tap}
pub use Rattle.line_texts.specs.LineText.{chance_line}
pub use Rattle.line_world.specs.Faults.{end_of}
pub use Rattle.line_world.specs.Lines.{AreWaiting}
pub use Rattle.line_world.specs.Turns.{held_of}
pub use Rattle.link_run.proofs.Overhearing.{AllChecked}
pub use Rattle.link_run.specs.Laws.{given_breaks, given_in}
pub use Rattle.link_run.specs.Listened.{check_by, given_by, given_by_word, given_to, judged_by, received, taking_in}
pub use Rattle.link_run.specs.Overheard.{has_passed, is_xid, opens}
pub use Rattle.link_run.specs.Run.{IsSilent, Side, Spoken, Turn}
pub use Rattle.link_run.specs.Trace.{side_line, trace_text, turn_text}
pub use Rattle.noise_script.specs.Script.{IsInLimits, ScriptValue, delay_of}
pub use Rattle.outside_calls.proofs.OnlyOutputs.{OnlyOutputs-trans}
pub use Rattle.outside_calls.proofs.Putting.{AddEach-next, AddPart-next, HoldEach-kept, KeepsEach-reads, OnlyPuts-one, OnlyPuts-refl}
pub use Rattle.outside_calls.proofs.Putting.{OnlyPuts-trans, inputs-kept}
pub use Rattle.outside_calls.proofs.Steps.{CountsStand-refl, CountsStand-trans, OnlyReads-trans}
pub use Rattle.outside_calls.specs.Folder.{Appended, CountsStand, FolderState, OnlyReads, OnlyWrites, PartlyAppended, octets_at}
pub use Rattle.outside_calls.specs.Outputs.{AreApartFrom, HoldEach, KeepsAll, KeepsEach, OnlyOutputs, OnlyPuts, SomeRose}
pub use Rattle.recordings.specs.Recording.{header_of}
pub use Rattle.recordings.specs.Samples.{sample_at, sample_of, samples_in}
pub use Rattle.recordings.specs.declared.header.TheConstants.{HEADER}
pub use Rattle.run_inputs.specs.Inputs.{RefusesOwn}
pub use Rattle.run_inputs.specs.declared.limits.Limits.{Limits}
pub use Rattle.sample_line.proofs.Once.{carried, same-behind, tap-some}
pub use Rattle.sample_line.specs.Coder.{IsCodedAs}
pub use Rattle.sample_line.specs.Line.{bits_behind}
pub use Rattle.sample_line.specs.Mode.{mode_of}
pub use Rattle.sample_line.specs.Signals.{IsCodable, signal_of}
pub use Rattle.sample_line.specs.declared.framing.Framing.{Framing}
pub use Rattle.scramblers.proofs.Readings.{Descrambles_once}
pub use Rattle.scramblers.specs.Mode.{tap_of}
pub use Rattle.scramblers.specs.declared.mode.Mode.{Mode}
pub use Rattle.scramblers.specs.declared.mode.Mode.TheVariants.{Answer, Call}
pub use Rattle.shared_terms.specs.Both.{Both, of}
pub use Rattle.shared_terms.specs.Role.{other}
pub use Rattle.shared_terms.specs.declared.role.Role.{Role}
pub use Rattle.shared_terms.specs.declared.role.Role.TheVariants.{Answerer, Originator}
pub use Rattle.symbol_map.specs.Finite.{at_each, each_below}
pub use Rattle.symbol_map.specs.Laws.{NoDistanceIsEqual, PointsDiffer}
pub use Rattle.symbol_map.specs.Points.{point_of}
pub use Rattle.symbol_map.specs.declared.sample.Sample.{Sample}
pub use Rattle.trellis_tables.proofs.Sequences.{Leads_once}
pub use Rattle.trellis_tables.specs.Sequences.{Leads}
pub use Rattle.trellis_tables.specs.Table.{next_state}
pub use Rattle.xid_params.specs.Terms.{agree}
pub use Rattle.xid_params.specs.declared.terms.Terms.{Terms}
