-- What the proofs of this crate name of the crates below, of the definitions, and of std.
pub use Rattle.std.proofs.Common.{Bool, Err, IsTrue, List, None, Ok, Option, Result, Some, [], ap, append-nil, append_assoc, arith, drop}
pub use Rattle.std.proofs.Common.{inl, inr, length, length-append, map, min, nat_eq, refl, rules, slice_index, string_bytes, subst, suc}
pub use Rattle.std.proofs.Common.{sum, sym, take, true, zero, ℕ, ◌%◌, ◌*◌, ◌++◌, ◌+◌, ◌-◌, ◌/◌, ◌<◌, ◌^◌, ◌∙◌, ◌∷◌, ◌≡◌, ◌≢◌, ◌≤◌, ◌⊎◌}
pub use Rattle.std.proofs.Math.Seq.{take-append_seam}
pub use Rattle.std.proofs.lemmas.Grind.{flat_map-append}
pub use Rattle.std.proofs.lemmas.List.{length-take, length-take-le, map-append, take-append-drop, take-append-le, take_all, take_more}
pub use Rattle.std.proofs.lemmas.List.Elements.{All-push}
pub use Rattle.std.specs.List.{flat_map}
pub use Rattle.std.specs.Option.{option_map}
pub use Rattle.bit_stuffing.proofs.Sent.{pieces-stay}
pub use Rattle.bit_stuffing.specs.Found.{Found, pieces_of}
pub use Rattle.command_base.proofs.Behind.{GoesOnBy, behind-kept, behind-none, reads-all, reads-first}
pub use Rattle.command_base.proofs.Differing.{none-of-inputs}
pub use Rattle.command_base.proofs.Headers.{content-same, never-bad, never-longer}
pub use Rattle.command_base.proofs.Hearing.{says-trans}
pub use Rattle.command_base.proofs.Jobs.{IsDone, answers-done, answers-stopped, done-of, done-unless-memory, end-earlier, last-only}
pub use Rattle.command_base.proofs.Jobs.{refusal-own, shared-of, stop-earlier, write-earlier}
pub use Rattle.command_base.proofs.Reading.{ReadTo-kept, ReadTo-none}
pub use Rattle.command_base.specs.Apart.{are_apart}
pub use Rattle.command_base.specs.Heard.{Heard, PartlyHeard}
pub use Rattle.command_base.specs.Inputs.{IsNotWithin, IsWithin, ReadTo}
pub use Rattle.command_base.specs.Job.{Answers}
pub use Rattle.command_base.specs.Lines.{margin_line}
pub use Rattle.command_base.specs.Recordings.{IsNotOpened, ReadBehind, ReadsRecording, hearer_of}
pub use Rattle.command_base.specs.Status.{IsRefusal}
pub use Rattle.command_base.specs.Stops.{StopCounts, end_status}
pub use Rattle.command_base.specs.declared.limits.TheConstants.{RECORDING_LIMIT}
pub use Rattle.command_base.specs.declared.samples.TheConstants.{PIECE}
pub use Rattle.command_base.specs.declared.status.Status.{Status}
pub use Rattle.command_base.specs.declared.stop.Stop.{Stop}
pub use Rattle.command_base.specs.declared.stop.Stop.TheVariants.{Own, Read, Say, Write}
pub use Rattle.exact_decoder.proofs.Surviving.Fronts.{lost-stays, stays-prefix}
pub use Rattle.exact_decoder.proofs.Surviving.Least.{released-is_least, some-released}
pub use Rattle.exact_decoder.proofs.Surviving.V32.{any-has-laws}
pub use Rattle.exact_decoder.specs.Batches.{heard_of}
pub use Rattle.exact_decoder.specs.Decoder.{Decoding, heard}
pub use Rattle.exact_decoder.specs.Surviving.Survivors.{IsReleased, LostIs}
pub use Rattle.exact_decoder.specs.Surviving.V32.{any_trellis, line_depth}
pub use Rattle.frame_check.specs.Bits.{bits_of, low_bits, number, octet_bits}
pub use Rattle.line_coding.proofs.Middle.{picked_up_once}
pub use Rattle.line_coding.proofs.Readers.{descrambled, descrambles}
pub use Rattle.line_coding.proofs.Standing.{demodulated}
pub use Rattle.line_coding.specs.MiddleReading.{Middle, MiddleRead}
pub use Rattle.line_coding.specs.Modulates.{Modulates}
pub use Rattle.line_coding.specs.PickedUp.{IsPickedUp, line_behind}
pub use Rattle.noise_bound.specs.Margins.{MarginStands, Measured}
pub use Rattle.outside_calls.proofs.Holding.{Holds-kept, Holds-more, HoldsFront-all, HoldsFront-longer, HoldsFront-more}
pub use Rattle.outside_calls.proofs.OnlyOutputs.{OnlyOutput-reads, OnlyOutput-trans, OnlyOutput-writes, OnlyOutputs-one, OnlyOutputs-reads}
pub use Rattle.outside_calls.proofs.OnlyOutputs.{OnlyOutputs-trans}
pub use Rattle.outside_calls.proofs.Steps.{CountsStand-refl, CountsStand-trans, GoesOn-refl, KeepsName-trans, OnlyReads-trans}
pub use Rattle.outside_calls.specs.Folder.{Appended, CountsStand, FolderState, GoesOn, KeepsName, OnlyReads, OnlySays, OnlyWrites}
pub use Rattle.outside_calls.specs.Folder.{PartlyAppended, octets_at}
pub use Rattle.outside_calls.specs.Outputs.{Holds, HoldsFront, KeepsAll, OnlyOutput, OnlyOutputs}
pub use Rattle.recordings.proofs.Octets.{count-more, length-more, two-more}
pub use Rattle.recordings.proofs.Samples.{samples_in-all, samples_in-append, samples_in-front, samples_in-more, samples_in-split}
pub use Rattle.recordings.specs.Headers.{IsBadHeader}
pub use Rattle.recordings.specs.Recording.{header_at, header_of, sample_octets}
pub use Rattle.recordings.specs.Samples.{sample_at, samples_in}
pub use Rattle.recordings.specs.declared.header.TheConstants.{HEADER}
pub use Rattle.recordings.specs.declared.rate.Rate.{Rate}
pub use Rattle.recordings.specs.declared.rate.Rate.TheVariants.{Quarters, Trellis}
pub use Rattle.scramblers.proofs.Streams.{Scrambles-more}
pub use Rattle.scramblers.specs.Mode.{tap_of}
pub use Rattle.scramblers.specs.Scrambles.{Descrambles, Scrambles}
pub use Rattle.scramblers.specs.declared.mode.Mode.{Mode}
pub use Rattle.shared_terms.specs.Prefix.{IsPrefixOf}
pub use Rattle.shared_terms.specs.declared.limits.TheConstants.{FILE_LIMIT}
pub use Rattle.shared_terms.specs.declared.role.Role.{Role}
pub use Rattle.signal_commands.specs.Decoding.Ends.{DecodesFront, EndsOwn, IsFollowed, RecordingLost, SampleCut}
pub use Rattle.signal_commands.specs.Decoding.Octets.{AreWholeOctets, Carries, OctetsJoined, bits_in}
pub use Rattle.signal_commands.specs.Decoding.Played.{LosesWithin, PlayedTo}
pub use Rattle.signal_commands.specs.Decoding.Playing.{Hears, LabelsJoined, ReadToEnd, ReadsAt, decoding_of}
pub use Rattle.signal_commands.specs.Decoding.Rates.{DemodulatesAt, line_at, trellis_at}
pub use Rattle.signal_commands.specs.Decoding.Words.{DecodeNames, named}
pub use Rattle.signal_commands.specs.Encoding.Ends.{LeavesPart, WritesAll}
pub use Rattle.signal_commands.specs.Encoding.Recorded.{Begun, RecordedTo}
pub use Rattle.signal_commands.specs.Encoding.Recorder.{IsRecordingOf, RecorderStands}
pub use Rattle.signal_commands.specs.Encoding.Words.{EncodeNames}
pub use Rattle.signal_commands.specs.Margins.Ends.{Measures}
pub use Rattle.signal_commands.specs.Margins.Ends.EndsOwn.{is_misfit}
pub use Rattle.signal_commands.specs.Margins.Ends.FailsToRead.{one_unread}
pub use Rattle.signal_commands.specs.Margins.Measuring.{MeasuredTo, Opened}
pub use Rattle.signal_commands.specs.Margins.Words.{MarginNames, inputs_of}
pub use Rattle.signal_commands.specs.PickingUp.Ends.{PicksUpAll}
pub use Rattle.signal_commands.specs.PickingUp.Ends.EndsOwn.{is_cut, is_long, is_lost, is_other}
pub use Rattle.signal_commands.specs.PickingUp.Gives.{AreFollowed, SaysPieces}
pub use Rattle.signal_commands.specs.PickingUp.Playing.{IsReady, Playing, Plays, StopsPlay, playing_of}
pub use Rattle.signal_commands.specs.declared.decode.octet_joiner.Bits.{Bits}
pub use Rattle.signal_commands.specs.declared.decode.playback.Playback.{Playback}
pub use Rattle.signal_commands.specs.declared.decode.rate_reader.RateReader.{RateReader}
pub use Rattle.signal_commands.specs.declared.encode.recorder.Recorder.{Recorder}
pub use Rattle.symbol_map.specs.Points.{point_of}
pub use Rattle.symbol_map.specs.declared.sample.Sample.{Sample}
pub use Rattle.trellis_tables.proofs.Readings.{quads_of-take}
pub use Rattle.trellis_tables.proofs.Turning.Places.{turned-snoc}
pub use Rattle.trellis_tables.specs.LabelReader.{quads_of}
pub use Rattle.trellis_tables.specs.Sequences.{Leads}
pub use Rattle.trellis_tables.specs.Table.{next_state}
