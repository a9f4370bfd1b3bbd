-- What the proofs of this crate name of the crates below, of the definitions, and of std.
pub use Rattle.std.proofs.Common.{Bool, Err, List, None, Option, Result, Some, [], ap, append-nil, arith, drop, false, get_or, inl, inr}
pub use Rattle.std.proofs.Common.{length, length-append, length-set, map, nat_eq, refl, slice_index, slice_index_or, slice_set, subst, suc}
pub use Rattle.std.proofs.Common.{sym, take, true, zero, ℕ, ℤ, ◌%◌, ◌*◌, ◌++◌, ◌+◌, ◌-◌, ◌/◌, ◌<◌, ◌^◌, ◌∙◌, ◌∷◌, ◌≡◌, ◌≤◌}
pub use Rattle.std.proofs.Math.Seq.{take-add, take-append_seam}
pub use Rattle.std.proofs.lemmas.Bool.{cases_eq, cases_lt, eqb-true, false≢true}
pub use Rattle.std.proofs.lemmas.List.{append_assoc, get_or-append_right, get_or-set_other, get_or-set_same, get_or_append_left, length-map}
pub use Rattle.std.proofs.lemmas.List.{length-take-le, map-append, take-append-drop, take_all, take_more_set}
pub use Rattle.std.proofs.lemmas.Result.{err_from_is_err_and}
pub use Rattle.std.specs.Prelude.{option_to_list}
pub use Rattle.bit_stuffing.proofs.Halves.{octet-fours}
pub use Rattle.bit_stuffing.specs.BitSlot.{line_bits}
pub use Rattle.bit_stuffing.specs.Deframer.{DeframerStands}
pub use Rattle.bit_stuffing.specs.Found.{Found, listed, pieces_of}
pub use Rattle.bit_stuffing.specs.Sent.{wholes}
pub use Rattle.bit_stuffing.specs.SlotWriter.{WriterStands}
pub use Rattle.bit_stuffing.specs.Slots.{slot_bits}
pub use Rattle.bit_stuffing.specs.declared.piece.Piece.TheVariants.{Whole}
pub use Rattle.detection.specs.Patterns.{seen_at}
pub use Rattle.detection.specs.Reader.{ReaderStands}
pub use Rattle.detection.specs.Sights.{Sight, sights_at}
pub use Rattle.detection.specs.Slots.{Signal, signal_bits, slot_of, slots_of}
pub use Rattle.exact_decoder.specs.Decoder.{DecoderStands}
pub use Rattle.exact_decoder.specs.Surviving.Survivors.{LostIs}
pub use Rattle.exact_decoder.specs.Surviving.V32.{at_beginning, line_depth, line_trellis}
pub use Rattle.exact_decoder.specs.declared.decoder.Lost.{Lost}
pub use Rattle.frame_check.specs.Bits.{low_bits, octet_bits}
pub use Rattle.frame_check.specs.declared.check.Check.{Check}
pub use Rattle.lapm_frames.specs.declared.frame.Frame.{Frame}
pub use Rattle.lapm_frames.specs.declared.heard.Heard.{Heard}
pub use Rattle.lapm_frames.specs.declared.seen.Seen.{Seen}
pub use Rattle.lapm_frames.specs.declared.sent.Sent.{Sent}
pub use Rattle.line_coding.proofs.Fours.{quad-bits}
pub use Rattle.line_coding.specs.Modulates.{Modulates, ModulatorStands}
pub use Rattle.line_coding.specs.V32.{LineRead}
pub use Rattle.noise_script.specs.Script.{ScriptValue, offset_of}
pub use Rattle.sample_line.specs.Coder.{CoderStands, Coding, IsCodedAs, bits_in}
pub use Rattle.sample_line.specs.Hears.{Hears, HearsBetween, HearsSamples}
pub use Rattle.sample_line.specs.Line.{Kept, LineStands, Passes, bits_behind, decoder_of, sender_of, size_of}
pub use Rattle.sample_line.specs.Mode.{mode_of}
pub use Rattle.sample_line.specs.Outcomes.{IsOutcome, IsSilent, IsWhatWasSent}
pub use Rattle.sample_line.specs.Path.{Arrives, Carries, CarriesBetween, LosesAmong, LosesWithin}
pub use Rattle.sample_line.specs.Received.{FoundBetween, Gives, PassTheCheck}
pub use Rattle.sample_line.specs.Recorded.{Records, displaced, displaced_from, saturated}
pub use Rattle.sample_line.specs.Signals.{IsCodable, signal_of}
pub use Rattle.sample_line.specs.Tallies.{PatternsAreTallied, PiecesAreTallied, Tallies}
pub use Rattle.sample_line.specs.Transmits.{Transmits}
pub use Rattle.sample_line.specs.declared.hearer.Hearer.{Hearer}
pub use Rattle.sample_line.specs.declared.path.Path.{Path}
pub use Rattle.sample_line.specs.declared.tally.Tally.{Tally}
pub use Rattle.sample_line.specs.declared.tally.Tally.TheVariants.{Silent}
pub use Rattle.sample_line.specs.declared.transmitter.Transmitter.{Transmitter}
pub use Rattle.scramblers.proofs.Streams.{four-behind}
pub use Rattle.scramblers.specs.Mode.{tap_of}
pub use Rattle.scramblers.specs.declared.mode.Mode.{Mode}
pub use Rattle.shared_terms.specs.declared.role.Role.{Role}
pub use Rattle.symbol_map.specs.Points.{point_of}
pub use Rattle.symbol_map.specs.declared.sample.Sample.{Sample}
pub use Rattle.trellis_tables.specs.Table.{next_state}
