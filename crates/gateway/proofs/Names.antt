-- What the proofs of this crate name of the crates below, of the definitions, and of std.
pub use Rattle.std.proofs.Common.{Bool, Err, List, None, Ok, Option, Result, Some, [], ap, append-nil, append_assoc, arith, cond, drop}
pub use Rattle.std.proofs.Common.{false, get_or, get_or-set_other, get_or-set_same, inl, inr, length, length-append, length-set, map}
pub use Rattle.std.proofs.Common.{nat_eq, pos, refl, rules, set, subst, suc, sym, take, true, zero, ℕ, ℤ, ◌%◌, ◌*◌, ◌++◌, ◌+◌, ◌-◌, ◌/◌}
pub use Rattle.std.proofs.Common.{◌<◌, ◌∙◌, ◌∷◌, ◌≡◌, ◌≤◌, ◌⊎◌}
pub use Rattle.std.proofs.lemmas.List.{length-take-le, take-append-drop, take-append-le, take-map, take_all, take_more}
pub use Rattle.std.specs.List.{flat_map}
pub use Rattle.std.specs.Prelude.{is_some}
pub use Rattle.bit_stuffing.specs.BitSlot.{line_bits}
pub use Rattle.bit_stuffing.specs.Deframer.{DeframerStands}
pub use Rattle.bit_stuffing.specs.Found.{answer_of, pieces_of}
pub use Rattle.bit_stuffing.specs.Slots.{opening, slot_bits}
pub use Rattle.bit_stuffing.specs.Slots.Slot.{Flags}
pub use Rattle.detection.specs.Reader.{ReaderStands}
pub use Rattle.detection.specs.Slots.{Signal, slots_of}
pub use Rattle.exact_decoder.specs.Decoder.{DecoderStands}
pub use Rattle.exact_decoder.specs.Surviving.Survivors.{IsReleased, LostIs}
pub use Rattle.exact_decoder.specs.Surviving.V32.{at_beginning}
pub use Rattle.frame_check.specs.Bits.{bits_of, low_bits}
pub use Rattle.gateway.specs.Decoded.{HasDecoded}
pub use Rattle.gateway.specs.Decoding.{decoding_of}
pub use Rattle.gateway.specs.Encoded.{HasEncoded}
pub use Rattle.gateway.specs.Endpoints.{HeardAs, SaysAs}
pub use Rattle.gateway.specs.Given.{AreBits, given, heard, samples_in}
pub use Rattle.gateway.specs.Reads.{Read, ReadsAs}
pub use Rattle.gateway.specs.SignalLaws.{FollowsSent}
pub use Rattle.gateway.specs.Turns.{Arrives, told_as}
pub use Rattle.gateway.specs.declared.any_reader.AnyReader.{AnyReader}
pub use Rattle.gateway.specs.declared.any_reader.LineKind.{LineKind}
pub use Rattle.gateway.specs.declared.encoder.SampleEncoder.{SampleEncoder}
pub use Rattle.gateway.specs.declared.turns.Carried.{Carried}
pub use Rattle.gateway.specs.declared.turns.Told.{Told}
pub use Rattle.lapm_frames.specs.Frame.{has_number}
pub use Rattle.lapm_frames.specs.Sendable.{IsSendable}
pub use Rattle.lapm_link.specs.Stands.{StandsFor}
pub use Rattle.lapm_link.specs.declared.any_end.AnyEnd.{AnyEnd}
pub use Rattle.line_coding.proofs.Readings.{first-stay, four-each}
pub use Rattle.line_coding.specs.Demodulates.{Demodulates, DemodulatorStands, line_of}
pub use Rattle.line_coding.specs.Reading.{Reading, SamplesRead}
pub use Rattle.link_account.proofs.Names.{Account, Answerer, Arrived, Check, Frame, KeepsTaken, Originator, Role, Said, Sent, Slot, arrives}
pub use Rattle.link_account.proofs.Names.{check_of, false≢true, fresh, hear, other, speak}
pub use Rattle.link_account.proofs.SpeakWays.{linked-alike, tries-alike}
pub use Rattle.link_account.specs.Laws.{has_begun}
pub use Rattle.link_account.specs.declared.phase.Phase.{Phase}
pub use Rattle.link_account.specs.declared.phase.Phase.TheVariants.{Closed, Connected, Detecting, Establishing, Negotiating, Releasing}
pub use Rattle.link_account.specs.declared.setup.Setup.{Setup}
pub use Rattle.noise_bound.proofs.Margins.{distances-cost}
pub use Rattle.noise_bound.proofs.NoiselessCosts.{length-points}
pub use Rattle.noise_bound.specs.Margins.{distances}
pub use Rattle.noise_bound.specs.Near.{IsNear}
pub use Rattle.scramblers.proofs.Readings.{Descrambles_once}
pub use Rattle.scramblers.specs.Mode.{tap_of}
pub use Rattle.scramblers.specs.Scrambles.{Descrambles}
pub use Rattle.scramblers.specs.declared.mode.Mode.{Mode}
pub use Rattle.shared_terms.specs.Prefix.{IsPrefixOf}
pub use Rattle.symbol_map.specs.Points.{point_of}
pub use Rattle.symbol_map.specs.declared.sample.Sample.{Sample}
pub use Rattle.trellis_tables.specs.Laws.{far_from}
pub use Rattle.trellis_tables.specs.Sequences.{Leads, cost}
pub use Rattle.trellis_tables.specs.Table.{next_state}
