-- What the proofs of this crate name of the crates below, of the definitions, and of std.
pub use Rattle.std.proofs.Common.{All, Bool, Err, IsTrue, List, None, Ok, Option, Result, Some, [], ap, arith, cond, drop, false, inl, inr}
pub use Rattle.std.proofs.Common.{length, length-append, map, refl, slice_index, subst, suc, sym, take, true, zero, ℕ, ◌*◌, ◌++◌, ◌+◌, ◌-◌}
pub use Rattle.std.proofs.Common.{◌<◌, ◌∙◌, ◌∷◌, ◌≡◌, ◌≢◌, ◌≤◌, ◌⊎◌}
pub use Rattle.std.proofs.lemmas.Bool.{false≢true}
pub use Rattle.std.proofs.lemmas.List.{append-nil, map-append, take-append-drop, take_all}
pub use Rattle.std.proofs.lemmas.List.Elements.{All-cons, All-head, All-nil, All-tail}
pub use Rattle.std.specs.List.{flat_map}
pub use Rattle.bit_stuffing.specs.Found.{Found, pieces_of}
pub use Rattle.bit_stuffing.specs.Sent.{AreWholeOrAborted, wholes}
pub use Rattle.bit_stuffing.specs.Slots.Slot.{Flags, Plain}
pub use Rattle.bit_stuffing.specs.Tails.{LastPiecesAreFound}
pub use Rattle.bit_stuffing.specs.declared.piece.Piece.{Piece}
pub use Rattle.bit_stuffing.specs.declared.slot_writer.TheConstants.{HEAD, TAIL}
pub use Rattle.command_base.proofs.Headers.{content-same}
pub use Rattle.command_base.specs.Sound.{IsSound}
pub use Rattle.command_base.specs.declared.status.Status.{Status}
pub use Rattle.command_base.specs.declared.status.Status.TheVariants.{Done, NoMemory}
pub use Rattle.command_laws.specs.Pickups.{frames_sent}
pub use Rattle.command_laws.specs.Worked.Made.{Ends_run, Goes, IsMade, Next, Stops, Way, all_turns, both_said, crossing, heard_by, hearing}
pub use Rattle.command_laws.specs.Worked.Made.{made, next, runs, speaking, turn_with}
pub use Rattle.detection.specs.Slots.{Signal, signal_bits, slot_of, slots_of}
pub use Rattle.exact_decoder.specs.Surviving.Survivors.{LostIs}
pub use Rattle.exact_decoder.specs.Surviving.V32.{line_depth}
pub use Rattle.frame_check.specs.Octets.{AreOctets}
pub use Rattle.lapm_frames.specs.declared.heard.Heard.TheVariants.{Lost, Nothing, Passed}
pub use Rattle.lapm_frames.specs.declared.sent.Sent.{Sent}
pub use Rattle.line_coding.specs.Modulates.{Modulates}
pub use Rattle.line_ends.specs.Completes.{DisplacesNoneIsFaint, ScriptRunsTo}
pub use Rattle.line_run.specs.Ends.{Left, OneResult, RunEnd}
pub use Rattle.line_run.specs.Fitting.{AreFit}
pub use Rattle.line_run.specs.Sampled.{LineRun, bits_of, signals}
pub use Rattle.line_run.specs.Scripted.{link_of, wire_of}
pub use Rattle.line_tap.specs.Tapping.{Tapping, Tells, line_of, tapping}
pub use Rattle.link_account.specs.Account.{Account}
pub use Rattle.link_account.specs.Hear.{hear}
pub use Rattle.link_account.specs.Speak.{Said}
pub use Rattle.link_pair.specs.Pairs.Ends.{BothDone}
pub use Rattle.link_pair.specs.Pairs.Laws.{AreIsolated}
pub use Rattle.link_run.specs.Carried.{has_message, sent_ago}
pub use Rattle.link_run.specs.End.{is_closed}
pub use Rattle.link_run.specs.Outcomes.{TurnIs}
pub use Rattle.link_run.specs.Run.{Accounts, Hears, Link, RunOf, Spoken, Turn, arrival, said_at, start}
pub use Rattle.noise_script.specs.Grammar.{ScriptSpelling}
pub use Rattle.noise_script.specs.Laws.{BreaksAreOctets, ScriptsAreOne}
pub use Rattle.noise_script.specs.Script.{IsInLimits, ScriptValue, delay_of}
pub use Rattle.outside_calls.proofs.Steps.{octets-held}
pub use Rattle.outside_calls.specs.Folder.{FolderState, octets_at}
pub use Rattle.recordings.specs.Recording.{header_of, mode_number, sample_octets}
pub use Rattle.recordings.specs.Samples.{samples_in}
pub use Rattle.recordings.specs.declared.rate.Rate.{Rate}
pub use Rattle.recordings.specs.declared.rate.Rate.TheVariants.{Quarters, Trellis}
pub use Rattle.run_inputs.specs.Answers.{EndsRun}
pub use Rattle.run_inputs.specs.Words.{RunNames}
pub use Rattle.sample_line.specs.Mode.{mode_of}
pub use Rattle.scramblers.specs.Mode.{tap_of}
pub use Rattle.scramblers.specs.declared.mode.Mode.{Mode}
pub use Rattle.shared_terms.specs.Both.{Both, of}
pub use Rattle.shared_terms.specs.Prefix.{IsPrefixOf}
pub use Rattle.shared_terms.specs.declared.fault.LinkFault.{LinkFault}
pub use Rattle.shared_terms.specs.declared.role.Role.{Role}
pub use Rattle.shared_terms.specs.declared.role.Role.TheVariants.{Answerer, Originator}
pub use Rattle.signal_commands.specs.Decoding.Rates.{DemodulatesAt, trellis_at}
pub use Rattle.symbol_map.specs.declared.sample.Sample.{Sample}
