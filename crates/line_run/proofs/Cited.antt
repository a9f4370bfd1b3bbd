-- What several proofs here name of the crates below.
pub use Rattle.std.proofs.Common.{All, Bool, List, None, Option, Some, [], ap, append-nil, append_assoc, arith, cond, drop, false, filter}
pub use Rattle.std.proofs.Common.{length, length-append, map, refl, subst, suc, sym, take, true, zero, ℕ, ◌&&◌, ◌*◌, ◌++◌, ◌+◌, ◌-◌, ◌/◌}
pub use Rattle.std.proofs.Common.{◌<◌, ◌∙◌, ◌∷◌, ◌≡◌, ◌≢◌, ◌≤◌}
pub use Rattle.std.proofs.Math.Nat.{mul-suc, mul_assoc}
pub use Rattle.std.proofs.Math.Seq.{drop-append_seam, take-append_seam}
pub use Rattle.std.proofs.lemmas.List.{length-drop, map-append}
pub use Rattle.std.proofs.lemmas.List.Elements.{All-append, All-cons, All-head, All-nil, All-tail}
pub use Rattle.std.specs.List.{AllByRecursion}
pub use Rattle.std.specs.Prelude.{is_some, slice_get}
pub use Rattle.bit_stuffing.proofs.Sent.{pieces-stay}
pub use Rattle.bit_stuffing.proofs.Sizes.{length-slot_bits}
pub use Rattle.bit_stuffing.specs.Found.{Found, pieces_of}
pub use Rattle.bit_stuffing.specs.Sent.{FoundIn, wholes}
pub use Rattle.bit_stuffing.specs.Slots.{AreSlots, IsPlain, IsSlot, Slot, bits_from, flags, flags_behind, framed, next_phase, opening}
pub use Rattle.bit_stuffing.specs.Slots.{phase_after, phase_from, rest_of_flag, sent_bits, slot_bits}
pub use Rattle.bit_stuffing.specs.declared.slot_writer.TheConstants.{TAIL}
pub use Rattle.detection.specs.Sights.{Sight, SightsAdded, seen_in, sights_from, sights_of}
pub use Rattle.detection.specs.Slots.{Signal, pattern_bits, signal_bits, slot_of, slots_of}
pub use Rattle.detection.specs.Slots.Signal.{FlagSlot, MarkSlot, PatternSlot}
pub use Rattle.exact_decoder.proofs.Surviving.Fronts.{lost-once, lost-stays}
pub use Rattle.exact_decoder.specs.Surviving.Survivors.{IsReleased, LostIs}
pub use Rattle.exact_decoder.specs.Surviving.V32.{line_depth, line_trellis}
pub use Rattle.frame_check.specs.declared.check.Check.{Check}
pub use Rattle.lapm_frames.proofs.Checking.{spells}
pub use Rattle.lapm_frames.specs.Checked.{SpellsFrame, check_for, checked}
pub use Rattle.lapm_frames.specs.Frame.{IsFrame, information_of, spelled}
pub use Rattle.lapm_frames.specs.Sendable.{IsSendable}
pub use Rattle.lapm_frames.specs.declared.frame.Frame.{Frame}
pub use Rattle.lapm_frames.specs.declared.heard.Heard.{Heard}
pub use Rattle.lapm_frames.specs.declared.heard.Heard.TheVariants.{Chance}
pub use Rattle.lapm_frames.specs.declared.seen.Seen.{Seen}
pub use Rattle.lapm_frames.specs.declared.sent.Sent.{Sent}
pub use Rattle.line_coding.proofs.Readings.{comes-back, first-stay, four-each}
pub use Rattle.line_coding.specs.Demodulates.{Demodulates}
pub use Rattle.line_run.specs.Ends.{ChanceMatch, DoneLeavesWhole, EndsBy, EndsInTurn, EndsOnLine, IsDone, Leaves, Left, LineLost, LinkLost}
pub use Rattle.line_run.specs.Ends.{MayRun, NotDetected, OneResult, RunEnd, RunsLeavePrefixes, RunsLeaveWhatPassed, RunsTo}
pub use Rattle.line_run.specs.Faint.{IsFaintBefore, squares_from, squares_of}
pub use Rattle.line_run.specs.Fitting.{AreFit, Fits, OfOctets}
pub use Rattle.line_run.specs.Laws.{FewOctetsBesidesInformation, HeardIsSentWhere, NeverLostWhere, PassesUnhinderedWhere}
pub use Rattle.line_run.specs.Laws.{ReceivedIsSentWhere, SentIsReceivedWhere, ShortIsCodable, SlotsTellWhatWasSent, UndisplacedIsFaint}
pub use Rattle.line_run.specs.LineLaws.{EndsOrGoesOn, EndsOrIsHeard, HeardOnce, LoneSlotsAreCounted, LoneSlotsAreDue, OneIsCarried}
pub use Rattle.line_run.specs.LineLaws.{OneLineEnd, OneLineEndBy, OneLineRun, SamplesAreCarried}
pub use Rattle.line_run.specs.Sampled.{ArrivesAs, EndsLine, HeardIn, IsAlone, IsHeardOf, IsHeardOver, IsHeardWell, LineEnd, LineRun}
pub use Rattle.line_run.specs.Sampled.{LosesLine, Wire, and_then, bits_before, bits_of, signal_in, signals, signals_before}
pub use Rattle.line_run.specs.Scripted.{BreaksAreTheScripts, PausesAreTheScripts, ScriptsHaveDelays, ScriptsMayPlay, SlotsAreCodable}
pub use Rattle.line_run.specs.Scripted.{SlotsHaveRoom, break_line, busy_line, link_of, longest_of, period_of, slot_symbols}
pub use Rattle.line_run.specs.Unhindered.{ChecksAgree, DisplacesNoneBefore, octets_in, patterns_in, unhindered}
pub use Rattle.link_run.proofs.Only.{hearing-of}
pub use Rattle.link_run.specs.Carried.{Crosses, IsCarried, has_message, sent_ago, sent_in}
pub use Rattle.link_run.specs.Laws.{DoneIsWhole, HearsPrefixes, HearsWhatPassed, HoldPrefixes, OneOutcome, OneRun, RunsOver, SendsShort}
pub use Rattle.link_run.specs.Laws.{TakesPrefixes, TakesWhatPassed, agreed_srej, heard_in}
pub use Rattle.link_run.specs.Outcomes.{Done, Outcome, TurnIs}
pub use Rattle.link_run.specs.Run.{Accounts, GoingTurn, Hears, Link, RunOf, Spoken, Turn}
pub use Rattle.noise_bound.proofs.NoiselessCosts.{length-points}
pub use Rattle.noise_script.specs.Offsets.{covers}
pub use Rattle.noise_script.specs.Script.{IsInLimits, IsShort, ScriptValue, delay_of, offset_of}
pub use Rattle.noise_script.specs.declared.entry.Break.{Break}
pub use Rattle.noise_script.specs.declared.entry.Pause.{Pause}
pub use Rattle.sample_line.proofs.Once.{recordings-grow, tap-some}
pub use Rattle.sample_line.proofs.Passing.{slot-added}
pub use Rattle.sample_line.specs.Line.{Kept, Passes, PassesSlot, bits_behind, sender_of, size_of}
pub use Rattle.sample_line.specs.Mode.{mode_of}
pub use Rattle.sample_line.specs.Outcomes.{IsOutcome}
pub use Rattle.sample_line.specs.Path.{LosesAt, LosesWithin}
pub use Rattle.sample_line.specs.Received.{Receives}
pub use Rattle.sample_line.specs.Recorded.{Records, displaced, displaced_from, saturated}
pub use Rattle.sample_line.specs.Signals.{IsCodable, signal_of}
pub use Rattle.scramblers.specs.Mode.{tap_of}
pub use Rattle.shared_terms.specs.Both.{Both, of}
pub use Rattle.shared_terms.specs.Prefix.{IsPrefixOf}
pub use Rattle.shared_terms.specs.Role.{other, same_role}
pub use Rattle.shared_terms.specs.declared.role.Role.{Role}
pub use Rattle.shared_terms.specs.declared.role.Role.TheVariants.{Answerer, Originator}
pub use Rattle.symbol_map.specs.Points.{map_points, plus, point_of}
pub use Rattle.symbol_map.specs.declared.sample.Sample.{Sample}
