-- What the proofs of this crate name of the crates below, of the definitions, and of std.
pub use Rattle.std.proofs.Common.{Bool, Err, List, None, Ok, Option, Result, Some, [], ap, append-nil, append_assoc, arith, codes, cond}
pub use Rattle.std.proofs.Common.{decimal, drop, false, get_or, inl, inr, length, length-append, length-take, refl, rules, subst, suc, sym}
pub use Rattle.std.proofs.Common.{take, take-append-drop, true, zero, ℕ, ◌++◌, ◌+◌, ◌-◌, ◌<◌, ◌^◌, ◌∙◌, ◌∷◌, ◌≡◌, ◌≢◌, ◌≤◌, ◌⊎◌}
pub use Rattle.std.proofs.lemmas.Bool.{and_parts, cases_lt, not-false}
pub use Rattle.std.proofs.lemmas.Bool.Decides.{Decides-eqb, nat_tests}
pub use Rattle.std.proofs.lemmas.Fmt.{length-decimal-le}
pub use Rattle.std.proofs.lemmas.List.{take_all}
pub use Rattle.std.proofs.lemmas.Option.{same_Some}
pub use Rattle.std.proofs.lemmas.Slice.Eq.{bytes_eq-Decides}
pub use Rattle.std.specs.List.{list_all}
pub use Rattle.std.specs.Option.{option_and_then, option_map}
pub use Rattle.std.specs.Prelude.{IfSome, IsTrue, nat_le, ◌==◌}
pub use Rattle.std.specs.Str.{bytes_eq}
pub use Rattle.break_signals.specs.declared.word.BreakWord.{BreakWord}
pub use Rattle.break_signals.specs.declared.word.BreakWord.TheVariants.{Ack, Brk}
pub use Rattle.command_base.proofs.Jobs.{stop-earlier}
pub use Rattle.command_base.specs.Stops.{EndCounts, StopCounts}
pub use Rattle.command_base.specs.declared.status.Status.{Status}
pub use Rattle.command_base.specs.declared.stop.Stop.{Stop}
pub use Rattle.lapm_frames.specs.Parts.{parts_of_kind}
pub use Rattle.lapm_frames.specs.declared.frame.Frame.{Frame}
pub use Rattle.lapm_frames.specs.declared.heard.Heard.{Heard}
pub use Rattle.lapm_frames.specs.declared.heard.Heard.TheVariants.{Chance, Lost, Nothing, Passed}
pub use Rattle.lapm_frames.specs.declared.kind.FrameKind.{FrameKind}
pub use Rattle.lapm_frames.specs.declared.sent.Sent.{Sent}
pub use Rattle.line_ends.proofs.Sending.{SendLaws}
pub use Rattle.line_ends.specs.Plain.{AsksInOctets}
pub use Rattle.line_run.specs.Ends.{RunEnd}
pub use Rattle.line_run.specs.Names.{Written, outputs_of, written}
pub use Rattle.line_run.specs.Sampled.{LineRun}
pub use Rattle.line_run.specs.Scripted.{link_of, wire_of}
pub use Rattle.line_texts.specs.FrameText.{kind_word, number_word, poll_word}
pub use Rattle.line_texts.specs.LineText.{break_word, is_chance, line_begins}
pub use Rattle.line_texts.specs.declared.trace_line.TraceLine.{TraceLine}
pub use Rattle.line_world.proofs.Folders.{IsApart}
pub use Rattle.line_world.proofs.Reached.{knows-later}
pub use Rattle.line_world.specs.World.{KnowsFiles, WorldAfter, script_of, turn_of}
pub use Rattle.line_world.specs.declared.world.World.{World}
pub use Rattle.link_run.specs.Outcomes.{Going, Outcome}
pub use Rattle.link_run.specs.Run.{Turn, start}
pub use Rattle.link_run.specs.Trace.{trace_text, turn_text}
pub use Rattle.noise_script.proofs.Decimals.{at-most}
pub use Rattle.noise_script.specs.Numbers.{is_digit, plain_number}
pub use Rattle.noise_script.specs.Script.{IsInLimits, ScriptValue}
pub use Rattle.outside_calls.proofs.Steps.{CountsStand-refl, CountsStand-trans, OnlyReads-refl, OnlyReads-trans, octets-kept, told_later}
pub use Rattle.outside_calls.specs.Folder.{CountsStand, FolderState, OnlyReads, octets_at}
pub use Rattle.run_inputs.specs.declared.limits.TheConstants.{LIMITS}
pub use Rattle.shared_terms.specs.Both.{Both, of}
pub use Rattle.shared_terms.specs.Role.{role_word}
pub use Rattle.shared_terms.specs.declared.audit_cause.AuditCause.{AuditCause}
pub use Rattle.shared_terms.specs.declared.audit_cause.AuditCause.TheVariants.{End, Spelling}
pub use Rattle.shared_terms.specs.declared.role.Role.{Role}
pub use Rattle.shared_terms.specs.declared.role.Role.TheVariants.{Answerer, Originator}
pub use Rattle.trace_audit.specs.Compared.{Compared, HasWindow, IsFew, audited, trace_limit}
pub use Rattle.trace_audit.specs.Cutting.{behind, behind_labelled, behind_number, first_of, front_of, is_no_space, number_at, rest_of}
pub use Rattle.trace_audit.specs.Differences.{AreWhole, FirstDiffers, GoesOnWith, IsCut, LineDiffers, OwnDiffers, RestDiffers, StopsIn, fed}
pub use Rattle.trace_audit.specs.Differences.{is_no_feed, text_of}
pub use Rattle.trace_audit.specs.Ends.{Audits, Ends}
pub use Rattle.trace_audit.specs.Grammar.{AreInRange, Commanding, Exchanging, FrameWords, HasParts, IsBreak, IsFrameText, IsHeard, IsSent}
pub use Rattle.trace_audit.specs.Grammar.{IsSignal, Numbered, Rejecting, Responding, Shape, Supervisory, Unnumbered, adp, count_bound}
pub use Rattle.trace_audit.specs.Grammar.{count_word, flags, frame, information_word, lost, mark, none, nothing, number_bound, odp, passed}
pub use Rattle.trace_audit.specs.Grammar.{shape_named, shape_text, signal}
pub use Rattle.trace_audit.specs.Lines.{AreLines, ChancesHaveLines, TextsHaveLines, TurnsHaveLines, chance_words, trace_lines, turn_lines}
pub use Rattle.trace_audit.specs.Pieces.{behind_heard, behind_sent, behind_shape}
pub use Rattle.trace_audit.specs.Readable.{LinesAreRead, line_of}
pub use Rattle.trace_audit.specs.Reading.{chance_parts}
pub use Rattle.trace_audit.specs.Turns.{AreCompared, HasFew, IsReading, RunFound, RunIs, TurnMade, audit_inputs, found_end, held_by}
pub use Rattle.trace_audit.specs.Verdict.{DiffersIn, IsFound}
pub use Rattle.trace_audit.specs.Words.{AuditNames, files_of, inputs_of, named}
pub use Rattle.trace_audit.specs.Written.{IsReadable, IsReadableHeard, IsReadableSent, IsReadableSignal, parts_of_line, text_of_line}
pub use Rattle.trace_audit.specs.declared.comparison.Comparison.{Comparison}
pub use Rattle.trace_audit.specs.declared.comparison.Difference.{Difference}
pub use Rattle.trace_audit.specs.declared.line.LineText.{LineText}
pub use Rattle.turn_bound.specs.Limits.{file_limit}
