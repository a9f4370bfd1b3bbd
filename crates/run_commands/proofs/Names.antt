-- What the proofs of this crate name of the crates below, of the definitions, and of std.
pub use Rattle.std.proofs.Common.{Bool, Err, IsTrue, List, None, Ok, Option, Result, Some, [], ap, append_assoc, arith, false, inl, inr}
pub use Rattle.std.proofs.Common.{length, length-append, map, nat_eq, refl, rules, string_bytes, subst, suc, sym, take, true, zero, ℕ, ◌*◌}
pub use Rattle.std.proofs.Common.{◌++◌, ◌+◌, ◌<◌, ◌∙◌, ◌∷◌, ◌≡◌, ◌≢◌, ◌≤◌, ◌⊎◌}
pub use Rattle.std.proofs.lemmas.Bool.{cases_lt}
pub use Rattle.std.proofs.lemmas.Bool.Decides.{nat_tests}
pub use Rattle.std.proofs.lemmas.List.{append-nil, take_all}
pub use Rattle.std.proofs.lemmas.List.Folds.{concat-append}
pub use Rattle.std.proofs.lemmas.Result.{on_ok_weaker}
pub use Rattle.std.specs.List.{concat}
pub use Rattle.std.specs.Option.{option_map}
pub use Rattle.std.specs.Prelude.{codes, decimal}
pub use Rattle.command_base.proofs.Creating.{CreatesPart-earlier}
pub use Rattle.command_base.proofs.Jobs.{Comes, answers-done, answers-stopped, comes-to, done-of, done-unless-memory, end-earlier, is_done}
pub use Rattle.command_base.proofs.Jobs.{is_memory, is_own, last-only, refusal-own, shared-of, stop-earlier}
pub use Rattle.command_base.specs.Inputs.{IsWithin, ReadTo}
pub use Rattle.command_base.specs.Job.{Answers}
pub use Rattle.command_base.specs.Lines.{done_line}
pub use Rattle.command_base.specs.Sound.{IsSound}
pub use Rattle.command_base.specs.Status.{IsRefusal}
pub use Rattle.command_base.specs.Stops.{ReadFails, StopCounts, end_status}
pub use Rattle.command_base.specs.Tells.{Tells}
pub use Rattle.command_base.specs.declared.status.Status.{Status}
pub use Rattle.command_base.specs.declared.status.Status.TheVariants.{ChanceMatch, Done, LineLost, LinkLost, NoMemory, NotDetected, TooLong}
pub use Rattle.command_base.specs.declared.stop.Stop.{Stop}
pub use Rattle.command_base.specs.declared.stop.Stop.TheVariants.{Own, Read}
pub use Rattle.line_ends.proofs.RunLaws.{RunLaws, may-run}
pub use Rattle.line_ends.specs.Carried.{IsCarried}
pub use Rattle.line_ends.specs.Causes.{LostLinksWereStarved}
pub use Rattle.line_ends.specs.Completes.{ScriptRunsTo}
pub use Rattle.line_run.specs.Ends.{Left, RunEnd}
pub use Rattle.line_run.specs.Names.{Written}
pub use Rattle.line_run.specs.Recorded.{Tapes, tapes_of}
pub use Rattle.line_run.specs.Sampled.{Wire}
pub use Rattle.line_run.specs.Scripted.{link_of, wire_of}
pub use Rattle.line_run.specs.declared.fault.RunFault.{RunFault}
pub use Rattle.line_world.specs.Turn.{FaultCounts, FaultCountsOver}
pub use Rattle.line_world.specs.Turns.{FaultEnds, RunEnds, held_of}
pub use Rattle.line_world.specs.World.{KnowsFiles, WorldAfter, script_of}
pub use Rattle.link_run.specs.Alone.{LoneHearingsDeliver, LoneSpeakingTakesNothing, LoneTurn}
pub use Rattle.link_run.specs.End.{deliveries}
pub use Rattle.link_run.specs.Run.{start}
pub use Rattle.noise_script.specs.Grammar.{ScriptSpelling}
pub use Rattle.noise_script.specs.Noisy.{text_of}
pub use Rattle.noise_script.specs.Script.{IsInLimits, ScriptValue, delay_of}
pub use Rattle.outside_calls.proofs.Holding.{Holds-kept}
pub use Rattle.outside_calls.proofs.OnlyOutputs.{OnlyOutputs-trans}
pub use Rattle.outside_calls.proofs.Putting.{HoldEach-kept, KeepsEach-reads, OnlyOutputs-puts, OnlyPuts-reads, OnlyPuts-trans, inputs-kept}
pub use Rattle.outside_calls.proofs.Steps.{CountsStand-refl, CountsStand-trans, GoesOn-trans, KeepsName-trans, octets-kept, told_later}
pub use Rattle.outside_calls.specs.Folder.{Appended, CountsStand, Files, FolderState, GoesOn, KeepsName, OnlyReads, octets_at}
pub use Rattle.outside_calls.specs.Outputs.{AreApart, AreApartFrom, AreNoneOf, Creates, CreatesPart, HoldPart, Holds, KeepsAll, KeepsEach}
pub use Rattle.outside_calls.specs.Outputs.{OnlyOutputs, OnlyPuts}
pub use Rattle.outside_calls.specs.declared.folder.FolderFault.{FolderFault}
pub use Rattle.program_folders.specs.Sure.{SureState, sure_folder}
pub use Rattle.recordings.specs.Recording.{header_of}
pub use Rattle.run_commands.specs.Peering.Ends.{HoldLeft}
pub use Rattle.run_commands.specs.Peering.Laws.{OneResult}
pub use Rattle.run_commands.specs.Peering.Runs.{GivesUp, IsDone, MakesTurn, PeerEnd, RunsTo, left_after, left_of, slot_at, slots_before}
pub use Rattle.run_commands.specs.Peering.Turns.{Reached, fault_stop}
pub use Rattle.run_commands.specs.Peering.Words.{Names, inputs_of, named, outputs_of, turn_names}
pub use Rattle.run_commands.specs.Running.Ends.{EndsBy, IsBegun, RanBy, RanTo, StopsHeading, StopsInTurn, Takes, run_job}
pub use Rattle.run_commands.specs.Running.Tapes.{HeadsPartly}
pub use Rattle.run_commands.specs.Soaking.Drawing.{word_octets}
pub use Rattle.run_commands.specs.Soaking.Ends.{Ends, SoakEnds, soak_files, soak_wire}
pub use Rattle.run_commands.specs.Soaking.Folder.{HoldsFiles, soak_names}
pub use Rattle.run_commands.specs.Soaking.Soak.{role_in_turn, soak_file, turn_lost}
pub use Rattle.run_commands.specs.Soaking.Text.{delay_line, lose_head, lose_line, noise_head, noise_line, soak_lines}
pub use Rattle.run_inputs.proofs.Answering.{is_run_end, run-ends-own, stopped-by, stopped-how, stopped-so}
pub use Rattle.run_inputs.specs.Answers.{answer_of}
pub use Rattle.run_inputs.specs.Inputs.{RefusesOwn}
pub use Rattle.run_inputs.specs.Words.{RunNames, files_of, texts_of}
pub use Rattle.run_inputs.specs.declared.limits.TheConstants.{LIMITS}
pub use Rattle.sample_line.specs.Mode.{mode_of}
pub use Rattle.shared_terms.specs.Both.{Both, of}
pub use Rattle.shared_terms.specs.Role.{other}
pub use Rattle.shared_terms.specs.declared.fault.LinkFault.{LinkFault}
pub use Rattle.shared_terms.specs.declared.limits.TheConstants.{FILE_LIMIT}
pub use Rattle.shared_terms.specs.declared.role.Role.{Role}
pub use Rattle.shared_terms.specs.declared.role.Role.TheVariants.{Answerer, Originator}
pub use Rattle.stations.specs.OneEnd.Heard.{slot_octets}
pub use Rattle.stations.specs.OneEnd.Peer.{Broken, Closed, Going, Outcome, Past, PeerRun, PeerTurn, after, over, party_of}
pub use Rattle.stations.specs.OneEnd.Single.{SingleAfter, file_limit, turn_of}
pub use Rattle.stations.specs.OneEnd.Turn.{Makes}
pub use Rattle.stations.specs.declared.one_end.single.Single.{Single}
