-- What the proofs of this crate name of the crates below, of the definitions, and of std.
pub use Rattle.std.proofs.Common.{Bool, Err, IfOk, IsTrue, List, None, Ok, OnErr, OnOk, Option, Result, Some, [], ap, append-nil}
pub use Rattle.std.proofs.Common.{append_assoc, arith, cond, drop, false, get_or, inl, inr, length, length-append, map, nat_eq, nat_lt, not}
pub use Rattle.std.proofs.Common.{refl, rules, subst, suc, sym, take, true, zero, ℕ, ◌&&◌, ◌*◌, ◌++◌, ◌+◌, ◌-◌, ◌<◌, ◌^◌, ◌||◌, ◌∙◌, ◌∷◌}
pub use Rattle.std.proofs.Common.{◌≡◌, ◌≤◌, ◌⊎◌}
pub use Rattle.std.proofs.Math.Seq.{take-append_seam}
pub use Rattle.std.proofs.lemmas.Bool.{cases_lt, false≢true}
pub use Rattle.std.proofs.lemmas.List.{length-drop, length-replicate, length-take, length-take-le, take-append-le, take_all, take_more}
pub use Rattle.std.proofs.lemmas.List.Folds.{concat-append}
pub use Rattle.std.specs.List.{concat}
pub use Rattle.std.specs.Option.{option_map}
pub use Rattle.std.specs.Prelude.{IsErrOf, is_some}
pub use Rattle.bit_stuffing.specs.Found.{lent_of}
pub use Rattle.bit_stuffing.specs.Pieces.{IsLent}
pub use Rattle.detection.specs.Ear.{HasHeard}
pub use Rattle.detection.specs.Patterns.{EndsPattern}
pub use Rattle.frame_check.specs.Bits.{bits_of, octet_bits}
pub use Rattle.frame_check.specs.declared.check.Check.{Check}
pub use Rattle.frame_check.specs.declared.check.Check.TheVariants.{Sixteen}
pub use Rattle.lapm_frames.specs.Checked.{SpellsFrame}
pub use Rattle.lapm_frames.specs.Sendable.{IsSendable}
pub use Rattle.lapm_frames.specs.declared.arrived.Arrived.{Arrived}
pub use Rattle.lapm_frames.specs.declared.frame.Frame.{Frame}
pub use Rattle.lapm_frames.specs.declared.seen.Seen.{Seen}
pub use Rattle.lapm_frames.specs.declared.sent.Sent.{Sent}
pub use Rattle.lapm_link.specs.Stands.{StandsFor, TakesNothing, taken_of}
pub use Rattle.lapm_link.specs.declared.any_end.AnyEnd.{AnyEnd}
pub use Rattle.lapm_sender.specs.Outgoing.{Outgoing}
pub use Rattle.line_texts.specs.LineText.{line_of, trace_line}
pub use Rattle.link_account.specs.Account.{Account, break_waits, fresh, given_break, is_connected, is_done, wants}
pub use Rattle.link_account.specs.Hear.{hear}
pub use Rattle.link_account.specs.Numbers.{IsNumbered}
pub use Rattle.link_account.specs.Speak.{Said, speak}
pub use Rattle.link_account.specs.declared.setup.Setup.{Setup}
pub use Rattle.link_run.specs.Alone.{LoneTurn, hangs_up, lone_served}
pub use Rattle.link_run.specs.End.{delivered, deliveries, has_finished, is_closed, is_ready, offered, offered_at, piece_at, speaks_alone}
pub use Rattle.link_run.specs.Reading.{IsOffered, SameSoFar}
pub use Rattle.link_run.specs.Run.{spoken}
pub use Rattle.outside_calls.proofs.Putting.{AddEach-kept, AddEach-next, AddPart-next, AddPart-none, KeepsEach-reads, OnlyPuts-one}
pub use Rattle.outside_calls.proofs.Putting.{OnlyPuts-reads, OnlyPuts-trans}
pub use Rattle.outside_calls.proofs.Steps.{CountsStand-refl, CountsStand-trans, FaultsStand-trans, GoesOn-refl, OnlyReads-trans}
pub use Rattle.outside_calls.proofs.Steps.{octets-kept, told_later}
pub use Rattle.outside_calls.specs.Folder.{Adds, Appended, CountsStand, FaultsStand, FolderState, GoesOn, HasCause, OnlyReads, OnlyWrites}
pub use Rattle.outside_calls.specs.Folder.{PartlyAppended, Rose, octets_at}
pub use Rattle.outside_calls.specs.Outputs.{AddEach, AreApartFrom, OnlyPuts}
pub use Rattle.outside_calls.specs.declared.folder.FolderFault.{FolderFault}
pub use Rattle.shared_terms.specs.Both.{of}
pub use Rattle.shared_terms.specs.Role.{is_originator, other}
pub use Rattle.shared_terms.specs.declared.fault.LinkFault.{LinkFault}
pub use Rattle.shared_terms.specs.declared.role.Role.{Role}
pub use Rattle.shared_terms.specs.declared.role.Role.TheVariants.{Answerer, Originator}
pub use Rattle.stations.specs.Faults.{fault_of}
pub use Rattle.stations.specs.OneEnd.Heard.{AreQuiet, EndsWith, IsFirst, IsHeard, IsQuiet, filled, slot_bits, slot_octets, stream}
pub use Rattle.stations.specs.OneEnd.Laws.{IsPeers}
pub use Rattle.stations.specs.OneEnd.Mid.{IsReading, IsWriting, handed, served_with}
pub use Rattle.stations.specs.OneEnd.Peer.{Broken, Closed, Going, Outcome, Past, over, party_of}
pub use Rattle.stations.specs.OneEnd.Single.{PeerNames, StaysKnown, file_limit, inputs_of, outputs_of}
pub use Rattle.stations.specs.OneEnd.Turn.{EndsBy, FaultCounts}
pub use Rattle.stations.specs.Station.{HearsAs, IsCounted, ReadsOn, SpeaksAs, Stands, Supplies, Supplying, file_at}
pub use Rattle.stations.specs.declared.one_end.step.SingleFault.{SingleFault}
pub use Rattle.stations.specs.declared.station.Station.{Station}
pub use Rattle.xid_params.specs.Offers.{IsAllowed}
