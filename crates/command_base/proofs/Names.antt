-- What the proofs of this crate name of the crates below, of the definitions, and of std.
pub use Rattle.std.proofs.Common.{Bool, Err, IsErrOf, IsTrue, List, None, Ok, OnErr, Option, Result, Some, [], ap, append-nil, append_assoc}
pub use Rattle.std.proofs.Common.{arith, bit_and, codes, drop, false, get_or, inl, inr, length, length-append, length-drop, map, min}
pub use Rattle.std.proofs.Common.{nat_eq, refl, subst, sym, take, true, vec_len, ℕ, ◌%◌, ◌&&◌, ◌*◌, ◌++◌, ◌+◌, ◌-◌, ◌/◌, ◌<◌, ◌^◌, ◌∙◌, ◌∷◌}
pub use Rattle.std.proofs.Common.{◌≡◌, ◌≢◌, ◌≤◌, ◌⊎◌}
pub use Rattle.std.proofs.lemmas.List.{length-take-le, take-append-drop, take_all}
pub use Rattle.std.specs.Option.{option_map}
pub use Rattle.bit_stuffing.specs.Found.{Found}
pub use Rattle.bit_stuffing.specs.declared.piece.Piece.{Piece}
pub use Rattle.command_base.specs.Apart.{are_apart}
pub use Rattle.command_base.specs.Heard.{Hears, Listening}
pub use Rattle.command_base.specs.Inputs.{ReadTo}
pub use Rattle.command_base.specs.Job.{SaysStop}
pub use Rattle.command_base.specs.Readings.{AreLines, IsLine}
pub use Rattle.command_base.specs.Status.{IsFolderFault, IsRefusal, PassesNoneOver}
pub use Rattle.command_base.specs.Stops.{IsOwn, ReadFails, SayFails, StopCounts, WriteFails, fault_status, stop_status}
pub use Rattle.command_base.specs.Tells.{Tells}
pub use Rattle.command_base.specs.declared.status.Status.{Status}
pub use Rattle.command_base.specs.declared.status.Status.TheVariants.{WriteFault}
pub use Rattle.command_base.specs.declared.stop.Stop.{Stop}
pub use Rattle.command_base.specs.declared.stop.Stop.TheVariants.{Own, Read, Say, Write}
pub use Rattle.frame_check.proofs.BitLists.{length-low_bits}
pub use Rattle.frame_check.specs.Bits.{bits_of, low_bits, octet_bits}
pub use Rattle.outside_calls.proofs.Holding.{Holds-kept}
pub use Rattle.outside_calls.proofs.OnlyOutputs.{OnlyOutputs-refl}
pub use Rattle.outside_calls.proofs.Steps.{CountsStand-refl, CountsStand-trans, FaultsStand-trans, GoesOn-trans, KeepsName-trans}
pub use Rattle.outside_calls.proofs.Steps.{OnlyReads-trans, Rose-later}
pub use Rattle.outside_calls.specs.Folder.{CountsStand, FaultsStand, FolderState, GoesOn, HasCause, KeepsName, OnlyReads, OnlySays}
pub use Rattle.outside_calls.specs.Folder.{PartlySaid, Rose, Said, octets_at}
pub use Rattle.outside_calls.specs.Outputs.{AreApart, CreatesPart, IsNoneOf, OnlyOutputs}
pub use Rattle.outside_calls.specs.declared.folder.FolderFault.{FolderFault}
pub use Rattle.outside_calls.specs.declared.folder.FolderFault.TheVariants.{NoMemory}
pub use Rattle.recordings.specs.Headers.{IsBadHeader}
pub use Rattle.recordings.specs.Recording.{header_at}
pub use Rattle.recordings.specs.declared.rate.Rate.{Rate}
pub use Rattle.scramblers.specs.declared.mode.Mode.{Mode}
pub use Rattle.shared_terms.specs.declared.role.Role.{Role}
