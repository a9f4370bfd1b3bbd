-- What the proofs of this crate name of the crates below, of the definitions, and of std.
pub use Rattle.std.proofs.Common.{Bor, Err, List, Ok, OnOk, Result, [], ap, arith, inl, inr, length, map, refl, subst, sym, ℕ, ◌++◌, ◌+◌}
pub use Rattle.std.proofs.Common.{◌∙◌, ◌∷◌, ◌≡◌, ◌≤◌}
pub use Rattle.command_base.proofs.Jobs.{stop-earlier}
pub use Rattle.command_base.specs.Inputs.{IsWithin}
pub use Rattle.command_base.specs.Stops.{EndCounts}
pub use Rattle.command_base.specs.declared.stop.Stop.{Stop}
pub use Rattle.outside_calls.proofs.Steps.{CountsStand-trans, octets-kept, told_later}
pub use Rattle.outside_calls.specs.Folder.{FolderState, octets_at}
pub use Rattle.outside_calls.specs.declared.folder.FolderFault.{FolderFault}
pub use Rattle.run_inputs.specs.Lengths.{AreWithin, RefusesLengths, TellOctets}
