-- What the proofs of this crate name of the crates below, of the definitions, and of std.
pub use Rattle.std.proofs.Common.{Err, IsTrue, List, Ok, Result, [], ap, arith, inl, inr, length, map, refl, string_bytes, subst, sym, ℕ}
pub use Rattle.std.proofs.Common.{◌*◌, ◌++◌, ◌+◌, ◌<◌, ◌∙◌, ◌≡◌, ◌≤◌}
pub use Rattle.command_base.proofs.Jobs.{done-unless-memory, shared-of}
pub use Rattle.command_base.specs.Job.{Answers}
pub use Rattle.command_base.specs.Tells.{Tells}
pub use Rattle.command_base.specs.declared.status.Status.{Status}
pub use Rattle.command_base.specs.declared.status.Status.TheVariants.{Done}
pub use Rattle.command_base.specs.declared.stop.Stop.{Stop}
pub use Rattle.command_base.specs.declared.stop.Stop.TheVariants.{Own, Say}
pub use Rattle.frame_commands.specs.Explaining.Digits.{IsBadHex, place_named}
pub use Rattle.frame_commands.specs.Explaining.Ends.{xid_job}
pub use Rattle.frame_commands.specs.Listing.Heard.{Begun, HeardTo}
pub use Rattle.frame_commands.specs.Listing.Words.{FramesNames, named}
pub use Rattle.outside_calls.proofs.OnlyOutputs.{OnlyOutputs-reads, OnlyOutputs-refl, OnlyOutputs-says, OnlyOutputs-trans}
pub use Rattle.outside_calls.proofs.Steps.{CountsStand-refl, CountsStand-trans}
pub use Rattle.outside_calls.specs.Folder.{FolderState, Said, octets_at}
pub use Rattle.outside_calls.specs.Outputs.{OnlyOutputs}
pub use Rattle.shared_terms.specs.declared.limits.TheConstants.{FILE_LIMIT}
