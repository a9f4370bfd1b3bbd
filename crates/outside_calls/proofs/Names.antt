-- What the proofs of this crate name of the crates below, of the definitions, and of std.
pub use Rattle.std.proofs.Common.{List, Some, [], ap, arith, inl, inr, refl, subst, sym, ℕ, ◌++◌, ◌∙◌, ◌∷◌}
pub use Rattle.outside_calls.specs.Folder.{Adds, Appended, FolderState, GoesOn, KeepsName, OnlyReads, OnlyWrites, PartlyAppended, Rose}
pub use Rattle.outside_calls.specs.Outputs.{OnlyOutputs}
