-- What the proofs of this crate name of the crates below, of the definitions, and of std.
pub use Rattle.std.proofs.Common.{Bool, List, None, Some, [], ap, arith, cond, drop, false, length, nat_eq, nat_le, nat_lt, refl, replicate}
pub use Rattle.std.proofs.Common.{subst, suc, sym, true, zero, ℕ, ◌++◌, ◌+◌, ◌-◌, ◌<◌, ◌∙◌, ◌∷◌, ◌≡◌, ◌≤◌}
pub use Rattle.std.proofs.Math.ListN.{drop_of_length-le}
pub use Rattle.std.proofs.lemmas.Bool.Decides.{nat_tests}
pub use Rattle.std.proofs.lemmas.List.{length-append, length-drop}
pub use Rattle.std.specs.List.{find}
pub use Rattle.std.specs.Prelude.{Option, is_some, slice_get}
pub use Rattle.lapm_receiver.specs.Held.{Held, is_among, is_held, missing_from, rest_from, run_from, with_held}
pub use Rattle.lapm_receiver.specs.Incoming.{after_kind}
pub use Rattle.lapm_receiver.specs.Slots.{Arrived, IsRising, any_held, info_at, missing_among}
pub use Rattle.lapm_receiver.specs.Taking.{StandsIn, Taking}
pub use Rattle.lapm_receiver.specs.declared.took.Took.TheVariants.{Kept}
