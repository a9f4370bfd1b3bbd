-- What the proofs of this crate name of the crates below, of the definitions, and of std.
pub use Rattle.std.proofs.Common.{Bool, IsTrue, List, None, Option, Some, [], ap, append_assoc, arith, cond, false, inl, inr, length}
pub use Rattle.std.proofs.Common.{length-append, lit<, nat_eq, not, refl, subst, suc, sym, take, true, zero, ℕ, ◌%◌, ◌&&◌, ◌*◌, ◌++◌, ◌+◌}
pub use Rattle.std.proofs.Common.{◌-◌, ◌/◌, ◌<◌, ◌^◌, ◌∙◌, ◌∷◌, ◌≡◌, ◌≢◌, ◌≤◌, ◌⊎◌}
pub use Rattle.std.proofs.lemmas.Bool.{false≢true}
pub use Rattle.std.proofs.lemmas.Bool.Decides.{nat_tests}
pub use Rattle.std.proofs.lemmas.List.{append-nil}
pub use Rattle.std.proofs.lemmas.List.Concat.{flat_map-append}
pub use Rattle.std.proofs.lemmas.Result.{err_from_is_err_and}
pub use Rattle.std.specs.List.{flat_map}
pub use Rattle.std.specs.Option.{option_and_then}
pub use Rattle.std.specs.Prelude.{IfErr, IfOk}
pub use Rattle.frame_check.specs.declared.sizes.TheConstants.{INFO}
pub use Rattle.xid_params.specs.Faults.{FirstFault, GroupHas, Has, InnerHas, IsFirst, IsGroupWrong, IsParameterWrong, IsRepeated}
pub use Rattle.xid_params.specs.Faults.{ParameterHas, place_behind, place_of}
pub use Rattle.xid_params.specs.Gathered.{Offers, Stands}
pub use Rattle.xid_params.specs.Offers.{GroupsSpell, IsAllowed, IsEnd, OfferSpelling, all_well, groups_in, offer_in, offer_of_groups}
pub use Rattle.xid_params.specs.Offers.{offer_with, parameters_in}
pub use Rattle.xid_params.specs.Parameters.{AreWell, ParametersSpell, accepts, identifier_of, is_low, octets_of_bits, offer_of, said}
pub use Rattle.xid_params.specs.Parameters.{segments_of, stands_well}
pub use Rattle.xid_params.specs.Parts.{Part, group_octets, named, number_of, parameter_octets}
pub use Rattle.xid_params.specs.declared.fault.XidFault.{XidFault}
pub use Rattle.xid_params.specs.declared.fault.XidFault.TheVariants.{Format, Group, Length, Repeated, Value}
pub use Rattle.xid_params.specs.declared.given.Given.{Given}
pub use Rattle.xid_params.specs.declared.offer.Offer.{Offer}
pub use Rattle.xid_params.specs.declared.parameter.Parameter.{Parameter}
pub use Rattle.xid_params.specs.declared.parameter.Parameter.TheVariants.{Functions, RxLength, RxWindow, TxLength, TxWindow}
