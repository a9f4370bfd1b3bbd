-- What the proofs of this crate name of the crates below, of the definitions, and of std.
pub use Rattle.std.proofs.Common.{Bool, Err, List, None, Ok, Option, Result, Some, [], ap, arith, codes, false, if◌then◌else◌, is_some}
pub use Rattle.std.proofs.Common.{length, lit<, nat_eq, not, refl, subst, sym, take, true, ℕ, ◌%◌, ◌*◌, ◌++◌, ◌+◌, ◌-◌, ◌/◌, ◌<◌, ◌∙◌, ◌∷◌}
pub use Rattle.std.proofs.Common.{◌≡◌, ◌≤◌}
pub use Rattle.std.proofs.lemmas.Bool.{false≢true}
pub use Rattle.std.proofs.lemmas.Result.{err_from_is_err_and}
pub use Rattle.std.specs.Prelude.{IfErr, IfOk, IfSome, unwrap_or, ◌↔◌}
pub use Rattle.frame_check.specs.declared.check.Check.TheVariants.{Sixteen}
pub use Rattle.frame_check.specs.declared.sizes.TheConstants.{INFO}
pub use Rattle.lapm_frames.specs.Checked.{SpellsFrame, check_for}
pub use Rattle.lapm_frames.specs.Controls.{Has}
pub use Rattle.lapm_frames.specs.Fault.{Begins, FirstFault, IsAddressFault, IsControlFault, IsLong, IsShort}
pub use Rattle.lapm_frames.specs.Frame.{FrameSpelling, IsFrame, address_of, control_octet, marked, numbered, spelled, tail_octets}
pub use Rattle.lapm_frames.specs.Parts.{FrameParts, parts_of, unnumbered}
pub use Rattle.lapm_frames.specs.declared.fault.CheckedFault.TheVariants.{Refused}
pub use Rattle.lapm_frames.specs.declared.fault.FrameFault.{FrameFault}
pub use Rattle.lapm_frames.specs.declared.fault.FrameFault.TheVariants.{Address, Control, Long, Short}
pub use Rattle.lapm_frames.specs.declared.frame.Frame.{Frame}
pub use Rattle.lapm_frames.specs.declared.frame.Frame.TheVariants.{I, Rr}
pub use Rattle.shared_terms.specs.declared.role.Role.{Role}
pub use Rattle.shared_terms.specs.declared.role.Role.TheVariants.{Answerer, Originator}
