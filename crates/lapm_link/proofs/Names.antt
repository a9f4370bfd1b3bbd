-- What the proofs of this crate name of the crates below, of the definitions, and of std.
pub use Rattle.std.proofs.Common.{Bool, Err, List, None, Ok, Option, Result, Some, ap, arith, false, if◌then◌else◌, length, nat_lt, refl}
pub use Rattle.std.proofs.Common.{subst, sym, true, ℕ, ◌&&◌, ◌||◌, ◌∙◌, ◌≡◌, ◌≤◌}
pub use Rattle.std.proofs.lemmas.Bool.Decides.{nat_tests}
pub use Rattle.std.proofs.lemmas.Result.{err_from_is_err_and}
pub use Rattle.lapm_frames.specs.declared.sent.Sent.{Sent}
pub use Rattle.lapm_link.specs.Attempt.{TriesSo}
pub use Rattle.lapm_link.specs.Stands.{Becomes, Gives, IsUnlinked, Links, Negotiates, SaysLinked, Speaks, StandsFor, undelivered_of}
pub use Rattle.lapm_link.specs.declared.any_end.AnyEnd.{AnyEnd}
pub use Rattle.lapm_link.specs.declared.attempt.Attempt.{Attempt}
pub use Rattle.lapm_link.specs.declared.connected.Connected.{Connected}
pub use Rattle.lapm_link.specs.declared.negotiating.Talk.{Talk}
pub use Rattle.lapm_receiver.specs.Taking.{Taking}
pub use Rattle.link_account.specs.Account.{Account}
pub use Rattle.link_account.specs.Hear.{owing, trying}
pub use Rattle.link_account.specs.Speak.{Said, steps, u_try, where_says}
pub use Rattle.link_account.specs.declared.owes.Owes.{Owes}
pub use Rattle.link_account.specs.declared.setup.Setup.{Setup}
pub use Rattle.shared_terms.specs.Role.{is_originator}
pub use Rattle.shared_terms.specs.declared.fault.LinkFault.{LinkFault}
pub use Rattle.shared_terms.specs.declared.role.Role.{Role}
pub use Rattle.shared_terms.specs.declared.role.Role.TheVariants.{Answerer, Originator}
pub use Rattle.xid_params.specs.Terms.{agree}
pub use Rattle.xid_params.specs.declared.offer.Offer.{Offer}
pub use Rattle.xid_params.specs.declared.terms.Terms.{Terms}
