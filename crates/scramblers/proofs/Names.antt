-- What the proofs of this crate name of the crates below, of the definitions, and of std.
pub use Rattle.std.proofs.Common.{Bool, List, [], ap, arith, bit_xor, false, inl, inr, length, nat_eq, refl, rules, subst, suc, sym, true}
pub use Rattle.std.proofs.Common.{zero, ℕ, ◌%◌, ◌*◌, ◌++◌, ◌+◌, ◌-◌, ◌/◌, ◌<◌, ◌^◌, ◌∙◌, ◌∷◌, ◌≡◌, ◌≤◌, ◌⊎◌}
pub use Rattle.std.proofs.lemmas.Bool.{cases_lt}
pub use Rattle.std.proofs.lemmas.Bool.Decides.{nat_tests}
pub use Rattle.std.proofs.lemmas.Grind.{common_steps}
pub use Rattle.std.proofs.lemmas.Nat.{xor_lt}
pub use Rattle.std.proofs.lemmas.Nat.Bits.{bit_at-lt, bit_at-suc, bit_at_cat_high, bit_at_cat_low, bit_at_lowest}
pub use Rattle.std.specs.Int.{bit_at}
pub use Rattle.frame_check.specs.Bits.{low_bits, number}
pub use Rattle.frame_check.specs.Xor.{xor}
pub use Rattle.scramblers.specs.Register.{Holds}
pub use Rattle.scramblers.specs.Scrambles.{Descrambles, Scrambles}
pub use Rattle.scramblers.specs.Stream.{bit_at_place, earlier}
