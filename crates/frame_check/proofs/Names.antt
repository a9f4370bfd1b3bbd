-- What the proofs of this crate name of the crates below, of the definitions, and of std.
pub use Rattle.std.proofs.Common.{All, Bool, List, [], ap, arith, bit_xor, cond, drop, false, get_or, if◌then◌else◌, inl, inr, length}
pub use Rattle.std.proofs.Common.{length-append, lit<, nat_eq, refl, reverse, slice_index_or, subst, suc, sym, take, true, zero, ℕ, ◌%◌}
pub use Rattle.std.proofs.Common.{◌*◌, ◌++◌, ◌+◌, ◌-◌, ◌/◌, ◌<◌, ◌^◌, ◌∙◌, ◌∷◌, ◌≡◌, ◌≤◌}
pub use Rattle.std.proofs.Math.Nat.{eq-or-lt_of_le, pow-succ'}
pub use Rattle.std.proofs.lemmas.Bool.{cases_lt, false≢true}
pub use Rattle.std.proofs.lemmas.Bool.Decides.{nat_tests}
pub use Rattle.std.proofs.lemmas.Grind.{common_steps}
pub use Rattle.std.proofs.lemmas.List.{same_lists}
pub use Rattle.std.proofs.lemmas.Nat.Bits.{bit_at-suc, bit_at_lowest}
pub use Rattle.std.specs.Int.{bit_at}
pub use Rattle.frame_check.specs.Bits.{bits_of, low_bits, number, octet_bits}
pub use Rattle.frame_check.specs.Division.{count_of, next_remainder, remainder_from}
pub use Rattle.frame_check.specs.FrameCheck.{Leaves, Same, all_ones, coefficient, generator_of, plus, raised, times}
pub use Rattle.frame_check.specs.Register.{AreFours, Divides, Holds, Mirrors}
pub use Rattle.frame_check.specs.Xor.{xor}
pub use Rattle.frame_check.specs.declared.check.Check.TheVariants.{Sixteen, ThirtyTwo}
