-- What the proofs of this crate name of the crates below, of the definitions, and of std.
pub use Rattle.std.proofs.Common.{ap, arith, inl, inr, refl, sym, true, ℕ, ◌&&◌, ◌*◌, ◌+◌, ◌<◌, ◌∙◌, ◌≡◌, ◌≤◌}
pub use Rattle.std.proofs.lemmas.Bool.{and_parts, cases_lt, leb-true}
pub use Rattle.std.proofs.lemmas.Int.{ints}
pub use Rattle.std.specs.Int.{cast_signed, cast_unsigned, w16}
pub use Rattle.std.specs.Prelude.{nat_le, unsigned_abs, ℤ, ◌-ℤ◌}
pub use Rattle.symbol_map.specs.Distance.{distance_of, quarter_turned, squared_gap}
pub use Rattle.symbol_map.specs.Finite.{at_each, each_below}
pub use Rattle.symbol_map.specs.Labels.{first_label}
pub use Rattle.symbol_map.specs.Points.{map_point, point_of}
pub use Rattle.symbol_map.specs.declared.sample.Sample.{Sample}
