-- What the proofs of this crate name of the crates below, of the definitions, and of std.
pub use Rattle.std.proofs.Common.{Bool, List, [], ap, append-nil, append_assoc, arith, length, map, refl, slice_index, subst, suc, sym}
pub use Rattle.std.proofs.Common.{zero, ℕ, ◌%◌, ◌*◌, ◌++◌, ◌+◌, ◌<◌, ◌∙◌, ◌∷◌, ◌≡◌, ◌≤◌}
pub use Rattle.std.specs.List.{flat_map}
pub use Rattle.exact_decoder.proofs.Vectors.{each_of_four}
pub use Rattle.exact_decoder.specs.Lines.{least_four, sample_at}
pub use Rattle.exact_decoder.specs.Settled.{choice_at}
pub use Rattle.exact_decoder.specs.Traced.{choice_by}
pub use Rattle.frame_check.specs.Bits.{low_bits}
pub use Rattle.line_coding.specs.Modes.{DescramblesAs}
pub use Rattle.rate_4800.specs.Code.{point_of}
pub use Rattle.rate_4800.specs.Demodulates.{Demodulates, line_of}
pub use Rattle.rate_4800.specs.Nearest.{IsNearestLabel, key_of}
pub use Rattle.scramblers.specs.Scrambles.{Descrambles, Scrambles}
pub use Rattle.symbol_map.specs.Distance.{distance_of}
pub use Rattle.symbol_map.specs.declared.sample.Sample.{Sample}
pub use Rattle.trellis_tables.specs.Differential.Machines.{UnturnerStands}
pub use Rattle.trellis_tables.specs.Differential.Turned.{unturned}
