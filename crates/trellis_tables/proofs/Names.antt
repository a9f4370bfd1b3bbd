-- What the proofs of this crate name of the crates below, of the definitions, and of std.
pub use Rattle.std.proofs.Common.{Bool, List, None, Option, Some, [], ap, arith, eq-eqb, false, get_or, inl, inr, length, length-take}
pub use Rattle.std.proofs.Common.{lt-ltb, map, nat_eq, nat_lt, refl, subst, suc, sum, sym, take, true, zero, ℕ, ◌%◌, ◌&&◌, ◌*◌, ◌++◌, ◌+◌}
pub use Rattle.std.proofs.Common.{◌-◌, ◌/◌, ◌<◌, ◌∙◌, ◌∷◌, ◌≡◌, ◌≤◌, ◌⊎◌}
pub use Rattle.std.proofs.lemmas.Bool.{and_from, and_parts, cases_lt, eqb-true, ltb-true}
pub use Rattle.std.proofs.lemmas.Bool.Decides.{nat_tests}
pub use Rattle.std.proofs.lemmas.Grind.{common_steps}
pub use Rattle.std.proofs.lemmas.List.{ext_get_or, get_or-take, length-map, length_push, take-map}
pub use Rattle.std.proofs.lemmas.List.FromFn.{get_or-map-range_with_len, length-map-range_with_len}
pub use Rattle.std.specs.Bool.{beq}
pub use Rattle.std.specs.Prelude.{All}
pub use Rattle.symbol_map.specs.Finite.{at_each, at_each_pair, each_below}
pub use Rattle.symbol_map.specs.Labels.{label_of, q3q4_of, y0_of, y_of}
pub use Rattle.symbol_map.specs.Laws.{turned_label}
pub use Rattle.trellis_tables.specs.Differential.Laws.{AreTurns}
pub use Rattle.trellis_tables.specs.Differential.Machines.{UnturnerStands}
pub use Rattle.trellis_tables.specs.Differential.Turned.{before, turned, unturned, unturned_at}
pub use Rattle.trellis_tables.specs.Encoder.{Coder, EncoderStands, Encodes}
pub use Rattle.trellis_tables.specs.LabelReader.{LabelReaderStands}
pub use Rattle.trellis_tables.specs.Previous.{previous_by_y}
pub use Rattle.trellis_tables.specs.Quads.{turn_of, uncoded_of}
pub use Rattle.trellis_tables.specs.Sequences.{Leads}
pub use Rattle.trellis_tables.specs.Table.{next_by_y, next_state}
