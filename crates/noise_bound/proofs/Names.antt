-- What the proofs of this crate name of the crates below, of the definitions, and of std.
pub use Rattle.std.proofs.Common.{Bool, List, None, Option, Some, [], ap, append_assoc, arith, drop, eq-eqb, false, get_or, inl, inr}
pub use Rattle.std.proofs.Common.{length, length-append, map, nat_eq, nat_lt, refl, subst, suc, sym, take, true, zero, ℕ, ◌*◌, ◌++◌, ◌+◌}
pub use Rattle.std.proofs.Common.{◌-◌, ◌/◌, ◌<◌, ◌∙◌, ◌∷◌, ◌≡◌, ◌≢◌, ◌≤◌, ◌⊎◌}
pub use Rattle.std.proofs.lemmas.Bool.{cases_eq, cases_lt, eqb-true}
pub use Rattle.std.proofs.lemmas.Bool.Decides.{nat_tests}
pub use Rattle.std.proofs.lemmas.List.{get_or_append_left, length-take-le, map-append, take-append-drop, take-append-le, take-map, take_all}
pub use Rattle.std.proofs.lemmas.List.{take_at}
pub use Rattle.std.specs.List.{flat_map}
pub use Rattle.exact_decoder.proofs.Surviving.Fronts.{lost-once}
pub use Rattle.exact_decoder.specs.Decoder.{DecoderStands, Decoding, heard}
pub use Rattle.exact_decoder.specs.Laws.{IsOnlyLeast}
pub use Rattle.exact_decoder.specs.Surviving.Orders.{Beats}
pub use Rattle.exact_decoder.specs.Surviving.Survivors.{IsReleased, IsSurvivor, LostIs}
pub use Rattle.exact_decoder.specs.Surviving.Trellises.{IsSequence}
pub use Rattle.exact_decoder.specs.Surviving.V32.{at_any, v32_code}
pub use Rattle.frame_check.specs.Bits.{bits_of, low_bits}
pub use Rattle.line_coding.proofs.Quads.{quads-turned}
pub use Rattle.line_coding.proofs.TurnedSequences.{all_states_turn}
pub use Rattle.line_coding.specs.Demodulates.{line_of}
pub use Rattle.line_coding.specs.Modulates.{ModulatorStands}
pub use Rattle.line_coding.specs.PickedUp.{line_behind}
pub use Rattle.noise_bound.specs.Distances.{apart_in_all}
pub use Rattle.noise_bound.specs.Margins.{IsCostOf, MarginStands, Measured}
pub use Rattle.noise_bound.specs.Near.{IsNear, only, sure, sure_of_any}
pub use Rattle.noise_bound.specs.Noiseless.{v32_from}
pub use Rattle.scramblers.proofs.Readings.{depends_on_three}
pub use Rattle.scramblers.specs.Stream.{earlier}
pub use Rattle.scramblers.specs.declared.mode.Mode.{Mode}
pub use Rattle.shared_terms.specs.Prefix.{IsPrefixOf}
pub use Rattle.symbol_map.proofs.Distances.{distance_of-swap, equal_from_no_distance}
pub use Rattle.symbol_map.specs.Distance.{apart, distance_of, quarter_turned}
pub use Rattle.symbol_map.specs.Labels.{y_of}
pub use Rattle.symbol_map.specs.Laws.{turned_label}
pub use Rattle.symbol_map.specs.Points.{point_of}
pub use Rattle.symbol_map.specs.declared.sample.Sample.{Sample}
pub use Rattle.trellis_tables.proofs.Branches.{leaves_apart}
pub use Rattle.trellis_tables.proofs.Sequences.{Leads-split, Leads-take}
pub use Rattle.trellis_tables.proofs.Tables.{branch_of}
pub use Rattle.trellis_tables.specs.Laws.{far_from}
pub use Rattle.trellis_tables.specs.Sequences.{Leads, cost}
pub use Rattle.trellis_tables.specs.Table.{next_state}
