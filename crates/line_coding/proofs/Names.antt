-- What the proofs of this crate name of the crates below, of the definitions, and of std.
pub use Rattle.std.proofs.Common.{Bool, List, [], ap, append-nil, append_assoc, arith, drop, false, get_or, length, map, nat_eq, refl}
pub use Rattle.std.proofs.Common.{subst, suc, sym, true, zero, ℕ, ◌%◌, ◌*◌, ◌++◌, ◌+◌, ◌-◌, ◌/◌, ◌<◌, ◌∙◌, ◌∷◌, ◌≡◌, ◌≤◌}
pub use Rattle.std.proofs.lemmas.Bool.Decides.{nat_tests}
pub use Rattle.std.proofs.lemmas.List.{ext_get_or, get_or-drop, length-drop, length-map}
pub use Rattle.std.specs.List.{flat_map}
pub use Rattle.std.specs.Prelude.{All}
pub use Rattle.exact_decoder.specs.Surviving.V32.{at_any}
pub use Rattle.frame_check.specs.Bits.{low_bits, octet_bits}
pub use Rattle.line_coding.specs.Demodulates.{Demodulates, line_of}
pub use Rattle.line_coding.specs.MiddleReading.{Middle, MiddleRead}
pub use Rattle.line_coding.specs.Modes.{DescramblesAs}
pub use Rattle.line_coding.specs.Modulates.{ModulatorStands}
pub use Rattle.line_coding.specs.PickedUp.{line_behind}
pub use Rattle.line_coding.specs.Reading.{Reading, SamplesRead}
pub use Rattle.scramblers.proofs.Readings.{Descrambles_once}
pub use Rattle.scramblers.specs.Mode.{tap_of}
pub use Rattle.scramblers.specs.Scrambles.{Descrambles, Scrambles}
pub use Rattle.scramblers.specs.Stream.{earlier}
pub use Rattle.scramblers.specs.declared.mode.Mode.{Mode}
pub use Rattle.symbol_map.specs.Laws.{turned_label}
pub use Rattle.symbol_map.specs.declared.sample.Sample.{Sample}
pub use Rattle.trellis_tables.proofs.Readings.{length-quads_of}
pub use Rattle.trellis_tables.proofs.Rotations.{four_turns_are_none}
pub use Rattle.trellis_tables.specs.LabelReader.{LabelReaderStands, quads_of}
