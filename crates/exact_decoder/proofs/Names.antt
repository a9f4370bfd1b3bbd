-- What the proofs of this crate name of the crates below, of the definitions, and of std.
pub use Rattle.std.proofs.Common.{All, Bool, Fits, IfOk, List, None, Option, Some, [], ap, append_assoc, arith, below_more, bit_and, drop}
pub use Rattle.std.proofs.Common.{false, get_or, get_or-set_other, get_or-set_same, if◌then◌else◌, inl, inr, length, length-append, lit<}
pub use Rattle.std.proofs.Common.{map, min, nat_eq, nat_lt, option_map, refl, replicate, reverse, set, slice_get, slice_index, subst, suc}
pub use Rattle.std.proofs.Common.{sym, take, true, w32, zero, ℕ, ◌%◌, ◌&&◌, ◌*◌, ◌++◌, ◌+◌, ◌-◌, ◌/◌, ◌<◌, ◌^◌, ◌∙◌, ◌∷◌, ◌≡◌, ◌≢◌, ◌≤◌}
pub use Rattle.std.proofs.Common.{◌⊎◌}
pub use Rattle.std.proofs.Math.Bool.{cond}
pub use Rattle.std.proofs.Math.ListN.{length-set}
pub use Rattle.std.proofs.Math.Nat.{eq-or-lt_of_le, min-eq_left, min-eq_right, min-le_left, min-le_right}
pub use Rattle.std.proofs.lemmas.Bool.{and_parts, cases_eq, cases_lt, eqb-false, eqb-true, false≢true, le-ltb, lt-ltb, ltb-true}
pub use Rattle.std.proofs.lemmas.Grind.{common_steps}
pub use Rattle.std.proofs.lemmas.Int.{ints}
pub use Rattle.std.proofs.lemmas.List.{append-nil, append_cancel_right, length-replicate, length-reverse, length-take-le, length_push}
pub use Rattle.std.proofs.lemmas.List.{nil_from_length, reverse-append, take-append-drop, take-append-le, take-map, take-take, take_all}
pub use Rattle.std.proofs.lemmas.List.{take_at}
pub use Rattle.std.proofs.lemmas.List.Elements.{All-head, All-nil, All-push, All-same, All-tail, All-take}
pub use Rattle.std.proofs.lemmas.Nat.{and_mask}
pub use Rattle.std.proofs.lemmas.Option.{same_Some}
pub use Rattle.std.proofs.lemmas.Simd.{Each1-zip2, Each2-splat, length-zip2, put_chunk_whole, tops_compared}
pub use Rattle.std.specs.Int.{cast_signed, cast_unsigned, w16}
pub use Rattle.std.specs.Prelude.{pos, unsigned_abs, ℤ, ◌*ℤ◌, ◌-ℤ◌}
pub use Rattle.std.specs.Simd.Lanes.{mask_l, pick_l, sel_l, zip2}
pub use Rattle.exact_decoder.specs.Advances.{Advances}
pub use Rattle.exact_decoder.specs.Batches.{SteppedEach}
pub use Rattle.exact_decoder.specs.Columns.{Entry, branch_of, branches_at, entry_at, entry_in, new_sums_at, sum_in, sum_of, sums_at}
pub use Rattle.exact_decoder.specs.Columns.{tail_at}
pub use Rattle.exact_decoder.specs.Decoder.{DecoderStands, Decoding, IsSound, decoding_of, heard}
pub use Rattle.exact_decoder.specs.Kept.{AllChosen, AreSums, Covered, HoldsColumns, IsLeastSum, IsParted, KeepsSurvivors, Kept, Released}
pub use Rattle.exact_decoder.specs.Kept.{Stepped, kept_of}
pub use Rattle.exact_decoder.specs.Keys.{AreClose, IsLeastKey, IsLeastWay, IsNearest}
pub use Rattle.exact_decoder.specs.Lines.{IsNarrow, coordinate, least_four, nearest_000, nearest_001, nearest_010, nearest_011, nearest_100}
pub use Rattle.exact_decoder.specs.Lines.{nearest_101, nearest_110, nearest_111, sample_at, words}
pub use Rattle.exact_decoder.specs.Settled.{IsLeastKeyOf, choice_at, choice_in, chosen, far_key, leveled}
pub use Rattle.exact_decoder.specs.Surviving.Orders.{Beats, LessFromLast}
pub use Rattle.exact_decoder.specs.Surviving.Steps.{Branch, Chooses, Enters, GoesOn, Keeps, KnowsState}
pub use Rattle.exact_decoder.specs.Surviving.Survivors.{IsCommon, IsFirstLeast, IsLost, IsOver, IsReleased, IsSurvivor, LostIs}
pub use Rattle.exact_decoder.specs.Surviving.Trellises.{HasLaws, IsSequence, Trellis, trellis_of}
pub use Rattle.exact_decoder.specs.Traced.{AreColumns, Back, IsColumn, Splits, choice_by, choices_of, columns_in, from_newest, traced}
pub use Rattle.exact_decoder.specs.Traced.{walked}
pub use Rattle.exact_decoder.specs.declared.choice.Choice.{Choice}
pub use Rattle.exact_decoder.specs.declared.column.Column.{Column}
pub use Rattle.shared_terms.specs.Prefix.{IsPrefixOf}
pub use Rattle.symbol_map.specs.Distance.{distance_of, squared_gap}
pub use Rattle.symbol_map.specs.Points.{point_of}
pub use Rattle.symbol_map.specs.declared.sample.Sample.{Sample}
pub use Rattle.trellis_tables.proofs.Sequences.{Leads-front, cost-snoc}
pub use Rattle.trellis_tables.specs.Codes.{EntersOnce, IsBounded, Reaches, StaysWithin}
pub use Rattle.trellis_tables.specs.Sequences.{Leads, cost}
pub use Rattle.trellis_tables.specs.Ways.{way_before, way_subset}
