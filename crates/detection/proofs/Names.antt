-- What the proofs of this crate name of the crates below, of the definitions, and of std.
pub use Rattle.std.proofs.Common.{All, Bool, List, None, Option, Some, [], ap, append_assoc, arith, bit_or, drop, false, get_or}
pub use Rattle.std.proofs.Common.{if◌then◌else◌, inl, inr, length, length-append, length-drop, lit≤, nat_eq, refl, reverse, subst, suc, sym}
pub use Rattle.std.proofs.Common.{take, true, zero, ℕ, ◌%◌, ◌*◌, ◌++◌, ◌+◌, ◌-◌, ◌/◌, ◌<◌, ◌^◌, ◌||◌, ◌∙◌, ◌∷◌, ◌≡◌, ◌≤◌, ◌⊎◌}
pub use Rattle.std.proofs.lemmas.Bool.{cases_lt, eqb-true, false≢true}
pub use Rattle.std.proofs.lemmas.List.{append-nil, get_or-append-add, get_or-append_right, get_or-drop, get_or-replicate, get_or-take}
pub use Rattle.std.proofs.lemmas.List.{get_or_append_left, get_or_default, length-replicate, length-take-le, map-append}
pub use Rattle.std.proofs.lemmas.List.{replicate-append-replicate, reverse-append, same_lists, take-append-drop, take-append-le}
pub use Rattle.std.proofs.lemmas.Nat.{or_shifted, shr-shr}
pub use Rattle.std.proofs.lemmas.Nat.Bits.{bit_at_cat_low}
pub use Rattle.std.specs.Bool.{beq}
pub use Rattle.std.specs.Cmp.Lexicographic.{pointwise}
pub use Rattle.std.specs.Int.{bit_at, trailing_ones}
pub use Rattle.std.specs.Int.Width.{w128}
pub use Rattle.std.specs.List.{ends_with}
pub use Rattle.bit_stuffing.proofs.EndsWith.{same_bits}
pub use Rattle.bit_stuffing.proofs.Latest.{bit_at-rem}
pub use Rattle.bit_stuffing.proofs.Sizes.{length-slot_bits}
pub use Rattle.bit_stuffing.specs.BitSlot.{line_bits}
pub use Rattle.bit_stuffing.specs.Flags.{flag}
pub use Rattle.bit_stuffing.specs.Slots.{AreSlots, IsPlain, IsSlot, flags, next_phase, opening, slot_bits}
pub use Rattle.bit_stuffing.specs.Slots.Slot.{Flags}
pub use Rattle.detection.specs.Patterns.{EndsPattern, IsGap, IsSeen, first, ones, second, twice}
pub use Rattle.detection.specs.Reader.{EndsCharacter, Holds, LeftBehind, LeftBehindOnce, ReaderStands}
pub use Rattle.detection.specs.Slots.{Signal, pattern, pattern_bits, patterns, slot_of, slots_of}
pub use Rattle.detection.specs.Slots.Signal.{FlagSlot, MarkSlot, PatternSlot}
pub use Rattle.frame_check.proofs.Generators.{at_each, each_below}
pub use Rattle.frame_check.specs.Bits.{low_bits, number}
pub use Rattle.lapm_frames.specs.declared.seen.Seen.{Seen}
pub use Rattle.lapm_frames.specs.declared.seen.Seen.TheVariants.{Adp, Odp}
