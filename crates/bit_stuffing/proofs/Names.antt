-- What the proofs of this crate name of the crates below, of the definitions, and of std.
pub use Rattle.std.proofs.Common.{All, Bool, IfSome, IsTrue, List, None, Option, Some, [], ap, append_assoc, arith, bit_and, drop, false}
pub use Rattle.std.proofs.Common.{get_or, if◌then◌else◌, inl, inr, length, length-append, length-drop, lit<, min, nat_eq, nat_lt, not, refl}
pub use Rattle.std.proofs.Common.{replicate, rules, subst, suc, sym, take, true, zero, ℕ, ◌%◌, ◌&&◌, ◌*◌, ◌++◌, ◌+◌, ◌-◌, ◌/◌, ◌<◌, ◌^◌}
pub use Rattle.std.proofs.Common.{◌∙◌, ◌∷◌, ◌≡◌, ◌≢◌, ◌≤◌, ◌⊎◌}
pub use Rattle.std.proofs.lemmas.Bool.{and_parts, cases_lt, eq-eqb, eqb-true, false≢true, lt-ltb, ltb-false, ltb-true}
pub use Rattle.std.proofs.lemmas.Bool.Decides.{nat_tests}
pub use Rattle.std.proofs.lemmas.Grind.{common_steps}
pub use Rattle.std.proofs.lemmas.List.{append-nil, drop-append-le, drop_all, get_or-drop, get_or_append_left, get_or_default, same_lists}
pub use Rattle.std.proofs.lemmas.List.{take-append-le, take_all, take_more}
pub use Rattle.std.proofs.lemmas.List.Elements.{All-append, All-cons, All-nil}
pub use Rattle.std.proofs.lemmas.Nat.Bits.{bit_at-suc, bit_at_cat_low}
pub use Rattle.std.specs.Bool.{beq}
pub use Rattle.std.specs.Cmp.Lexicographic.{pointwise}
pub use Rattle.std.specs.Int.{bit_at, rotate_right}
pub use Rattle.std.specs.Int.Width.{w8}
pub use Rattle.std.specs.List.{ends_with}
pub use Rattle.std.specs.Option.{option_map}
pub use Rattle.bit_stuffing.specs.BitSlot.{line_bits}
pub use Rattle.bit_stuffing.specs.Deframer.{CountsSince, DeframerStands, Finding, Finds, Gathering, Gathers, HoldsLatest, IsQuiet}
pub use Rattle.bit_stuffing.specs.Deframer.{KeepsBits, LeavesFour, Lends, PassesBits, back, has_room, is_plain}
pub use Rattle.bit_stuffing.specs.Flags.{Aborts, Closes, FlagEndsAt, IsFar, IsNear, OpenedAt, SevenOnesEndAt, bit_of, flag}
pub use Rattle.bit_stuffing.specs.Found.{Found, found_from, judged, listed, octets_in, opened_before, seven_ones}
pub use Rattle.bit_stuffing.specs.Fours.{since_four}
pub use Rattle.bit_stuffing.specs.Pen.{written}
pub use Rattle.bit_stuffing.specs.Pieces.{Carries, EndsWhole, IsAnswer, IsWhole, Judged, content}
pub use Rattle.bit_stuffing.specs.SlotWriter.{Writer, WriterStands}
pub use Rattle.bit_stuffing.specs.Slots.{IsFrame, IsPlain, IsSlot, Slot, bits_from, fill, flags, framed, next_phase, opening, phase_from}
pub use Rattle.bit_stuffing.specs.Slots.{rest_of_flag, sent_bits, slot_bits}
pub use Rattle.bit_stuffing.specs.Slots.Slot.{Flags, Plain}
pub use Rattle.bit_stuffing.specs.Stuffing.{Fits, Stuffs, removed, room_after, room_behind, stuffed}
pub use Rattle.bit_stuffing.specs.declared.pen.Pen.{Pen}
pub use Rattle.bit_stuffing.specs.declared.piece.Piece.{Piece}
pub use Rattle.bit_stuffing.specs.declared.piece.Piece.TheVariants.{Aborted, Ragged, TooLong, TooShort, Whole}
pub use Rattle.frame_check.proofs.BitLists.{bits_of-append, bits_of-snoc, length-bits_of, length-low_bits, same_octets}
pub use Rattle.frame_check.specs.Bits.{bits_of, low_bits, number, octet_bits}
pub use Rattle.frame_check.specs.declared.sizes.TheConstants.{SLOT, WHOLE}
