-- What the proofs of this crate name of the crates below, of the definitions, and of std.
pub use Rattle.std.proofs.Common.{Bool, IfSome, List, None, Option, Some, [], ap, append-nil, append_assoc, arith, cond, drop, false}
pub use Rattle.std.proofs.Common.{filter_map, get_or, if◌then◌else◌, inl, inr, length, length-append, length-set, map, nat_eq, nat_le}
pub use Rattle.std.proofs.Common.{nat_lt, pos, refl, rules, subst, suc, sym, take, true, zero, ℕ, ◌&&◌, ◌*◌, ◌++◌, ◌+◌, ◌-◌, ◌<◌, ◌^◌, ◌||◌}
pub use Rattle.std.proofs.Common.{◌∙◌, ◌∷◌, ◌≡◌, ◌≢◌, ◌≤◌, ◌⊎◌}
pub use Rattle.std.proofs.lemmas.Bool.{and_parts, cases_lt, false≢true, leb-true, not-true}
pub use Rattle.std.proofs.lemmas.Bool.Decides.{nat_tests}
pub use Rattle.std.proofs.lemmas.Int.{ints}
pub use Rattle.std.proofs.lemmas.List.{nil_from_length, take_more}
pub use Rattle.std.proofs.lemmas.Result.{err_from_is_err_and}
pub use Rattle.std.specs.Int.{cast_signed, cast_unsigned, w16}
pub use Rattle.std.specs.List.{cons_option, list_all, list_any}
pub use Rattle.frame_check.specs.declared.sizes.TheConstants.{INFO}
pub use Rattle.noise_script.specs.Batches.{AreWithin, Grow, at_place}
pub use Rattle.noise_script.specs.Breaks.{in_order, placed, placed_each}
pub use Rattle.noise_script.specs.Draft.{Holds, HoldsUpTo}
pub use Rattle.noise_script.specs.Forms.{ARole, Argument, Fails, FirstFails, Kind, Misspells, Number, NumberIs, Reads, RoleIs, Signed}
pub use Rattle.noise_script.specs.Forms.{SignedIs, Spells, SpellsEach, SpellsLine, Value, arguments_of, form_of, kind_of, most, row}
pub use Rattle.noise_script.specs.Forms.{too_many, values_of, word_of}
pub use Rattle.noise_script.specs.Grammar.{AreAllowed, FirstFault, IsFaultOf, IsFaulty, Says, ScriptSpelling, break_said, breaks_in}
pub use Rattle.noise_script.specs.Grammar.{delays_said, each, first, hit_said, length_said, loss_said, noise_said, offered_in, passed_over}
pub use Rattle.noise_script.specs.Grammar.{pause_said, same_kind, script_of, spelled, standing, tries_said, whole, window_said}
pub use Rattle.noise_script.specs.Lines.{begins_with, is_passed_over, lines_of, without_return, words_of}
pub use Rattle.noise_script.specs.Numbers.{is_digit, is_number, is_signed, signed_value_of, value_of}
pub use Rattle.noise_script.specs.Offsets.{AreQuiet, IsQuiet, IsWithin, covers, drawn_offset, hit_offset, meets, noise_offset, nothing}
pub use Rattle.noise_script.specs.Offsets.{plus, stream_of, sum_of, word_at}
pub use Rattle.noise_script.specs.Script.{ScriptValue}
pub use Rattle.noise_script.specs.declared.draft.Draft.{Draft}
pub use Rattle.noise_script.specs.declared.entry.Break.{Break}
pub use Rattle.noise_script.specs.declared.entry.Entry.{Entry}
pub use Rattle.noise_script.specs.declared.entry.Hit.{Hit}
pub use Rattle.noise_script.specs.declared.entry.Noise.{Noise}
pub use Rattle.noise_script.specs.declared.fault.ScriptFault.{ScriptFault}
pub use Rattle.noise_script.specs.declared.forms.Form.{Form}
pub use Rattle.noise_script.specs.declared.offered.Offered.{Offered}
pub use Rattle.noise_script.specs.declared.offset.Offset.{Offset}
pub use Rattle.rand_pcg.specs.Lcg.{increment_of}
pub use Rattle.shared_terms.specs.Role.{role_word, same_role}
pub use Rattle.shared_terms.specs.declared.cause.Cause.{Cause}
pub use Rattle.shared_terms.specs.declared.role.Role.{Role}
pub use Rattle.shared_terms.specs.declared.role.Role.TheVariants.{Answerer, Originator}
