-- What the proofs of this crate name of the crates below, of the definitions, and of std.
pub use Rattle.std.proofs.Common.{ap, append_assoc, codes, length, refl, subst, sym, ◌++◌, ◌+◌, ◌∙◌, ◌≡◌, ◌≤◌}
pub use Rattle.std.specs.Option.{option_map}
pub use Rattle.line_texts.specs.FrameText.{direction_word, if_informed, if_numbered, information_words, poll_word, text_of}
pub use Rattle.line_texts.specs.LineText.{break_word, heard_word, is_chance, sent_word, slot_word}
