-- The text of a turn by what both ends heard, and sent and were given.
use Rattle.std.specs.Prelude.{ℕ, List, ◌++◌, Option}
use Rattle.std.specs.Option.{option_map}
use Rattle.shared_terms.specs.declared.role.Role.TheVariants.{Originator, Answerer}
use Rattle.shared_terms.specs.Both.{Both, of}
use Rattle.lapm_frames.specs.declared.sent.Sent.{Sent}
use Rattle.lapm_frames.specs.declared.heard.Heard.{Heard}
use Rattle.line_texts.specs.LineText.{line_of}

-- both lines of a turn, the originator's first: both ends send, or neither does
abbrev pub lines_of : ℕ → Both Heard → Both (Option ℕ) → Option (Both Sent) → List ℕ
lines_of turn heard given sent =
    line_of turn Originator heard.orig (option_map (of Originator) sent) given.orig
    ++ line_of turn Answerer heard.answ (option_map (of Answerer) sent) given.answ
