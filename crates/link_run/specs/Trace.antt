-- The text of a trace: a line for each end and turn, the originator's first.
use Rattle.std.specs.Prelude.{ℕ, List, [], ◌∷◌, ◌++◌, length}
use Rattle.std.specs.Option.{option_map}
use Rattle.shared_terms.specs.declared.role.Role.{Role}
use Rattle.shared_terms.specs.declared.role.Role.TheVariants.{Originator, Answerer}
use Rattle.line_texts.specs.LineText.{trace_line}
use Rattle.link_run.specs.Run.{Side, Turn}

-- the line of an end in a turn
abbrev pub side_line : ℕ → Role → Side → List ℕ
side_line turn role s = trace_line turn role s.heard (option_map (λ slot. slot.sent) s.sent) s.given

-- both lines of a turn
abbrev pub turn_text : ℕ → Turn → List ℕ
turn_text turn t = side_line turn Originator t.orig ++ side_line turn Answerer t.answ

-- the lines of turns, the newest of which stands first in the list and last in the text
abbrev pub trace_text : List Turn → List ℕ
trace_text [] = []
trace_text (t ∷ ts) = trace_text ts ++ turn_text (length ts) t
