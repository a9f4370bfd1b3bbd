-- The text of a trace by its lines.
use Rattle.trace_audit.proofs.Cited.{arith, ◌≡◌, ℕ, List, [], ◌∷◌, ◌++◌, refl, sym, ap, append-nil, Turn, turn_text, trace_text, Originator}
use Rattle.trace_audit.proofs.Cited.{Answerer, text_of, turn_lines, trace_lines, TextsHaveLines}
use Rattle.link_run.specs.Trace.{side_line}
use Rattle.trace_audit.proofs.Lines.{text_of-append}

turn-cut : (turn : ℕ) (t : Turn) → turn_text turn t ≡ text_of (turn_lines turn t)
turn-cut turn t = ap (λ x. side_line turn Originator t.orig ++ x) (sym (append-nil (side_line turn Answerer t.answ)))

trace-cut : (ts : List Turn) → trace_text ts ≡ text_of (trace_lines ts)
trace-cut [] = refl
trace-cut (t ∷ ts) = grind (arith, turn-cut, text_of-append, trace-cut ts)

pub texts-have-lines : TextsHaveLines
texts-have-lines = record { turn = turn-cut; trace = trace-cut; chance = λ turn role. refl }
