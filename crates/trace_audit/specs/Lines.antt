-- The trace of turns by its lines.
use Rattle.std.specs.Prelude.{◌≡◌, ℕ, ◌<◌, ◌^◌, List, [], ◌∷◌, ◌++◌, length, codes}
use Rattle.std.specs.Option.{option_map}
use Rattle.shared_terms.specs.declared.role.Role.{Role}
use Rattle.shared_terms.specs.declared.role.Role.TheVariants.{Originator, Answerer}
use Rattle.line_texts.specs.LineText.{line_begins, heard_word, sent_word, break_word, chance_line}
use Rattle.shared_terms.specs.Both.{Both}
use Rattle.noise_script.specs.Script.{ScriptValue, IsInLimits}
use Rattle.link_run.specs.Run.{Accounts, Side, Spoken, Turn}
use Rattle.link_run.specs.Outcomes.{Outcome, TurnIs}
use Rattle.line_run.specs.Sampled.{HeardIn, LineRun}
use Rattle.line_run.specs.Scripted.{wire_of, link_of}
use Rattle.link_run.specs.Trace.{turn_text, trace_text}
use Rattle.trace_audit.specs.Differences.{fed, text_of, AreRead, AreWhole}
use Rattle.line_ends.specs.Plain.{AsksInOctets}

-- the line of an end in a turn, without its line feed
abbrev pub side_words : ℕ → Role → Side → List ℕ
side_words turn role s =
    line_begins turn role ++ heard_word s.heard ++ codes " > " ++ sent_word (option_map (λ (slot : Spoken). slot.sent) s.sent)
    ++ break_word s.given

-- that of a chance match
abbrev pub chance_words : ℕ → Role → List ℕ
chance_words turn role = line_begins turn role ++ codes "chance"

-- both lines of a turn, and all lines of turns
abbrev pub turn_lines : ℕ → Turn → List (List ℕ)
turn_lines turn t = side_words turn Originator t.orig ∷ side_words turn Answerer t.answ ∷ []

abbrev pub trace_lines : List Turn → List (List ℕ)
trace_lines [] = []
trace_lines (t ∷ ts) = trace_lines ts ++ turn_lines (length ts) t

-- The texts of turns, of traces and of the line of a chance match are those of their lines.
pub record TextsHaveLines : Type 0 where
  pub turn : (turn : ℕ) (t : Turn) → turn_text turn t ≡ text_of (turn_lines turn t)
  pub trace : (ts : List Turn) → trace_text ts ≡ text_of (trace_lines ts)
  pub chance : (turn : ℕ) (role : Role) → chance_line turn role ≡ fed (chance_words turn role)

-- each of these lines is one that is read, and no line feed stands in it
abbrev pub AreLines : List (List ℕ) → Type 0
AreLines lines = AreRead lines × AreWhole lines

-- Both lines of a turn are so, whatever the turn comes to,
abbrev pub TurnsHaveLines : Type 0
TurnsHaveLines = (script : ScriptValue) (files : Both (List ℕ)) (ts : List Turn) (ends : Accounts) (t : Turn) (mid : Accounts) (outcome : Outcome)
    → IsInLimits script → AsksInOctets script → LineRun (wire_of script) (link_of script files) ts ends → HeardIn (wire_of script) ts t
    → TurnIs (link_of script files) ts ends t mid outcome → length ts < 2 ^ 40 → AreLines (turn_lines (length ts) t)

-- and so is that of a chance match.
abbrev pub ChancesHaveLines : Type 0
ChancesHaveLines = (turn : ℕ) (role : Role) → turn < 2 ^ 40 → AreLines (chance_words turn role ∷ [])
