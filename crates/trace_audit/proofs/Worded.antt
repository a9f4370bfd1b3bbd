-- The words of a trace's lines are read.
use Rattle.trace_audit.proofs.Cited.{arith, ◌≡◌, ◌≢◌, true, false, ℕ, List, [], ◌∷◌, length, None, refl, subst, list_all, Heard, Chance}
use Rattle.trace_audit.proofs.Cited.{is_chance, TraceLine, of, Role, Originator, Answerer, HasParts, chance_words, AreLines, TurnsHaveLines}
use Rattle.trace_audit.proofs.Cited.{ChancesHaveLines, LinesAreRead, line_of, IsReadable, parts_of_line, text_of_line, LineText}
use Rattle.link_run.specs.Run.{Side}
use Rattle.trace_audit.specs.Cutting.{is_no_feed}
use Rattle.trace_audit.specs.Lines.{side_words}

-- what is written is read
abbrev pub WrittenIsRead : Type 0
WrittenIsRead = (line : TraceLine) → IsReadable line → HasParts (text_of_line line) (parts_of_line line)

-- and what is read is whole
abbrev pub ReadIsWhole : Type 0
ReadIsWhole = (line : List ℕ) (text : LineText) → HasParts line text → list_all is_no_feed line ≡ true

plain : (heard : Heard) → heard ≢ Chance → is_chance heard ≡ false
plain other h = grind (arith)

-- the line of an end in a turn
side-text : (turn : ℕ) (role : Role) (s : Side) → is_chance s.heard ≡ false → text_of_line (line_of turn role s) ≡ side_words turn role s
side-text turn role s e = rw e refl

one : ReadIsWhole → (line : List ℕ) (text : LineText) → HasParts line text → AreLines (line ∷ [])
one whole line text h = (((text, h), tt), (whole line text h, tt))

pub turns-have-lines : LinesAreRead → WrittenIsRead → ReadIsWhole → TurnsHaveLines
turns-have-lines read written whole script files ts ends t mid outcome limits octets run heard is early =
    let o = parts Originator in
    let a = parts Answerer in
    (((_, o), ((_, a), tt)), (whole _ _ o, (whole _ _ a, tt)))
  where
    parts : (role : Role)
        → HasParts (side_words (length ts) role (of role t)) (parts_of_line (line_of (length ts) role (of role t)))
    parts role =
        subst (λ (l : List ℕ). HasParts l (parts_of_line (line_of (length ts) role (of role t))))
        (side-text (length ts) role (of role t) (plain (of role t).heard (heard role).well))
        (written (line_of (length ts) role (of role t)) (read script files ts ends t mid outcome limits octets run heard is early role))

-- that of a chance match
chance_line_of : ℕ → Role → TraceLine
chance_line_of turn role = record { turn = turn; role = role; arrived = Chance; sent = None; given = None }

pub chances-have-lines : WrittenIsRead → ReadIsWhole → ChancesHaveLines
unfolding chance_line_of
chances-have-lines written whole turn role early =
    one whole (chance_words turn role) (parts_of_line (chance_line_of turn role))
    (written (chance_line_of turn role)
    (record { turn = early; arrived = tt; sent = tt; given = tt; no_reply = λ c. refl; no_break = λ c. refl }))
