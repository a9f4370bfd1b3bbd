-- The first line in which a text differs from lines, and in what.
use Rattle.std.specs.Prelude.{◌≡◌, ◌≢◌, true, ℕ, ◌+◌, List, [], ◌∷◌, ◌++◌, length}
use Rattle.std.specs.List.{list_all}
use Rattle.trace_audit.specs.Cutting.{front_of, is_no_feed}
use Rattle.trace_audit.specs.Grammar.{HasParts}
use Rattle.trace_audit.specs.declared.line.LineText.{LineText}
use Rattle.shared_terms.specs.declared.audit_cause.AuditCause.{AuditCause}
use Rattle.shared_terms.specs.declared.audit_cause.AuditCause.TheVariants.{End, Beyond, Spelling, Turn, Role, Arrived, Sent, Break}
pub use Rattle.trace_audit.specs.Cutting.{is_no_feed}

-- a line with its line feed
abbrev pub fed : List ℕ → List ℕ
fed line = line ++ 10 ∷ []

-- the text of lines, each with its line feed
abbrev pub text_of : List (List ℕ) → List ℕ
text_of [] = []
text_of (line ∷ lines) = fed line ++ text_of lines

-- no line feed stands in any of these lines
abbrev pub AreWhole : List (List ℕ) → Type 0
AreWhole [] = Unit {0}
AreWhole (line ∷ lines) = (list_all is_no_feed line ≡ true) × AreWhole lines

-- These are the lines of a text, each of which ends with a line feed.
pub record IsCut (text : List ℕ) (lines : List (List ℕ)) : Type 0 where
  pub whole : AreWhole lines
  pub text_is : text ≡ text_of lines

-- the line that a text begins with, up to its line feed or the end of the text
abbrev pub own_line : List ℕ → List ℕ
own_line rest = front_of is_no_feed rest

-- the line is one that is read: it has no line feed
abbrev pub IsRead : List ℕ → Type 0
IsRead line = (text : LineText) × HasParts line text

-- the text stops before the line with its line feed is whole, and agrees so far
abbrev pub StopsIn : List ℕ → List ℕ → Type 0
StopsIn line rest = (missing : List ℕ) × (missing ≢ []) × (rest ++ missing ≡ fed line)

-- the text goes on with the line
abbrev pub GoesOnWith : List ℕ → List ℕ → Type 0
GoesOnWith line rest = (behind : List ℕ) × (rest ≡ fed line ++ behind)

-- the first part in which two read lines differ
abbrev pub PartsDiffer : LineText → LineText → AuditCause → Type 0
PartsDiffer a b Turn = a.turn ≢ b.turn
PartsDiffer a b Role = (a.turn ≡ b.turn) × (a.role ≢ b.role)
PartsDiffer a b Arrived = (a.turn ≡ b.turn) × (a.role ≡ b.role) × (a.arrived ≢ b.arrived)
PartsDiffer a b Sent = (a.turn ≡ b.turn) × (a.role ≡ b.role) × (a.arrived ≡ b.arrived) × (a.sent ≢ b.sent)
PartsDiffer a b Break = (a.turn ≡ b.turn) × (a.role ≡ b.role) × (a.arrived ≡ b.arrived) × (a.sent ≡ b.sent) × (a.given ≢ b.given)
PartsDiffer a b cause = ⊥

-- Both lines are read, and differ in this part first.
pub record ReadsDiffer (line own : List ℕ) (cause : AuditCause) : Type 0 where
  pub right : LineText
  pub other : LineText
  pub right_is : HasParts line right
  pub other_is : HasParts own other
  pub differ : PartsDiffer right other cause

-- in what a line differs from the one that stands in its place
abbrev pub OwnDiffers : List ℕ → List ℕ → AuditCause → Type 0
OwnDiffers line own Spelling = IsRead own → ⊥
OwnDiffers line own End = ⊥
OwnDiffers line own Beyond = ⊥
OwnDiffers line own cause = ReadsDiffer line own cause

-- What the text has in the place of the line is another line, not the beginning of this one.
pub record Departs (line rest : List ℕ) (cause : AuditCause) : Type 0 where
  pub stays : StopsIn line rest → ⊥
  pub other : GoesOnWith line rest → ⊥
  pub own : OwnDiffers line (own_line rest) cause

-- in what the text differs, from the line on
abbrev pub LineDiffers : List ℕ → List ℕ → AuditCause → Type 0
LineDiffers line rest End = StopsIn line rest
LineDiffers line rest cause = Departs line rest cause

-- likewise where there may be no line more
abbrev pub RestDiffers : List (List ℕ) → List ℕ → AuditCause → Type 0
RestDiffers [] rest cause = (cause ≡ Beyond) × (rest ≢ [])
RestDiffers (line ∷ more) rest cause = LineDiffers line rest cause

-- The text differs from the lines first in that line, counted from 1.
pub record FirstDiffers (lines : List (List ℕ)) (text : List ℕ) (number : ℕ) (cause : AuditCause) : Type 0 where
  pub before : List (List ℕ)
  pub more : List (List ℕ)
  pub rest : List ℕ
  pub lines_is : lines ≡ before ++ more
  pub text_is : text ≡ text_of before ++ rest
  pub number_is : number ≡ length before + 1
  pub differs : RestDiffers more rest cause

-- each line is one that is read
abbrev pub AreRead : List (List ℕ) → Type 0
AreRead [] = Unit {0}
AreRead (line ∷ lines) = IsRead line × AreRead lines
