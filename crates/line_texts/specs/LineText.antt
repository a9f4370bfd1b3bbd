-- The text of a line of a trace: what arrived at an end in a turn, what it sent, and which break its user was given.
use Rattle.std.specs.Prelude.{ℕ, ◌<◌, ◌^◌, Bool, true, false, if◌then◌else◌, List, [], ◌++◌, codes, Option, Some, None, IfSome}
use Rattle.shared_terms.specs.declared.role.Role.{Role}
use Rattle.shared_terms.specs.Role.{role_word}
use Rattle.lapm_frames.specs.declared.sent.Sent.{Sent}
use Rattle.lapm_frames.specs.declared.sent.Sent.TheVariants as slots
use Rattle.lapm_frames.specs.declared.heard.Heard.{Heard}
use Rattle.lapm_frames.specs.declared.heard.Heard.TheVariants.{Nothing, Passed, Lost, Chance}
use Rattle.line_texts.specs.FrameText.{IsPrintable, frame_text, number_word}
use Rattle.line_texts.specs.declared.trace_line.TraceLine.{TraceLine}

-- a slot as it is sent
abbrev pub slot_word : Sent → List ℕ
slot_word slots.Mark = codes "mark"
slot_word slots.Odp = codes "odp"
slot_word slots.Adp = codes "adp"
slot_word slots.Flags = codes "flags"
slot_word (slots.Frame frame) = frame_text frame

-- what arrived: an idle slot and none look alike
abbrev pub heard_word : Heard → List ℕ
heard_word Nothing = codes "-"
heard_word (Passed s) = slot_word s
heard_word (Lost s) = codes "lost " ++ slot_word s
heard_word Chance = codes "chance"

-- what was sent
abbrev pub sent_word : Option Sent → List ℕ
sent_word None = codes "none"
sent_word (Some s) = slot_word s

-- a break that was given, by its length in units of 10 ms
abbrev pub break_word : Option ℕ → List ℕ
break_word None = []
break_word (Some length_octet) = number_word (codes " break=") length_octet

-- a line's turn and role
abbrev pub line_begins : ℕ → Role → List ℕ
line_begins turn role = number_word [] turn ++ codes " " ++ role_word role ++ codes " "

-- the line of an end in a turn
abbrev pub trace_line : ℕ → Role → Heard → Option Sent → Option ℕ → List ℕ
trace_line turn role heard sent given =
    line_begins turn role ++ heard_word heard ++ codes " > " ++ sent_word sent ++ break_word given ++ codes "\n"

-- the one line of a turn in which that role's slot is a chance match
abbrev pub chance_line : ℕ → Role → List ℕ
chance_line turn role = line_begins turn role ++ heard_word Chance ++ codes "\n"

-- whether it is a chance match
abbrev pub is_chance : Heard → Bool
is_chance Nothing = false
is_chance (Passed s) = false
is_chance (Lost s) = false
is_chance Chance = true

-- the line of what arrived, which may be a chance match: then it says nothing more
abbrev pub line_of : ℕ → Role → Heard → Option Sent → Option ℕ → List ℕ
line_of turn role heard sent given = if is_chance heard then chance_line turn role else trace_line turn role heard sent given

-- a line's text
abbrev pub line_text : TraceLine → List ℕ
line_text line = line_of line.turn line.role line.arrived line.sent line.given

-- a slot with a frame whose numbers are octets
abbrev pub IsPrintableSlot : Sent → Type 0
IsPrintableSlot slots.Mark = Unit {0}
IsPrintableSlot slots.Odp = Unit {0}
IsPrintableSlot slots.Adp = Unit {0}
IsPrintableSlot slots.Flags = Unit {0}
IsPrintableSlot (slots.Frame frame) = IsPrintable frame

abbrev pub IsPrintableHeard : Heard → Type 0
IsPrintableHeard Nothing = Unit {0}
IsPrintableHeard (Passed s) = IsPrintableSlot s
IsPrintableHeard (Lost s) = IsPrintableSlot s
IsPrintableHeard Chance = Unit {0}

-- a line whose numbers are of 64 bits, and whose octets are octets
pub record IsPrintableLine (line : TraceLine) : Type 0 where
  pub turn : line.turn < 2 ^ 64
  pub arrived : IsPrintableHeard line.arrived
  pub sent : IfSome line.sent IsPrintableSlot
  pub given : IfSome line.given (λ units. units < 256)
