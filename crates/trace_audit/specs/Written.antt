-- Lines that are read back once they are written.
use Rattle.std.specs.Prelude.{◌≡◌, ℕ, ◌<◌, true, if◌then◌else◌, List, ◌++◌, length, codes, None, IfSome}
use Rattle.lapm_frames.specs.declared.frame.Frame.{Frame}
use Rattle.lapm_frames.specs.declared.sent.Sent.{Sent}
use Rattle.lapm_frames.specs.declared.sent.Sent.TheVariants as slots
use Rattle.lapm_frames.specs.declared.heard.Heard.{Heard}
use Rattle.lapm_frames.specs.declared.heard.Heard.TheVariants.{Nothing, Passed, Lost, Chance}
use Rattle.lapm_frames.specs.Parts.{parts_of}
use Rattle.line_texts.specs.FrameText.{break_in}
use Rattle.line_texts.specs.LineText.{heard_word, sent_word, break_word, is_chance, line_begins}
use Rattle.line_texts.specs.declared.trace_line.TraceLine.{TraceLine}
use Rattle.trace_audit.specs.declared.line.LineText.{LineText}
use Rattle.trace_audit.specs.Grammar.{IsBreak, number_bound, count_bound}
use Rattle.trace_audit.specs.Reading.{chance_parts}

-- a frame whose numbers are below 128, whose information has fewer than 2^40 octets, and whose break has a number below 2 and a length that
-- is an octet
abbrev pub IsReadableFrame : Frame → Type 0
IsReadableFrame frame =
    IfSome (parts_of frame).ns (λ ns. ns < number_bound) × IfSome (parts_of frame).nr (λ nr. nr < number_bound)
    × IfSome (parts_of frame).info (λ info. length info < count_bound) × IfSome (break_in frame) IsBreak

-- what is sent: anything, with such a frame
abbrev pub IsReadableSent : Sent → Type 0
IsReadableSent slots.Mark = Unit {0}
IsReadableSent slots.Odp = Unit {0}
IsReadableSent slots.Adp = Unit {0}
IsReadableSent slots.Flags = Unit {0}
IsReadableSent (slots.Frame frame) = IsReadableFrame frame

-- what passes or is lost: a pattern, or such a frame
abbrev pub IsReadableSignal : Sent → Type 0
IsReadableSignal slots.Mark = ⊥
IsReadableSignal slots.Odp = Unit {0}
IsReadableSignal slots.Adp = Unit {0}
IsReadableSignal slots.Flags = ⊥
IsReadableSignal (slots.Frame frame) = IsReadableFrame frame

abbrev pub IsReadableHeard : Heard → Type 0
IsReadableHeard Nothing = Unit {0}
IsReadableHeard (Passed s) = IsReadableSignal s
IsReadableHeard (Lost s) = IsReadableSignal s
IsReadableHeard Chance = Unit {0}

-- A line that is read back. A chance line has no sent slot, and no break.
pub record IsReadable (line : TraceLine) : Type 0 where
  pub turn : line.turn < count_bound
  pub arrived : IsReadableHeard line.arrived
  pub sent : IfSome line.sent IsReadableSent
  pub given : IfSome line.given (λ units. units < 256)
  pub no_reply : is_chance line.arrived ≡ true → line.sent ≡ None
  pub no_break : is_chance line.arrived ≡ true → line.given ≡ None

-- the line without its line feed
abbrev pub text_of_line : TraceLine → List ℕ
text_of_line line =
    if is_chance line.arrived then line_begins line.turn line.role ++ codes "chance"
    else line_begins line.turn line.role ++ heard_word line.arrived ++ codes " > " ++ sent_word line.sent ++ break_word line.given

-- its parts
abbrev pub parts_of_line : TraceLine → LineText
parts_of_line line =
    if is_chance line.arrived then chance_parts line.turn line.role
    else record { turn = line.turn; role = line.role; arrived = heard_word line.arrived; sent = sent_word line.sent; given = line.given }
