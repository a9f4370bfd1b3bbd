-- The lines that are read, by their words.
use Rattle.std.specs.Prelude.{◌≡◌, ◌⊎◌, ℕ, ◌<◌, ◌≤◌, ◌^◌, Bool, true, false, not, if◌then◌else◌, List, [], ◌++◌, length, codes, Option, Some, None, is_some, IfSome}
use Rattle.std.specs.Bool.{beq}
use Rattle.std.specs.Option.{option_map}
use Rattle.break_signals.specs.declared.word.BreakWord.{BreakWord}
use Rattle.break_signals.specs.declared.word.BreakWord.TheVariants.{Brk, Ack}
use Rattle.lapm_frames.specs.declared.kind.FrameKind.{FrameKind}
use Rattle.lapm_frames.specs.declared.kind.FrameKind.TheVariants.{Ui}
use Rattle.lapm_frames.specs.Parts.{parts_of, frame_of, kind_named}
use Rattle.line_texts.specs.FrameText.{kind_word, poll_word, number_word, break_words}
use Rattle.line_texts.specs.LineText.{line_begins, break_word}
use Rattle.trace_audit.specs.declared.line.LineText.{LineText}
use Rattle.trace_audit.specs.declared.shape.Shape.{Shape}
use Rattle.trace_audit.specs.declared.shape.Shape.TheVariants.{Numbered, Supervisory, Commanding, Responding, Rejecting, Exchanging, Unnumbered}
pub use Rattle.trace_audit.specs.declared.shape.Shape.{Shape}
pub use Rattle.trace_audit.specs.declared.shape.Shape.TheVariants.{Numbered, Supervisory, Commanding, Responding, Rejecting, Exchanging, Unnumbered}

-- numbers N(S) and N(R) are below this,
abbrev pub number_bound : ℕ
number_bound = 128

-- and turns and counts of octets below that
abbrev pub count_bound : ℕ
count_bound = 2 ^ 40

-- the shape of a kind's texts: by what its frames have, as commands and as responses; the information of a UI may be a break's word
abbrev pub shape_of : FrameKind → Shape
shape_of Ui = Unnumbered
shape_of kind =
    let command = parts_of (frame_of kind true 0 0 false []) in
    let response = parts_of (frame_of kind false 0 0 false []) in
    if is_some command.ns then Numbered
    else if is_some command.nr then Supervisory
    else if not (beq command.command response.command) then Exchanging
    else if command.command then Commanding
    else if is_some command.info then Rejecting
    else Responding

-- and of the texts that begin with a kind's name
abbrev pub shape_named : List ℕ → Option Shape
shape_named name = option_map shape_of (kind_named name)

-- The words of a frame's text. What a shape doesn't have counts for nothing.
pub record FrameWords : Type 0 where
  pub name : List ℕ
  pub command : Bool
  pub ns : ℕ
  pub nr : ℕ
  pub pf : Bool
  pub count : ℕ  -- octets of information
  pub word : Option BreakWord  -- or the break's word that it is

-- a break's number is 0 or 1, and its length an octet
abbrev pub IsBreak : BreakWord → Type 0
IsBreak (Brk number units) = (number < 2) × (units < 256)
IsBreak (Ack number units) = (number < 2) × (units < 256)

-- The numbers are within their bounds.
pub record AreInRange (w : FrameWords) : Type 0 where
  pub ns : w.ns < number_bound
  pub nr : w.nr < number_bound
  pub count : w.count < count_bound
  pub word : IfSome w.word IsBreak

-- a count of octets
abbrev pub count_word : ℕ → List ℕ
count_word n = number_word (codes " n=") n

-- a break's word, or a count
abbrev pub information_word : Option BreakWord → ℕ → List ℕ
information_word None n = count_word n
information_word (Some word) n = break_words word

-- what stands behind the name, by the shape
abbrev pub shape_text : Shape → FrameWords → List ℕ
shape_text Numbered w = number_word (codes " s=") w.ns ++ (number_word (codes " r=") w.nr ++ (poll_word w.pf ++ count_word w.count))
shape_text Supervisory w = kind_word w.command ++ (number_word (codes " r=") w.nr ++ poll_word w.pf)
shape_text Commanding w = kind_word true ++ poll_word w.pf
shape_text Responding w = kind_word false ++ poll_word w.pf
shape_text Rejecting w = kind_word false ++ (poll_word w.pf ++ count_word w.count)
shape_text Exchanging w = kind_word w.command ++ (poll_word w.pf ++ count_word w.count)
shape_text Unnumbered w = kind_word w.command ++ (poll_word w.pf ++ information_word w.word w.count)

-- The text of a frame.
pub record IsFrameText (text : List ℕ) : Type 0 where
  pub words : FrameWords
  pub shape : Shape
  pub named : shape_named words.name ≡ Some shape
  pub ranges : AreInRange words
  pub text_is : text ≡ words.name ++ shape_text shape words

-- a pattern or a frame
pub data IsSignal (text : List ℕ) : Type 0 where
  odp : text ≡ codes "odp" → IsSignal text
  adp : text ≡ codes "adp" → IsSignal text
  frame : IsFrameText text → IsSignal text

-- what arrives: nothing, a signal, or one that was lost
pub data IsHeard (text : List ℕ) : Type 0 where
  nothing : text ≡ codes "-" → IsHeard text
  lost : (signal : List ℕ) → IsSignal signal → text ≡ codes "lost " ++ signal → IsHeard text
  passed : IsSignal text → IsHeard text

-- what is sent: ones, flags, a signal, or nothing
pub data IsSent (text : List ℕ) : Type 0 where
  mark : text ≡ codes "mark" → IsSent text
  flags : text ≡ codes "flags" → IsSent text
  none : text ≡ codes "none" → IsSent text
  signal : IsSignal text → IsSent text

-- A chance line has nothing but the word `chance`.
pub record IsChance (line : List ℕ) (t : LineText) : Type 0 where
  pub arrived : t.arrived ≡ codes "chance"
  pub sent : t.sent ≡ []
  pub given : t.given ≡ None
  pub line_is : line ≡ line_begins t.turn t.role ++ codes "chance"

-- Any other line has what arrived, what was sent, and which break was given.
pub record IsPlain (line : List ℕ) (t : LineText) : Type 0 where
  pub arrived : IsHeard t.arrived
  pub sent : IsSent t.sent
  pub given : IfSome t.given (λ units. units < 256)
  pub line_is : line ≡ line_begins t.turn t.role ++ (t.arrived ++ (codes " > " ++ (t.sent ++ break_word t.given)))

-- A line, without its line feed, has these parts.
pub record HasParts (line : List ℕ) (t : LineText) : Type 0 where
  pub short : length line ≤ 160
  pub turn : t.turn < count_bound
  pub parts : IsChance line t ⊎ IsPlain line t
