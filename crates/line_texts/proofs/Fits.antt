-- The texts of frames and of lines fit their lists.
use Rattle.line_texts.proofs.Names.{◌≡◌, ◌+◌, ◌≤◌, ◌++◌, length, codes, refl, sym, subst, if_numbered, if_informed, information_words}
use Rattle.line_texts.proofs.Names.{direction_word, poll_word, text_of, slot_word, heard_word, sent_word, break_word, is_chance}
use Rattle.std.proofs.Common.{ℕ, ◌^◌, ◌<◌, Bool, true, false, if◌then◌else◌, List, [], decimal, arith}
use Rattle.std.proofs.Common.{length-append, Option, Some, None, Result, Ok, Err}
use Rattle.std.specs.Prelude.{IfSome}
use Rattle.std.proofs.lemmas.Fmt.{length-decimal-le}
use Rattle.frame_check.specs.Octets.{AreOctets}
use Rattle.frame_check.specs.declared.sizes.TheConstants.{INFO}
use Rattle.shared_terms.specs.declared.role.Role.{Role}
use Rattle.shared_terms.specs.declared.role.Role.TheVariants.{Originator, Answerer}
use Rattle.shared_terms.specs.Role.{role_word}
use Rattle.lapm_frames.specs.declared.frame.Frame.{Frame}
use Rattle.lapm_frames.specs.declared.frame.Frame.TheVariants as frames
use Rattle.lapm_frames.specs.Parts.{FrameParts, parts_of}
use Rattle.lapm_frames.proofs.Forms.{short-name}
use Rattle.break_signals.specs.declared.word.BreakWord.{BreakWord}
use Rattle.break_signals.specs.declared.word.BreakWord.TheVariants.{Brk, Ack}
use Rattle.break_signals.specs.declared.fault.BreakFault.{BreakFault}
use Rattle.break_signals.specs.Words.{word_in, spelled}
use Rattle.break_signals.proofs.Spelling.{is_spelled_back_always}
use Rattle.lapm_frames.specs.declared.sent.Sent.{Sent}
use Rattle.lapm_frames.specs.declared.sent.Sent.TheVariants as slots
use Rattle.lapm_frames.specs.declared.heard.Heard.{Heard}
use Rattle.lapm_frames.specs.declared.heard.Heard.TheVariants.{Nothing, Passed, Lost, Chance}
use Rattle.line_texts.specs.FrameText.{IsInformation, IsPrintable, number_word, if_word, break_in, break_words}
use Rattle.line_texts.specs.FrameText.{frame_text}
use Rattle.line_texts.specs.LineText.{IsPrintableSlot, IsPrintableHeard, IsPrintableLine}
use Rattle.line_texts.specs.LineText.{line_begins, trace_line, chance_line, line_text}
use Rattle.line_texts.specs.declared.trace_line.TraceLine.{TraceLine}
use Rattle.line_texts.specs.declared.words.TheConstants.{TEXT}

-- ---- numbers

-- a number of four digits behind a label that stands behind octets
pub length-labelled : (before label : List ℕ) (n : ℕ) → n ≤ 9999
    → length (before ++ number_word label n) ≤ length before + length label + 4
length-labelled before label n low =
    omega (
      arith,
      length-append {A = ℕ} before (label ++ decimal n),
      length-append {A = ℕ} label (decimal n),
      length-decimal-le 4 n (omega arith) (omega arith) (omega arith),
    )

-- an octet has three digits at the most, and the count of the information has four
short-number : (label : List ℕ) (n : ℕ) → n < 256 → length (number_word label n) ≤ length label + 3
short-number label n low = omega (
  arith,
  length-append {A = ℕ} label (decimal n),
  length-decimal-le 3 n (omega arith) (omega arith) (omega arith),
)

short-count : (n : ℕ) → n ≤ INFO → length (number_word (codes " n=") n) ≤ 7
short-count n low = omega (
  arith,
  length-append {A = ℕ} (codes " n=") (decimal n),
  length-decimal-le 4 n (omega arith) (omega arith) (omega arith),
)

short-numbered : (label : List ℕ) (n : Option ℕ) → IfSome n (λ n. n < 256) → length (if_numbered label n) ≤ length label + 3
short-numbered label None low = omega arith
short-numbered label (Some n) low = short-number label n low

-- ---- what information is

short-informed : (info : Option (List ℕ)) → IfSome info IsInformation → length (if_informed info) ≤ 7
short-informed None low = omega arith
short-informed (Some info) low = short-count (length info) low.0

two-words : (label : List ℕ) (number units : ℕ) → length label ≤ 8 → number < 256 → units < 256
    → length (number_word label number ++ number_word (codes " ") units) ≤ 15
two-words label number units short low few = omega (
  arith,
  length-append {A = ℕ} (number_word label number) (number_word (codes " ") units),
  short-number label number low,
  short-number (codes " ") units few,
)

-- a word that octets spell has octets
short-words : (word : BreakWord) → AreOctets (spelled word) → length (break_words word) ≤ 15
short-words (Brk number units) small =
    two-words (codes " brk ") number units (omega arith) (small 1 0 (omega arith)) (small 2 0 (omega arith))
short-words (Ack number units) small =
    two-words (codes " brkack ") number units (omega arith) (small 1 0 (omega arith)) (small 2 0 (omega arith))

short-read : (info : List ℕ) (r : Result BreakWord BreakFault) → word_in info ≡ r → IsInformation info
    → length (information_words (if_word r) (Some info)) ≤ 15
short-read info (Ok word) e small = short-words word (subst AreOctets (sym (is_spelled_back_always info word e)) small.1)
short-read info (Err fault) e small = omega (arith, short-count (length info) small.0)

short-plain : (info : Option (List ℕ)) → IfSome info IsInformation → length (information_words None info) ≤ 15
short-plain info small = omega (arith, short-informed info small)

short-information : (frame : Frame) → IfSome (parts_of frame).info IsInformation
    → length (information_words (break_in frame) (parts_of frame).info) ≤ 15
short-information (frames.Ui command pf info) small = short-read info (word_in info) refl small
short-information (frames.I ns nr pf info) small = short-plain (Some info) small
short-information (frames.Rr command nr pf) small = short-plain None small
short-information (frames.Rnr command nr pf) small = short-plain None small
short-information (frames.Rej command nr pf) small = short-plain None small
short-information (frames.Srej command nr pf) small = short-plain None small
short-information (frames.Sabme pf) small = short-plain None small
short-information (frames.Disc pf) small = short-plain None small
short-information (frames.Ua pf) small = short-plain None small
short-information (frames.Dm pf) small = short-plain None small
short-information (frames.Frmr pf info) small = short-plain (Some info) small
short-information (frames.Xid command pf info) small = short-plain (Some info) small
short-information (frames.Test command pf info) small = short-plain (Some info) small

-- ---- frames

short-direction : (ns : Option ℕ) (command : Bool) → length (direction_word ns command) ≤ 4
short-direction None true = omega arith
short-direction None false = omega arith
short-direction (Some ns) command = omega arith

pub short-poll : (pf : Bool) → length (poll_word pf) ≤ 4
short-poll true = omega arith
short-poll false = omega arith

-- the length of six short words
six : (a b c d e f : List ℕ) → length a ≤ 5 → length b ≤ 4 → length c ≤ 6 → length d ≤ 6 → length e ≤ 4 → length f ≤ 15
    → length (a ++ b ++ c ++ d ++ e ++ f) ≤ 40
six a b c d e f ha hb hc hd he hf = omega (
  arith,
  length-append {A = ℕ} (a ++ b ++ c ++ d ++ e) f,
  length-append {A = ℕ} (a ++ b ++ c ++ d) e,
  length-append {A = ℕ} (a ++ b ++ c) d,
  length-append {A = ℕ} (a ++ b) c,
  length-append {A = ℕ} a b,
)

short-text : (parts : FrameParts) (word : Option BreakWord) → length parts.name ≤ 5 → IfSome parts.ns (λ ns. ns < 256)
    → IfSome parts.nr (λ nr. nr < 256) → length (information_words word parts.info) ≤ 15 → length (text_of parts word) ≤ 40
short-text parts word name ns nr info =
    six parts.name
    (direction_word parts.ns parts.command)
    (if_numbered (codes " s=") parts.ns)
    (if_numbered (codes " r=") parts.nr)
    (poll_word parts.pf)
    (information_words word parts.info)
    name
    (short-direction parts.ns parts.command)
    (short-numbered (codes " s=") parts.ns ns)
    (short-numbered (codes " r=") parts.nr nr)
    (short-poll parts.pf)
    info

short-frame : (frame : Frame) → IsPrintable frame → length (frame_text frame) ≤ 40
short-frame frame h = short-text (parts_of frame) (break_in frame) (short-name frame) h.0 h.1 (short-information frame h.2)

pub text-fits : (frame : Frame) → IsPrintable frame → length (frame_text frame) ≤ TEXT
text-fits frame h = omega (arith, short-frame frame h)

-- ---- lines

short-slot : (s : Sent) → IsPrintableSlot s → length (slot_word s) ≤ 40
short-slot slots.Mark h = omega arith
short-slot slots.Odp h = omega arith
short-slot slots.Adp h = omega arith
short-slot slots.Flags h = omega arith
short-slot (slots.Frame frame) h = short-frame frame h

short-heard : (heard : Heard) → IsPrintableHeard heard → length (heard_word heard) ≤ 45
short-heard Nothing h = omega arith
short-heard (Passed s) h = omega (arith, short-slot s h)
short-heard (Lost s) h = omega (arith, length-append {A = ℕ} (codes "lost ") (slot_word s), short-slot s h)
short-heard Chance h = omega arith

short-sent : (sent : Option Sent) → IfSome sent IsPrintableSlot → length (sent_word sent) ≤ 40
short-sent None h = omega arith
short-sent (Some s) h = short-slot s h

pub short-break : (given : Option ℕ) → IfSome given (λ units. units < 256) → length (break_word given) ≤ 10
short-break None h = omega arith
short-break (Some units) h = short-number (codes " break=") units h

pub short-role : (role : Role) → length (role_word role) ≤ 4
short-role Originator = omega arith
short-role Answerer = omega arith

-- a number of 64 bits has twenty digits at the most
short-beginning : (turn : ℕ) (role : Role) → turn < 2 ^ 64 → length (line_begins turn role) ≤ 26
short-beginning turn role low = omega (
  arith,
  length-append {A = ℕ} (number_word [] turn ++ codes " " ++ role_word role) (codes " "),
  length-append {A = ℕ} (number_word [] turn ++ codes " ") (role_word role),
  length-append {A = ℕ} (number_word [] turn) (codes " "),
  length-decimal-le 20 turn (omega arith) (omega arith) (omega arith),
  short-role role,
)

-- the length of a line by its words
of-words : (a b c d : List ℕ) → length a ≤ 26 → length b ≤ 45 → length c ≤ 40 → length d ≤ 10
    → length (a ++ b ++ codes " > " ++ c ++ d ++ codes "\n") ≤ 160
of-words a b c d ha hb hc hd = omega (
  arith,
  length-append {A = ℕ} (a ++ b ++ codes " > " ++ c ++ d) (codes "\n"),
  length-append {A = ℕ} (a ++ b ++ codes " > " ++ c) d,
  length-append {A = ℕ} (a ++ b ++ codes " > ") c,
  length-append {A = ℕ} (a ++ b) (codes " > "),
  length-append {A = ℕ} a b,
)

short-line : (line : TraceLine) → IsPrintableLine line
    → length (trace_line line.turn line.role line.arrived line.sent line.given) ≤ 160
short-line line h =
    of-words (line_begins line.turn line.role) (heard_word line.arrived) (sent_word line.sent) (break_word line.given)
    (short-beginning line.turn line.role h.turn)
    (short-heard line.arrived h.arrived)
    (short-sent line.sent h.sent)
    (short-break line.given h.given)

short-chance : (turn : ℕ) (role : Role) → turn < 2 ^ 64 → length (chance_line turn role) ≤ 160
short-chance turn role low = omega (
  arith,
  length-append {A = ℕ} (line_begins turn role ++ heard_word Chance) (codes "\n"),
  length-append {A = ℕ} (line_begins turn role) (heard_word Chance),
  short-beginning turn role low,
)

either : (chance : Bool) (a b : List ℕ) → length a ≤ 160 → length b ≤ 160 → length (if chance then a else b) ≤ 160
either true a b ha hb = ha
either false a b ha hb = hb

pub line-fits : (line : TraceLine) → IsPrintableLine line → length (line_text line) ≤ TEXT
line-fits line h =
    either (is_chance line.arrived) (chance_line line.turn line.role) (trace_line line.turn line.role line.arrived line.sent line.given)
    (short-chance line.turn line.role h.turn)
    (short-line line h)
