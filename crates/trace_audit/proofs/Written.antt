-- What is written of a line has its parts.
use Rattle.trace_audit.proofs.Cited.{◌≡◌, ℕ, ◌<◌, ◌≤◌, Bool, true, false, cond, List, [], ◌++◌, length, codes, decimal, Option, Some, None}
use Rattle.trace_audit.proofs.Cited.{Result, Ok, Err, refl, sym, ap, ◌∙◌, arith, append_assoc, length-append, append-nil, inr}
use Rattle.trace_audit.proofs.Cited.{length-decimal-le, IfSome, BreakWord, Brk, Ack, Frame, Heard, Nothing, Passed, Lost, Chance, Sent}
use Rattle.trace_audit.proofs.Cited.{kind_word, poll_word, number_word, break_word, is_chance, line_begins, TraceLine, role_word, Role}
use Rattle.trace_audit.proofs.Cited.{Shape, Numbered, Supervisory, Commanding, Responding, Rejecting, Exchanging, Unnumbered, number_bound}
use Rattle.trace_audit.proofs.Cited.{count_bound, shape_named, FrameWords, IsBreak, count_word, information_word, shape_text, IsFrameText}
use Rattle.trace_audit.proofs.Cited.{IsSignal, odp, adp, frame, IsHeard, nothing, lost, passed, IsSent, mark, flags, none, signal, HasParts}
use Rattle.trace_audit.proofs.Cited.{chance_parts, IsReadableSent, IsReadableSignal, IsReadableHeard, IsReadable, text_of_line}
use Rattle.trace_audit.proofs.Cited.{parts_of_line}
use Rattle.std.proofs.Common.{nat_lt}
use Rattle.frame_check.specs.Octets.{AreOctets}
use Rattle.lapm_frames.specs.declared.frame.Frame.TheVariants as frames
use Rattle.lapm_frames.specs.declared.sent.Sent.TheVariants as slots
use Rattle.lapm_frames.specs.Parts.{parts_of}
use Rattle.break_signals.specs.declared.fault.BreakFault.{BreakFault}
use Rattle.break_signals.specs.declared.fault.BreakFault.TheVariants.{Kind, Number}
use Rattle.break_signals.specs.Words.{word_in, spelled}
use Rattle.break_signals.proofs.Spelling.{is_spelled_back_always}
use Rattle.line_texts.specs.FrameText.{IsInformation, if_word, break_in, frame_text, information_words}
use Rattle.line_texts.specs.LineText.{slot_word, heard_word, sent_word}
use Rattle.line_texts.specs.LineText.{line_text}
use Rattle.trace_audit.specs.Written.{IsReadableFrame}
use Rattle.trace_audit.proofs.Frames.{heard-short, sent-short}
use Rattle.line_texts.proofs.Fits.{short-break, short-role}

-- ---- breaks

-- a word that is read has a number below 2, and its octets are those of the information
abbrev number_in : BreakWord → ℕ
number_in (Brk number units) = number
number_in (Ack number units) = number

of-three : (kind number units : ℕ) (word : BreakWord) (a b c : Bool) → nat_lt number 2 ≡ c
    → cond a (cond c (Ok (cond b (Brk number units) (Ack number units))) (Err (Number number))) (Err (Kind kind)) ≡ Ok word
    → number_in word < 2
of-three kind number units word a b c is e = grind (arith)

of-others : (kind : ℕ) (word : BreakWord) (fault : BreakFault) (a : Bool) → cond a (Err fault) (Err (Kind kind)) ≡ Ok word
    → number_in word < 2
of-others kind word fault a e = grind (arith)

few-number : (info : List ℕ) (word : BreakWord) → word_in info ≡ Ok word → number_in word < 2
few-number info word e = grind (arith, of-others, of-three)

is-break : (word : BreakWord) → AreOctets (spelled word) → number_in word < 2 → IsBreak word
is-break word small few = grind (arith)

pub read-break : (info : List ℕ) (r : Result BreakWord BreakFault) → word_in info ≡ r → AreOctets info → IfSome (if_word r) IsBreak
read-break info r e small = grind (arith, is-break, is_spelled_back_always, few-number)

-- ---- frames

five : (n d s r p i : List ℕ) → n ++ d ++ s ++ r ++ p ++ i ≡ n ++ (d ++ (s ++ (r ++ (p ++ i))))
five n d s r p i = grind (arith, append_assoc)

abbrev of_words : List ℕ → Bool → ℕ → ℕ → Bool → ℕ → Option BreakWord → FrameWords
of_words name command ns nr pf n word = record { name = name; command = command; ns = ns; nr = nr; pf = pf; count = n; word = word }

framed : (shape : Shape) (w : FrameWords) (text : List ℕ) → shape_named w.name ≡ Some shape → w.ns < number_bound → w.nr < number_bound
    → w.count < count_bound → IfSome w.word IsBreak → text ≡ w.name ++ shape_text shape w → IsFrameText text
framed shape w text named ns nr n word e = grind (arith)

supervised : (name : List ℕ) (command : Bool) (nr : ℕ) (pf : Bool) → shape_named name ≡ Some Supervisory → nr < number_bound
    → IsFrameText (name ++ kind_word command ++ [] ++ number_word (codes " r=") nr ++ poll_word pf ++ [])
supervised name command nr pf named low =
    framed Supervisory (of_words name command 0 nr pf 0 None) _ named (omega arith) low (omega arith) tt
    (five name (kind_word command) [] (number_word (codes " r=") nr) (poll_word pf) []
    ∙ ap (λ t. name ++ (kind_word command ++ (number_word (codes " r=") nr ++ t))) (append-nil (poll_word pf)))

bare : (shape : Shape) (name : List ℕ) (command : Bool) (pf : Bool) → shape_named name ≡ Some shape
    → shape_text shape (of_words name command 0 0 pf 0 None) ≡ kind_word command ++ poll_word pf
    → IsFrameText (name ++ kind_word command ++ [] ++ [] ++ poll_word pf ++ [])
bare shape name command pf named e =
    framed shape (of_words name command 0 0 pf 0 None) _ named (omega arith) (omega arith) (omega arith) tt
    (five name (kind_word command) [] [] (poll_word pf) []
    ∙ ap (λ t. name ++ (kind_word command ++ t)) (append-nil (poll_word pf)) ∙ ap (λ t. name ++ t) (sym e))

informed : (shape : Shape) (name : List ℕ) (command : Bool) (pf : Bool) (n : ℕ) (word : Option BreakWord) (last : List ℕ)
    → shape_named name ≡ Some shape → n < count_bound → IfSome word IsBreak
    → shape_text shape (of_words name command 0 0 pf n word) ≡ kind_word command ++ (poll_word pf ++ last)
    → IsFrameText (name ++ kind_word command ++ [] ++ [] ++ poll_word pf ++ last)
informed shape name command pf n word last named low few e =
    framed shape (of_words name command 0 0 pf n word) _ named (omega arith) (omega arith) low few
    (five name (kind_word command) [] [] (poll_word pf) last ∙ ap (λ t. name ++ t) (sym e))

-- what a UI frame's information is
said : (word : Option BreakWord) (info : List ℕ) → information_words word (Some info) ≡ information_word word (length info)
said word info = grind (arith)

frame-is-text : (f : Frame) → IsReadableFrame f → IsFrameText (frame_text f)
frame-is-text (frames.I ns nr pf info) h =
    framed Numbered (of_words (codes "i") true ns nr pf (length info) None) _ refl h.0 h.1 h.2 tt
    (five (codes "i") [] (number_word (codes " s=") ns) (number_word (codes " r=") nr) (poll_word pf) (count_word (length info)))
frame-is-text (frames.Rr command nr pf) h = supervised (codes "rr") command nr pf refl h.1
frame-is-text (frames.Rnr command nr pf) h = supervised (codes "rnr") command nr pf refl h.1
frame-is-text (frames.Rej command nr pf) h = supervised (codes "rej") command nr pf refl h.1
frame-is-text (frames.Srej command nr pf) h = supervised (codes "srej") command nr pf refl h.1
frame-is-text (frames.Sabme pf) h = bare Commanding (codes "sabme") true pf refl refl
frame-is-text (frames.Disc pf) h = bare Commanding (codes "disc") true pf refl refl
frame-is-text (frames.Ua pf) h = bare Responding (codes "ua") false pf refl refl
frame-is-text (frames.Dm pf) h = bare Responding (codes "dm") false pf refl refl
frame-is-text (frames.Frmr pf info) h =
    informed Rejecting (codes "frmr") false pf (length info) None (count_word (length info)) refl h.2 tt refl
frame-is-text (frames.Ui command pf info) h =
    informed Unnumbered (codes "ui") command pf (length info) (if_word (word_in info))
    (information_words (if_word (word_in info)) (Some info)) refl
    h.2 h.3
    (ap (λ t. kind_word command ++ (poll_word pf ++ t)) (sym (said (if_word (word_in info)) info)))
frame-is-text (frames.Xid command pf info) h =
    informed Exchanging (codes "xid") command pf (length info) None (count_word (length info)) refl h.2 tt refl
frame-is-text (frames.Test command pf info) h =
    informed Exchanging (codes "test") command pf (length info) None (count_word (length info)) refl h.2 tt refl

-- what a frame says of a break, where a UI frame's information is octets
pub breaks : (f : Frame) → ((command pf : Bool) (info : List ℕ) → f ≡ frames.Ui command pf info → AreOctets info)
    → IfSome (break_in f) IsBreak
breaks other h = grind (arith, read-break)

-- a frame whose numbers are below 128 and whose information is octets, at most INFO of them, is one that is read back
pub octets-are-read : (f : Frame) → IfSome (parts_of f).ns (λ ns. ns < number_bound) → IfSome (parts_of f).nr (λ nr. nr < number_bound)
    → IfSome (parts_of f).info IsInformation → IsReadableFrame f
octets-are-read f ns nr info = grind (arith, breaks)

-- ---- lines

signal-is-text : (s : Sent) → IsReadableSignal s → IsSignal (slot_word s)
signal-is-text other h = grind (arith, odp, frame, frame-is-text)

heard-is-text : (heard : Heard) → IsReadableHeard heard → is_chance heard ≡ false → IsHeard (heard_word heard)
heard-is-text Nothing h c = nothing refl
heard-is-text (Passed s) h c = passed (signal-is-text s h)
heard-is-text (Lost s) h c = lost (slot_word s) (signal-is-text s h) refl
heard-is-text Chance h c = absurd cc

slot-is-text : (s : Sent) → IsReadableSent s → IsSent (slot_word s)
slot-is-text slots.Mark h = mark refl
slot-is-text slots.Odp h = signal (odp refl)
slot-is-text slots.Adp h = signal (adp refl)
slot-is-text slots.Flags h = flags refl
slot-is-text (slots.Frame f) h = signal (frame (frame-is-text f h))

sent-is-text : (sent : Option Sent) → IfSome sent IsReadableSent → IsSent (sent_word sent)
sent-is-text sent h = grind (arith, none, slot-is-text)

length-begins : (turn : ℕ) (role : Role) → turn < count_bound → length (line_begins turn role) ≤ 19
length-begins turn role low = omega (
  arith,
  length-append {A = ℕ} (decimal turn ++ codes " " ++ role_word role) (codes " "),
  length-append {A = ℕ} (decimal turn ++ codes " ") (role_word role),
  length-append {A = ℕ} (decimal turn) (codes " "),
  length-decimal-le 13 turn (omega arith) (omega (arith, low)) (omega (arith, low)),
  short-role role,
)

four : (a b c d : List ℕ) → a ++ b ++ codes " > " ++ c ++ d ≡ a ++ (b ++ (codes " > " ++ (c ++ d)))
four a b c d = grind (arith, append_assoc)

length-four : (a b c d : List ℕ) → length a ≤ 19 → length b ≤ 62 → length c ≤ 57 → length d ≤ 10
    → length (a ++ b ++ codes " > " ++ c ++ d) ≤ 160
length-four a b c d ha hb hc hd = grind (arith, length-append)

plain-has-parts : (line : TraceLine) → IsReadable line → is_chance line.arrived ≡ false
    → HasParts (line_begins line.turn line.role ++ heard_word line.arrived ++ codes " > " ++ sent_word line.sent ++ break_word line.given)
    (record { turn = line.turn; role = line.role; arrived = heard_word line.arrived; sent = sent_word line.sent; given = line.given })
plain-has-parts line h c =
    let a = line_begins line.turn line.role in
    let heard = heard-is-text line.arrived h.arrived c in
    let sent = sent-is-text line.sent h.sent in
    record {
      short = length-four a (heard_word line.arrived) (sent_word line.sent) (break_word line.given)
          (length-begins line.turn line.role h.turn)
          (heard-short (heard_word line.arrived) heard).1
          (sent-short (sent_word line.sent) sent).1
          (short-break line.given h.given);
      turn = h.turn;
      parts = inr (record {
        arrived = heard;
        sent = sent;
        given = h.given;
        line_is = four a (heard_word line.arrived) (sent_word line.sent) (break_word line.given);
      });
    }

chance-has-parts : (turn : ℕ) (role : Role) → turn < count_bound
    → HasParts (line_begins turn role ++ codes "chance") (chance_parts turn role)
chance-has-parts turn role low = grind (arith, length-begins, length-append)

-- what was written of a line is read as its parts
pub line-has-parts : (line : TraceLine) → IsReadable line → HasParts (text_of_line line) (parts_of_line line)
line-has-parts line h = go (is_chance line.arrived) refl
  where
    go : (b : Bool) → is_chance line.arrived ≡ b
        → HasParts
        (cond b (line_begins line.turn line.role ++ codes "chance")
        (line_begins line.turn line.role ++ heard_word line.arrived ++ codes " > " ++ sent_word line.sent ++ break_word line.given))
        (cond b (chance_parts line.turn line.role)
        (record { turn = line.turn; role = line.role; arrived = heard_word line.arrived; sent = sent_word line.sent; given = line.given }))
    go true e = chance-has-parts line.turn line.role h.turn
    go false e = plain-has-parts line h e

-- the line that is written is that with its line feed
pub line-is-fed : (line : TraceLine) → line_text line ≡ text_of_line line ++ codes "\n"
line-is-fed line = grind (arith)
