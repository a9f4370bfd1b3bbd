-- The text of a frame, composed of words.
use Rattle.std.specs.Prelude.{ℕ, ◌<◌, ◌≤◌, Bool, true, false, List, [], ◌++◌, length, codes, decimal, Option, Some, None, IfSome}
use Rattle.std.specs.Prelude.{Result, Ok, Err}
use Rattle.frame_check.specs.Octets.{AreOctets}
use Rattle.frame_check.specs.declared.sizes.TheConstants.{INFO}
use Rattle.lapm_frames.specs.declared.frame.Frame.{Frame}
use Rattle.lapm_frames.specs.declared.frame.Frame.TheVariants as frames
use Rattle.lapm_frames.specs.Parts.{FrameParts, parts_of}
use Rattle.break_signals.specs.declared.word.BreakWord.{BreakWord}
use Rattle.break_signals.specs.declared.word.BreakWord.TheVariants.{Brk, Ack}
use Rattle.break_signals.specs.declared.fault.BreakFault.{BreakFault}
use Rattle.break_signals.specs.Words.{word_in}

-- a number behind its label, in decimal digits
abbrev pub number_word : List ℕ → ℕ → List ℕ
number_word label n = label ++ decimal n

-- a command, or a response
abbrev pub kind_word : Bool → List ℕ
kind_word true = codes " cmd"
kind_word false = codes " rsp"

-- the poll or final bit
abbrev pub poll_word : Bool → List ℕ
poll_word true = codes " p=1"
poll_word false = codes " p=0"

-- a command, or a response; a frame with N(S) is always a command, and doesn't say so
abbrev pub direction_word : Option ℕ → Bool → List ℕ
direction_word None command = kind_word command
direction_word (Some ns) command = []

-- a number that the kind may have
abbrev pub if_numbered : List ℕ → Option ℕ → List ℕ
if_numbered label None = []
if_numbered label (Some n) = number_word label n

-- how many octets of information there are, if the kind has information
abbrev pub if_informed : Option (List ℕ) → List ℕ
if_informed None = []
if_informed (Some info) = number_word (codes " n=") (length info)

-- a break or its answer: its number, and its length in units of 10 ms
abbrev pub break_words : BreakWord → List ℕ
break_words (Brk number length_octet) = number_word (codes " brk ") number ++ number_word (codes " ") length_octet
break_words (Ack number length_octet) = number_word (codes " brkack ") number ++ number_word (codes " ") length_octet

-- the break's word that information is, where it is one
abbrev pub if_word : Result BreakWord BreakFault → Option BreakWord
if_word (Ok word) = Some word
if_word (Err fault) = None

-- the break's word that a frame carries: of all kinds UI alone carries breaks
abbrev pub break_in : Frame → Option BreakWord
break_in (frames.Ui command pf info) = if_word (word_in info)
break_in frame = None

-- what the information is: a break's word, or so many octets
abbrev pub information_words : Option BreakWord → Option (List ℕ) → List ℕ
information_words None info = if_informed info
information_words (Some word) info = break_words word

-- the text of a frame: its kind, whether it is a command, its numbers, its poll or final bit, and what its information is
abbrev pub text_of : FrameParts → Option BreakWord → List ℕ
text_of parts word =
    parts.name ++ direction_word parts.ns parts.command ++ if_numbered (codes " s=") parts.ns ++ if_numbered (codes " r=") parts.nr
    ++ poll_word parts.pf ++ information_words word parts.info

abbrev pub frame_text : Frame → List ℕ
frame_text frame = text_of (parts_of frame) (break_in frame)

-- information of at most INFO octets
abbrev pub IsInformation : List ℕ → Type 0
IsInformation info = (length info ≤ INFO) × AreOctets info

-- numbers are octets, and so is what the information has, at most INFO of them
abbrev pub IsPrintable : Frame → Type 0
IsPrintable frame =
    IfSome (parts_of frame).ns (λ ns. ns < 256) × IfSome (parts_of frame).nr (λ nr. nr < 256)
    × IfSome (parts_of frame).info IsInformation
