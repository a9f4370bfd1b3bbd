-- For which turns a tap stands, and what a turn of it answers.
use Rattle.std.specs.Prelude.{◌≡◌, ◌≢◌, ◌⊎◌, ℕ, ◌+◌, ◌*◌, ◌<◌, ◌≤◌, IsTrue, List, [], ◌∷◌, ◌++◌, length, take, Option, Some, None, Result, Ok, Err}
use Rattle.std.specs.Option.{MatchOption}
use Rattle.outside_calls.specs.Folder.{FolderState, octets_at}
use Rattle.outside_calls.specs.Outputs.{AddEach, AddPart}
use Rattle.frame_check.specs.declared.check.Check.{Check}
use Rattle.shared_terms.specs.declared.role.Role.{Role}
use Rattle.shared_terms.specs.declared.role.Role.TheVariants.{Originator, Answerer}
use Rattle.shared_terms.specs.Role.{other}
use Rattle.sample_line.specs.Mode.{mode_of}
use Rattle.shared_terms.specs.Both.{Both, of}
use Rattle.lapm_frames.specs.declared.heard.Heard.{Heard}
use Rattle.lapm_frames.specs.declared.sent.Sent.{Sent}
use Rattle.lapm_frames.specs.declared.heard.Heard.TheVariants.{Chance}
use Rattle.recordings.specs.declared.header.TheConstants.{HEADER}
use Rattle.recordings.specs.Recording.{header_of}
use Rattle.noise_script.specs.Script.{IsInLimits}
use Rattle.link_run.specs.Run.{Spoken, Side, Turn}
use Rattle.link_run.specs.Trace.{trace_text, turn_text}
use Rattle.link_run.specs.Listened.{check_by, judged_by, given_to}
use Rattle.sample_line.specs.Signals.{signal_of}
use Rattle.sample_line.specs.Coder.{IsCodedAs}
use Rattle.line_run.specs.Sampled.{Wire, signals, IsHeardOf}
use Rattle.line_run.specs.Ends.{Left}
use Rattle.line_run.specs.Stream.{both_sent_by}
use Rattle.line_world.specs.declared.directions.LineEnd.{LineEnd}
use Rattle.line_world.specs.Lines.{AreWaiting, HaveRoom}
use Rattle.line_tap.specs.declared.reader.SlotReader.{SlotReader}
use Rattle.line_tap.specs.Tapping.{Tapping, tapping, line_of, terms_of, octets_of, HoldsNext, Tells, told}
use Rattle.line_tap.specs.Ends.{TapEnd, EndsBy, EndsLine, IsFirstRefused}
use Rattle.line_tap.specs.Ends as ends
use Rattle.command_base.specs.declared.status.Status.TheVariants.{BadTap}
use Rattle.command_base.specs.declared.stop.Stop.{Stop}
use Rattle.command_base.specs.declared.stop.Stop.TheVariants.{Own, Read, Write, Say, NoMemory}
use Rattle.command_base.specs.Inputs.{ReadTo}
use Rattle.line_tap.specs.declared.limits.TheConstants.{TAP_LIMIT}
use Rattle.line_tap.specs.declared.step.TapStep.{TapStep}
use Rattle.line_tap.specs.declared.step.TapStep.TheVariants as steps
use Rattle.line_tap.specs.declared.tapping.Tap.{Tap}
use Rattle.line_tap.specs.declared.tapping.Hearing.{Hearing}
use Rattle.line_tap.specs.End.{ReadsOn, Slot, slot_as}
use Rattle.line_tap.specs.EndListener.{IsIdle, ListensFor, ListensToo}
use Rattle.line_tap.specs.Answers.{stop_by}
use Rattle.line_tap.specs.Names.{TapNames, recording_of, outputs_of}
use Rattle.line_tap.specs.Turn.{left_of, added, AddsGot, AddsTurn, AddsChance}
use Rattle.line_world.specs.Faults.{end_of}
use Rattle.line_world.specs.Turns.{held_of}

-- ---- what was read of the recordings

-- a recording was read so far: its header, and these octets behind it
abbrev pub IsReadTo : FolderState → FolderState → TapNames → Role → List ℕ → Type 0
IsReadTo start now n role body =
    ReadTo start now (recording_of role n) TAP_LIMIT (HEADER + length body) (header_of (mode_of role) ++ body)

abbrev pub AreReadTo : FolderState → FolderState → TapNames → Both (List ℕ) → Type 0
AreReadTo start now n bodies = (role : Role) → IsReadTo start now n role (of role bodies)

-- a recording of which less than so many slots was read is read to its end
abbrev pub IsReadOut : FolderState → TapNames → Wire → ℕ → Role → List ℕ → Type 0
IsReadOut start n c turns role body =
    length body < octets_of c turns → IsTrue (start.tells (recording_of role n))
    → header_of (mode_of role) ++ body ≡ octets_at start (recording_of role n)

abbrev pub AreReadOut : FolderState → TapNames → Tapping → List Turn → Type 0
AreReadOut start n x ts = (role : Role) → IsReadOut start n (line_of x) (length ts + 1) role (of role x.bodies)

-- ---- between turns

-- The readers have read all slots of these turns, and those are all that was read.
pub record IsBehind (tap : Tap) (x : Tapping) (ts : List Turn) : Type 0 where
  pub script_is : tap.script ≡ x.script
  pub tells : Tells x ts
  pub turn : tap.turn ≡ length ts
  pub at : tap.at ≡ HEADER + octets_of (line_of x) (length ts)
  pub orig : ReadsOn tap.orig.reader (line_of x) (check_by (terms_of x)) Originator ts x.bodies.orig
  pub answ : ReadsOn tap.answ.reader (line_of x) (check_by (terms_of x)) Answerer ts x.bodies.answ
  pub orig_room : length tap.orig.piece.items ≡ 4 * (line_of x).symbols
  pub answ_room : length tap.answ.piece.items ≡ 4 * (line_of x).symbols

-- The tap has made these turns.
pub record TapAfter (tap : Tap) (x : Tapping) (ts : List Turn) : Type 0 where
  pub behind : IsBehind tap x ts
  pub orig : ListensFor tap.orig.listener (terms_of x) Originator ts
  pub answ : ListensFor tap.answ.listener (terms_of x) Answerer ts
  pub lines : AreWaiting tap.lines (line_of x) 1 (both_sent_by 0 ts)

-- A turn may be made.
pub record IsReady (tap : Tap) : Type 0 where
  pub limits : IsInLimits tap.script
  pub orig : IsIdle tap.orig.listener tap.turn
  pub answ : IsIdle tap.answ.listener tap.turn
  pub early : tap.turn ≤ tap.at
  pub within : tap.at ≤ TAP_LIMIT
  pub what : Tapping
  pub turns : List Turn
  pub after : TapAfter tap what turns

-- ---- within a turn

-- What both ends hear in the turn after these.
pub record HearsThese (x : Tapping) (ts : List Turn) (heard : Both Heard) : Type 0 where
  pub heard_of : (role : Role) → IsHeardOf (line_of x) (other role) ts (judged_by (terms_of x) role ts) (of role heard)
  pub well : (role : Role) → of role heard ≢ Chance

abbrev pub side_in : Tapping → Role → List Turn → Heard → Option Spoken → Side
side_in x role ts heard sent =
    record { heard = heard; check = judged_by (terms_of x) role ts; sent = sent; given = given_to role ts heard }

-- the turn in which they do and this is sent
abbrev pub turn_in : Tapping → List Turn → Both Heard → Both (Option Spoken) → Turn
turn_in x ts heard sent = record {
  orig = side_in x Originator ts heard.orig sent.orig;
  answ = side_in x Answerer ts heard.answ sent.answ;
}

abbrev pub silent_in : Tapping → List Turn → Both Heard → Turn
silent_in x ts heard = turn_in x ts heard (record { orig = None; answ = None })

-- Both ends have heard, and what they took isn't delivered,
pub record HasHeard (tap : Tap) (x : Tapping) (ts : List Turn) (heard : Both Heard) : Type 0 where
  pub behind : IsBehind tap x ts
  pub hears : HearsThese x ts heard
  pub orig : ListensToo tap.orig.listener (terms_of x) Originator ts (silent_in x ts heard)
  pub answ : ListensToo tap.answ.listener (terms_of x) Answerer ts (silent_in x ts heard)
  pub lines : HaveRoom tap.lines (line_of x) 1 (both_sent_by 0 ts)

-- or it is.
pub record InTurn (tap : Tap) (x : Tapping) (ts : List Turn) (heard : Both Heard) : Type 0 where
  pub behind : IsBehind tap x ts
  pub hears : HearsThese x ts heard
  pub orig : ListensFor tap.orig.listener (terms_of x) Originator (silent_in x ts heard ∷ ts)
  pub answ : ListensFor tap.answ.listener (terms_of x) Answerer (silent_in x ts heard ∷ ts)
  pub lines : HaveRoom tap.lines (line_of x) 1 (both_sent_by 0 ts)

-- what hearing answers
abbrev pub HearsTurn : Tap → Tapping → List Turn → Result Hearing LineEnd → Type 0
HearsTurn tap x ts (Ok h) =
    HasHeard tap x ts h.heard × (h.given.orig ≡ given_to Originator ts h.heard.orig) × (h.given.answ ≡ given_to Answerer ts h.heard.answ)
HearsTurn tap x ts (Err end) = EndsLine x ts (end_of end)

-- what a turn adds before its slots are looked at
abbrev pub got_pieces : Tapping → List Turn → Both Heard → List (List ℕ)
got_pieces x ts heard =
    (added x ts (silent_in x ts heard) []).got.orig ∷ (added x ts (silent_in x ts heard) []).got.answ ∷ []

-- ---- what a turn answers

-- Both slots were read, and the reading goes on.
pub record GoesOnBy (tap : Tap) (start old now : FolderState) (n : TapNames) (x : Tapping) (ts : List Turn) : Type 0 where
  pub others : Both (List ℕ)
  pub read : AreReadTo start now n others
  pub turn : Turn
  pub after : TapAfter tap (tapping x.script others) (turn ∷ ts)
  pub writes : AddEach old now (outputs_of n) (held_of (added x ts turn (turn_text (length ts) turn)))

-- The reading ends in this turn, and so much is written in it.
pub record EndsInTurn (start old now : FolderState) (n : TapNames) (x : Tapping) (ts : List Turn) (end : TapEnd) : Type 0 where
  pub others : Both (List ℕ)
  pub read : AreReadTo start now n others
  pub tells : Tells (tapping x.script others) ts
  pub more : Left
  pub ended : EndsBy (tapping x.script others) ts end (record {
    got = record {
      orig = (left_of x ts []).got.orig ++ more.got.orig;
      answ = (left_of x ts []).got.answ ++ more.got.answ;
    };
    trace = trace_text ts ++ more.trace;
  })
  pub writes : AddEach old now (outputs_of n) (held_of more)

-- its recordings were read as far as its slots go
abbrev pub EndsReading : FolderState → FolderState → FolderState → TapNames → Tapping → List Turn → TapEnd → Type 0
EndsReading start old now n x ts end =
    (e : EndsInTurn start old now n x ts end) × AreReadOut start n (tapping x.script e.others) ts

-- what it adds, as far as it was made
abbrev pub AddsSo : FolderState → TapNames → Tapping → List Turn → Left → Type 0
AddsSo start n x ts more = AddsGot x ts more ⊎ ((AddsTurn x ts more × AreReadOut start n x ts) ⊎ AddsChance x ts more)

-- The folder fails in this turn, and a part of what it adds is written.
pub record StopsInTurn (start old now : FolderState) (n : TapNames) (x : Tapping) (ts : List Turn) : Type 0 where
  pub others : Both (List ℕ)
  pub read : AreReadTo start now n others
  pub tells : Tells (tapping x.script others) ts
  pub more : Left
  pub adds : AddsSo start n (tapping x.script others) ts more
  pub writes : AddPart old now (outputs_of n) (held_of more)

-- A recording isn't read: what both ends took is written, and nothing of the lines.
pub record StopsReadingIn (start old now : FolderState) (n : TapNames) (x : Tapping) (ts : List Turn) : Type 0 where
  pub others : Both (List ℕ)
  pub read : AreReadTo start now n others
  pub tells : Tells (tapping x.script others) ts
  pub more : Left
  pub adds : AddsGot (tapping x.script others) ts more
  pub writes : AddEach old now (outputs_of n) (more.got.orig ∷ more.got.answ ∷ [])

-- why the reading stops in this turn
abbrev pub TurnStops : FolderState → FolderState → FolderState → TapNames → Tapping → List Turn → Stop → Type 0
TurnStops start old now n x ts (Own (BadTap role turn)) = EndsReading start old now n x ts (ends.BadTap role turn)
TurnStops start old now n x ts (Own answer) = MatchOption (stop_by answer) ⊥ (EndsInTurn start old now n x ts)
TurnStops start old now n x ts (Read fault) = StopsReadingIn start old now n x ts
TurnStops start old now n x ts (Write fault) = StopsInTurn start old now n x ts
TurnStops start old now n x ts (Say fault) = ⊥
TurnStops start old now n x ts NoMemory = ⊥

-- what a turn answers, after these
abbrev pub TurnAnswers : Tap → FolderState → FolderState → FolderState → TapNames → Tapping → List Turn → Result TapStep Stop → Type 0
TurnAnswers tap start old now n x ts (Ok steps.Going) = GoesOnBy tap start old now n x ts
TurnAnswers tap start old now n x ts (Ok (steps.Done turns)) = EndsReading start old now n x ts (ends.IsDone turns)
TurnAnswers tap start old now n x ts (Err stop) = TurnStops start old now n x ts stop

-- ---- slots that were read

-- The reader stands behind this slot too, which it read as the labels that it is coded as.
pub record ReadsToo (r : SlotReader) (c : Wire) (check : Check) (role : Role) (ts : List Turn) (body : List ℕ) (slot : Slot) : Type 0 where
  pub holds : HoldsNext c check role ts body slot.sent
  pub reads : (t : Turn) → (of role t).sent ≡ Some (told check slot.sent) → ReadsOn r c check role (t ∷ ts) body
  pub coded : IsCodedAs role (4 * c.symbols) (signals c role ts) (signal_of check role c.dlci slot.sent) slot.labels

-- both slots of a turn, by what was sent in them and by their labels
abbrev pub slots_as : Both Sent → Both (List ℕ) → Both Slot
slots_as sent labels = record { orig = slot_as sent.orig labels.orig; answ = slot_as sent.answ labels.answ }

-- Both slots were read behind these turns, of these octets and of those that were read before, and both directions have room for them.
pub record HaveRead (tap : Tap) (x : Tapping) (ts : List Turn) (slots : Both Slot) : Type 0 where
  pub orig : ReadsToo tap.orig.reader (line_of x) (check_by (terms_of x)) Originator ts x.bodies.orig slots.orig
  pub answ : ReadsToo tap.answ.reader (line_of x) (check_by (terms_of x)) Answerer ts x.bodies.answ slots.answ
  pub lines : HaveRoom tap.lines (line_of x) 1 (both_sent_by 0 ts)

-- what looking at both slots answers
abbrev pub LooksAt : Tap → Tapping → List Turn → Both (List ℕ) → Result (Both Sent) Role → Type 0
LooksAt tap x ts labels (Ok sent) = HaveRead tap x ts (slots_as sent labels)
LooksAt tap x ts labels (Err role) = IsFirstRefused x ts role

-- what was read and the octets of these pieces behind it
abbrev pub and_pieces : Both (List ℕ) → List ℕ → List ℕ → Both (List ℕ)
and_pieces bodies orig answ = record { orig = bodies.orig ++ orig; answ = bodies.answ ++ answ }

-- so many octets of both pieces
abbrev pub read_of : Tap → Tapping → Both ℕ → Both (List ℕ)
read_of tap x counts = and_pieces x.bodies (take counts.orig tap.orig.piece.items) (take counts.answ tap.answ.piece.items)

-- Both pieces were read, up to a slot's end or to the recording's.
pub record HasReadPieces (tap : Tap) (start now : FolderState) (n : TapNames) (x : Tapping) (ts : List Turn) (heard : Both Heard)
    (counts : Both ℕ) : Type 0 where
  pub turn : InTurn tap x ts heard
  pub read : AreReadTo start now n (read_of tap x counts)
  pub out : AreReadOut start n (tapping x.script (read_of tap x counts)) ts
  pub few_orig : counts.orig ≤ length tap.orig.piece.items
  pub few_answ : counts.answ ≤ length tap.answ.piece.items

-- the turn in which these slots were read
abbrev pub going_in : Tapping → List Turn → Both Heard → Both Slot → Turn
going_in x ts heard slots = turn_in x ts heard (record {
  orig = Some (told (check_by (terms_of x)) slots.orig.sent);
  answ = Some (told (check_by (terms_of x)) slots.answ.sent);
})

-- what was heard, and the breaks that are given by it
pub record HearsSo (x : Tapping) (ts : List Turn) (h : Hearing) : Type 0 where
  pub hears : HearsThese x ts h.heard
  pub orig : h.given.orig ≡ given_to Originator ts h.heard.orig
  pub answ : h.given.answ ≡ given_to Answerer ts h.heard.answ

-- Both slots of the turn after these were read, and are to go on the line.
pub record IsToGo (tap : Tap) (x : Tapping) (ts : List Turn) (h : Hearing) (slots : Both Slot) : Type 0 where
  pub script_is : tap.script ≡ x.script
  pub tells : Tells x ts
  pub turn : tap.turn ≡ length ts
  pub at : tap.at ≡ HEADER + octets_of (line_of x) (length ts)
  pub hears : HearsSo x ts h
  pub orig : ListensFor tap.orig.listener (terms_of x) Originator (silent_in x ts h.heard ∷ ts)
  pub answ : ListensFor tap.answ.listener (terms_of x) Answerer (silent_in x ts h.heard ∷ ts)
  pub read : HaveRead tap x ts slots
  pub orig_room : length tap.orig.piece.items ≡ 4 * (line_of x).symbols
  pub answ_room : length tap.answ.piece.items ≡ 4 * (line_of x).symbols
