-- What a pickup finds in the middle of a recording that a tap told.
use Rattle.std.specs.Prelude.{◌≡◌, ◌⊎◌, ℕ, ◌+◌, ◌*◌, ◌%◌, ◌≤◌, IsTrue, List, [], ◌∷◌, ◌++◌, length, codes, Option, Some, None}
use Rattle.shared_terms.specs.Prefix.{IsPrefixOf}
use Rattle.frame_check.specs.declared.check.Check.{Check}
use Rattle.frame_check.specs.declared.check.Check.TheVariants.{Sixteen}
use Rattle.shared_terms.specs.declared.role.Role.{Role}
use Rattle.sample_line.specs.Mode.{mode_of}
use Rattle.shared_terms.specs.Both.{of}
use Rattle.bit_stuffing.specs.declared.piece.Piece.TheVariants.{Whole}
use Rattle.bit_stuffing.specs.Found.{Found}
use Rattle.bit_stuffing.specs.Sent.{wholes, AreWholeOrAborted}
use Rattle.lapm_frames.specs.declared.frame.Frame.{Frame}
use Rattle.lapm_frames.specs.Frame.{IsFrame}
use Rattle.lapm_frames.specs.Checked.{checked}
use Rattle.lapm_frames.specs.declared.sent.Sent.{Sent}
use Rattle.lapm_frames.specs.declared.sent.Sent.TheVariants as sent
use Rattle.line_texts.specs.FrameText.{frame_text}
use Rattle.symbol_map.specs.declared.sample.Sample.{Sample}
use Rattle.recordings.specs.Recording.{header_of}
use Rattle.recordings.specs.Samples.{samples_in}
use Rattle.outside_calls.specs.Folder.{FolderState, octets_at, Said}
use Rattle.link_run.specs.Run.{Spoken, Turn}
use Rattle.line_run.specs.Scripted.{wire_of}
use Rattle.command_base.specs.declared.status.Status.{Status}
use Rattle.command_base.specs.declared.status.Status.TheVariants.{Done, NoMemory}
use Rattle.command_base.specs.Lines.{pieces_line}
use Rattle.command_base.specs.Readings.{AreLines, IsLine}
use Rattle.command_base.specs.Sound.{IsSound}
use Rattle.line_tap.specs.Tapping.{octets_of}
use Rattle.line_tap.specs.Ends.{TapEnd}
use Rattle.line_tap.specs.Names.{TapNames, recording_of}
use Rattle.line_tap.specs.Headline as tap
use Rattle.signal_commands.specs.PickingUp.Middles.{middle_of, AreNear}
use Rattle.signal_commands.specs.PickingUp.Headline as pickup
use Rattle.signal_commands.specs.PickingUp.Completes.{Completes}

-- ---- the frames of turns

-- the octets of the frame that a slot carries, with their check; none where it carries none
abbrev pub frame_in : Role → Check → Sent → List (List ℕ)
frame_in role check (sent.Frame frame) = checked check role 0 frame ∷ []
frame_in role check s = []

abbrev pub frame_sent : Role → Option Spoken → List (List ℕ)
frame_sent role None = []
frame_sent role (Some slot) = frame_in role slot.check slot.sent

-- those that a role sent in these turns, in order: the newest turn is the first
abbrev pub frames_sent : Role → List Turn → List (List ℕ)
frames_sent role [] = []
frames_sent role (t ∷ ts) = frames_sent role ts ++ frame_sent role (of role t).sent

-- ---- what is found

-- The pieces that are found, where so many of the first symbols of these turns aren't there: the whole ones are the last of the frames that
-- the role sent, without a gap. Missed are at most those of the turns before one whose slot begins behind seven of the symbols that are
-- there. All other pieces are aborted ones.
pub record FindsFrames (symbols : ℕ) (role : Role) (ts : List Turn) (cut : ℕ) (pieces : List Found) : Type 0 where
  pub missed : List (List ℕ)
  pub all : frames_sent role ts ≡ missed ++ wholes pieces
  pub early : (later earlier : List Turn) → ts ≡ later ++ earlier → cut + 7 ≤ symbols * length earlier
      → IsPrefixOf missed (frames_sent role earlier)
  pub others : AreWholeOrAborted pieces

-- A line is said for each of such pieces, then for those of what stands behind these turns, and then their number.
pub record SaysFrames (symbols : ℕ) (role : Role) (ts : List Turn) (cut : ℕ) (beyond : List Found) (old new : FolderState) : Type 0 where
  pub found : List Found
  pub finds : FindsFrames symbols role ts cut found
  pub lines : List ℕ
  pub are_lines : AreLines role (found ++ beyond) lines
  pub said : Said old new (lines ++ pieces_line (length (found ++ beyond)))

-- ---- the commands

-- What is picked up has, behind the header of this role's mode, the samples of the role's recording as they may be heard: without so many
-- first ones, with noise of less than a square of a map unit in all, after so many quarter turns. Both recordings are told: `old` is the
-- folder before the tap, `was` the one before the pickup.
pub record IsMiddle (n : TapNames) (role : Role) (rec : List ℕ) (cut turns : ℕ) (old was : FolderState) : Type 0 where
  pub tape_told : IsTrue (old.tells (recording_of role n))
  pub body : List ℕ
  pub tape_is : octets_at old (recording_of role n) ≡ header_of (mode_of role) ++ body
  pub rec_told : IsTrue (was.tells rec)
  pub content : List ℕ
  pub rec_is : octets_at was rec ≡ header_of (mode_of role) ++ content
  pub heard : List Sample
  pub near : AreNear cut (samples_in body) heard
  pub samples_are : samples_in content ≡ middle_of cut turns heard

-- the turns that a tap told, whatever its end, and of how many symbols their slots are
abbrev pub told_turns : {old new : FolderState} {n : TapNames} {end : TapEnd} → tap.Told old new n end → List Turn
told_turns t = t.tap.turns

abbrev pub told_symbols : {old new : FolderState} {n : TapNames} {end : TapEnd} → tap.Told old new n end → ℕ
told_symbols t = (wire_of t.script).symbols

-- a role's recording has nothing behind them
abbrev pub EndsThere : {old new : FolderState} {n : TapNames} {end : TapEnd} → tap.Told old new n end → Role → Type 0
EndsThere t role = length (of role t.bodies) ≤ octets_of (wire_of t.script) (length (told_turns t))

-- Of the middle of a recording that a tap told, however the tap ended, a pickup that is done says the frames that the tap names, and
-- nothing else if nothing stands behind the turns.
abbrev pub PickupsFindWhatIsTold : Type 0
PickupsFindWhatIsTold = (n : TapNames) (role : Role) (rec : List ℕ) (cut turns : ℕ) (old new was then : FolderState) (end : TapEnd)
    → (t : tap.Told old new n end) → IsMiddle n role rec cut turns old was → pickup.Headline was then rec Done
    → (beyond : List Found) × SaysFrames (told_symbols t) role (told_turns t) cut beyond was then × (EndsThere t role → beyond ≡ [])

-- Where the tap is done, a pickup of a middle of no more octets than it reads, over a sound folder, is done.
abbrev pub PickupsFindWhatTapsName : Type 0
PickupsFindWhatTapsName = (n : TapNames) (role : Role) (rec : List ℕ) (cut turns : ℕ) (old new was then : FolderState) (s : Status)
    → (h : tap.Headline old new n Done) → (m : IsMiddle n role rec cut turns old was) → length m.content % 4 ≡ 0
    → length (octets_at was rec) ≤ 8388616
    → IsSound was then (rec ∷ []) [] → pickup.Headline was then rec s → Completes was then rec s
    → ((s ≡ Done) × SaysFrames (told_symbols h.told.2) role (told_turns h.told.2) cut [] was then) ⊎ (s ≡ NoMemory)

-- The line of a frame with the check of 16 bits is the text by which a trace names it.
abbrev pub FramesAreNamed : Type 0
FramesAreNamed = (role : Role) (found : Found) (frame : Frame) (line : List ℕ) → IsFrame frame → found.piece ≡ Whole
    → found.octets ≡ checked Sixteen role 0 frame → IsLine role found line → line ≡ codes "frame " ++ frame_text frame ++ codes "\n"
