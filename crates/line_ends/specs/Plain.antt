-- Frames whose numbers and breaks a line has room for.
use Rattle.std.specs.Prelude.{◌≡◌, ◌<◌, ◌≤◌, List, [], ◌∷◌, All, Some, IfSome, length}
use Rattle.frame_check.specs.Octets.{AreOctets}
use Rattle.shared_terms.specs.declared.role.Role.{Role}
use Rattle.shared_terms.specs.Both.{of}
use Rattle.lapm_frames.specs.declared.frame.Frame.{Frame}
use Rattle.lapm_frames.specs.declared.frame.Frame.TheVariants.{Ui}
use Rattle.lapm_frames.specs.declared.sent.Sent.{Sent}
use Rattle.lapm_frames.specs.declared.sent.Sent.TheVariants as slots
use Rattle.frame_check.specs.declared.sizes.TheConstants.{INFO}
use Rattle.lapm_frames.specs.Frame.{information_of}
use Rattle.lapm_frames.specs.Parts.{parts_of}
use Rattle.noise_script.specs.declared.entry.Break.{Break}
use Rattle.noise_script.specs.Script.{ScriptValue}
use Rattle.link_run.specs.Run.{Spoken, Turn}

-- the information of a UI frame consists of octets
abbrev pub InOctets : Frame → Type 0
InOctets (Ui command pf info) = AreOctets info
InOctets frame = Unit {0}

-- Its numbers are below 128, and what it says of a break are octets.
pub record IsPlain (frame : Frame) : Type 0 where
  pub ns : IfSome (parts_of frame).ns (λ ns. ns < 128)
  pub nr : IfSome (parts_of frame).nr (λ nr. nr < 128)
  pub octets : InOctets frame

-- a frame that is sent is so
abbrev pub IsPlainSent : Sent → Type 0
IsPlainSent slots.Mark = Unit {0}
IsPlainSent slots.Odp = Unit {0}
IsPlainSent slots.Adp = Unit {0}
IsPlainSent slots.Flags = Unit {0}
IsPlainSent (slots.Frame frame) = IsPlain frame

-- and so is all that was sent in these turns
abbrev pub AllPlain : List Turn → Type 0
AllPlain [] = Unit {0}
AllPlain (t ∷ ts) = ((role : Role) (slot : Spoken) → (of role t).sent ≡ Some slot → IsPlainSent slot.sent) × AllPlain ts

-- the information of each frame that was sent in these turns has at most INFO octets
abbrev pub AllShort : List Turn → Type 0
AllShort [] = Unit {0}
AllShort (t ∷ ts) =
    ((role : Role) (slot : Spoken) (frame : Frame) → (of role t).sent ≡ Some slot → slot.sent ≡ slots.Frame frame
    → length (information_of frame) ≤ INFO) × AllShort ts

-- the lengths of the breaks that a script asks for are octets
abbrev pub AsksInOctets : ScriptValue → Type 0
AsksInOctets script = All (λ (b : Break). b.length < 256) script.breaks
