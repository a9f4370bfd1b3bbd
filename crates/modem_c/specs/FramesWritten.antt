-- What writing a frame by its fields answers.
use Rattle.std.specs.Prelude.{◌≡◌, ℕ, ℤ, ◌<◌, ◌≤◌, List, [], length, Option, Some, None}
use Rattle.shared_terms.specs.declared.role.Role.{Role}
use Rattle.frame_check.specs.declared.check.Check.{Check}
use Rattle.frame_check.specs.declared.sizes.TheConstants.{WHOLE}
use Rattle.lapm_frames.specs.declared.frame.Frame.{Frame}
use Rattle.lapm_frames.specs.Checked.{checked}
use Rattle.lapm_frames.specs.Frame.{IsFrame}
use Rattle.modem_c.specs.declared.codes.TheConstants.{DONE, FULL, BAD_ARGUMENT}
use Rattle.modem_c.specs.declared.frame.FrameFields.{FrameFields}
use Rattle.modem_c.specs.Answered.{Puts}
use Rattle.modem_c.specs.FrameFields.{HasFields}

-- no frame has these fields, or there is too little room, or the octets of the one frame that has them are written
pub data Written (sender : Role) (check : Check) (fields : FrameFields) (info before room : List ℕ) (count : ℕ) (code : ℤ) : Type 0 where
  NoFrame : ((frame : Frame) → IsFrame frame → HasFields frame fields info → ⊥) → code ≡ BAD_ARGUMENT → Puts [] before room count
      → Written sender check fields info before room count code
  NoRoom : (frame : Frame) → IsFrame frame → HasFields frame fields info → length before < WHOLE → code ≡ FULL → Puts [] before room count
      → Written sender check fields info before room count code
  Done : (frame : Frame) → IsFrame frame → HasFields frame fields info → WHOLE ≤ length before → code ≡ DONE
      → Puts (checked check sender 0 frame) before room count → Written sender check fields info before room count code

-- the same for an end and a check, each of which a number may not name
abbrev pub WritesFrame : Option Role → Option Check → FrameFields → List ℕ → List ℕ → List ℕ → ℕ → ℤ → Type 0
WritesFrame None check fields info before room count code = (code ≡ BAD_ARGUMENT) × Puts [] before room count
WritesFrame (Some sender) None fields info before room count code = (code ≡ BAD_ARGUMENT) × Puts [] before room count
WritesFrame (Some sender) (Some check) fields info before room count code = Written sender check fields info before room count code
