-- The control octets that there are: those of some frame.
use Rattle.std.specs.Prelude.{◌≡◌, ℕ, Bool}
use Rattle.lapm_frames.specs.declared.frame.Frame.{Frame}
use Rattle.lapm_frames.specs.Parts.{parts_of}
use Rattle.lapm_frames.specs.Frame.{IsFrame, control_octet}

-- the frame is a command, or a response, with this control octet
pub record Has (command : Bool) (control : ℕ) (frame : Frame) : Type 0 where
  pub is_frame : IsFrame frame
  pub command_is : (parts_of frame).command ≡ command
  pub control_is : control_octet (parts_of frame) ≡ control
