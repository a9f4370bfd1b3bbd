-- The fields of a frame, as C has them.
use Rattle.std.specs.Prelude.{◌≡◌, ℕ, List, Option, nat_eq, unwrap_or}
use Rattle.std.specs.Option.{option_map}
use Rattle.frame_check.specs.Bits.{number}
use Rattle.lapm_frames.specs.declared.frame.Frame.{Frame}
use Rattle.lapm_frames.specs.Parts.{FrameParts, parts_of, frame_of, kind_with}
use Rattle.lapm_frames.specs.Frame.{information_of}
use Rattle.modem_c.specs.declared.frame.FrameFields.{FrameFields}
use Rattle.modem_c.specs.declared.frame.TheConstants.{NO_NUMBER}

abbrev pub fields_of : FrameParts → FrameFields
fields_of parts = record {
  control = parts.control;
  command = number parts.command;
  pf = number parts.pf;
  ns = unwrap_or parts.ns NO_NUMBER;
  nr = unwrap_or parts.nr NO_NUMBER;
}

-- the fields where there is no frame
abbrev pub no_fields : FrameFields
no_fields = record { control = 0; command = 0; pf = 0; ns = NO_NUMBER; nr = NO_NUMBER }

-- the frame has these fields, and this information, which is empty where its kind has none
pub record HasFields (frame : Frame) (fields : FrameFields) (info : List ℕ) : Type 0 where
  pub fields_are : fields ≡ fields_of (parts_of frame)
  pub info_is : info ≡ information_of frame

-- a frame of the kind that has this control octet, of what the kind has of these fields
abbrev pub frame_with : FrameFields → List ℕ → Option Frame
frame_with fields info =
    option_map (λ kind. frame_of kind (nat_eq fields.command 1) fields.ns fields.nr (nat_eq fields.pf 1) info) (kind_with fields.control)
