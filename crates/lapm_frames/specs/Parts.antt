-- What each kind of frame of ITU-T V.42 consists of: the one table, by which frames are spelled, limited, checked and named.
use Rattle.std.specs.Prelude.{ℕ, Bool, true, false, if◌then◌else◌, nat_eq, List, [], ◌∷◌, codes, Option, Some, None}
use Rattle.std.specs.Str.{bytes_eq}
use Rattle.lapm_frames.specs.declared.kind.FrameKind.{FrameKind}
use Rattle.lapm_frames.specs.declared.kind.FrameKind.TheVariants as kind
use Rattle.lapm_frames.specs.declared.frame.Frame.{Frame}
use Rattle.lapm_frames.specs.declared.frame.Frame.TheVariants.{I, Rr, Rnr, Rej, Srej, Sabme, Disc, Ua, Dm, Frmr, Ui, Xid, Test}

-- The parts of a frame.
pub record FrameParts : Type 0 where
  pub name : List ℕ  -- what texts call its kind
  pub command : Bool  -- a command, or a response
  pub control : ℕ  -- the control octet of its kind, without N(S) and P/F
  pub ns : Option ℕ  -- N(S)
  pub nr : Option ℕ  -- N(R)
  pub pf : Bool  -- the poll bit of a command, the final bit of a response
  pub info : Option (List ℕ)  -- the information

-- I frames have both numbers and information,
abbrev pub information : ℕ → ℕ → Bool → List ℕ → FrameParts
information ns nr pf info =
    record { name = codes "i"; command = true; control = 0x00; ns = Some ns; nr = Some nr; pf = pf; info = Some info }

-- S frames N(R) alone,
abbrev pub supervisory : List ℕ → ℕ → Bool → ℕ → Bool → FrameParts
supervisory name control command nr pf =
    record { name = name; command = command; control = control; ns = None; nr = Some nr; pf = pf; info = None }

-- and U frames no number
abbrev pub unnumbered : List ℕ → ℕ → Bool → Bool → Option (List ℕ) → FrameParts
unnumbered name control command pf info =
    record { name = name; command = command; control = control; ns = None; nr = None; pf = pf; info = info }

abbrev pub parts_of : Frame → FrameParts
parts_of (I ns nr pf info) = information ns nr pf info
parts_of (Rr command nr pf) = supervisory (codes "rr") 0x01 command nr pf
parts_of (Rnr command nr pf) = supervisory (codes "rnr") 0x05 command nr pf
parts_of (Rej command nr pf) = supervisory (codes "rej") 0x09 command nr pf
parts_of (Srej command nr pf) = supervisory (codes "srej") 0x0d command nr pf
parts_of (Sabme pf) = unnumbered (codes "sabme") 0x6f true pf None
parts_of (Disc pf) = unnumbered (codes "disc") 0x43 true pf None
parts_of (Ua pf) = unnumbered (codes "ua") 0x63 false pf None
parts_of (Dm pf) = unnumbered (codes "dm") 0x0f false pf None
parts_of (Frmr pf info) = unnumbered (codes "frmr") 0x87 false pf (Some info)
parts_of (Ui command pf info) = unnumbered (codes "ui") 0x03 command pf (Some info)
parts_of (Xid command pf info) = unnumbered (codes "xid") 0xaf command pf (Some info)
parts_of (Test command pf info) = unnumbered (codes "test") 0xe3 command pf (Some info)

-- the frame of a kind, of what the kind has of these
abbrev pub frame_of : FrameKind → Bool → ℕ → ℕ → Bool → List ℕ → Frame
frame_of kind.I command ns nr pf info = I ns nr pf info
frame_of kind.Rr command ns nr pf info = Rr command nr pf
frame_of kind.Rnr command ns nr pf info = Rnr command nr pf
frame_of kind.Rej command ns nr pf info = Rej command nr pf
frame_of kind.Srej command ns nr pf info = Srej command nr pf
frame_of kind.Sabme command ns nr pf info = Sabme pf
frame_of kind.Disc command ns nr pf info = Disc pf
frame_of kind.Ua command ns nr pf info = Ua pf
frame_of kind.Dm command ns nr pf info = Dm pf
frame_of kind.Frmr command ns nr pf info = Frmr pf info
frame_of kind.Ui command ns nr pf info = Ui command pf info
frame_of kind.Xid command ns nr pf info = Xid command pf info
frame_of kind.Test command ns nr pf info = Test command pf info

-- all kinds
abbrev pub kinds : List FrameKind
kinds = kind.I ∷ kind.Rr ∷ kind.Rnr ∷ kind.Rej ∷ kind.Srej ∷ kind.Sabme ∷ kind.Disc ∷ kind.Ua ∷ kind.Dm ∷ kind.Frmr ∷ kind.Xid ∷ kind.Test ∷ kind.Ui ∷ []

-- what all frames of a kind have: its name and its octet, and a direction where it is the kind's
abbrev pub parts_of_kind : FrameKind → FrameParts
parts_of_kind kind = parts_of (frame_of kind true 0 0 false [])

-- the kind that texts call so,
abbrev pub first_named : List ℕ → List FrameKind → Option FrameKind
first_named name [] = None
first_named name (kind ∷ kinds) = if bytes_eq name (parts_of_kind kind).name then Some kind else first_named name kinds

abbrev pub kind_named : List ℕ → Option FrameKind
kind_named name = first_named name kinds

-- and the kind that has this control octet, without N(S) and P/F
abbrev pub first_with : ℕ → List FrameKind → Option FrameKind
first_with control [] = None
first_with control (kind ∷ kinds) = if nat_eq control (parts_of_kind kind).control then Some kind else first_with control kinds

abbrev pub kind_with : ℕ → Option FrameKind
kind_with control = first_with control kinds
