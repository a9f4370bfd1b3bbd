-- The thirteen kinds of frames, for proofs: each is of one of three forms, and a frame is that of its octets.
use Rattle.lapm_frames.proofs.Names.{◌≡◌, ℕ, ◌+◌, ◌-◌, ◌*◌, ◌/◌, ◌%◌, ◌<◌, ◌≤◌, Bool, true, false, not, if◌then◌else◌, List, [], ◌∷◌}
use Rattle.lapm_frames.proofs.Names.{length, Option, Some, None, is_some, codes, nat_eq, arith, refl, lit<, numbered, control_octet}
use Rattle.lapm_frames.proofs.Names.{tail_octets, FrameParts, unnumbered, parts_of, Frame, I, Rr}
use Rattle.std.proofs.Common.{◌||◌}
use Rattle.lapm_frames.specs.declared.frame.Frame.TheVariants.{Rnr, Rej, Srej, Sabme, Disc, Ua, Dm, Frmr, Ui, Xid, Test}
use Rattle.lapm_frames.specs.Parts.{information, supervisory}

-- whether the octet is that of an S frame
abbrev pub is_supervisory : ℕ → Bool
is_supervisory control = nat_eq control 0x01 || nat_eq control 0x05 || nat_eq control 0x09 || nat_eq control 0x0d

-- whether the kind of U frames with this octet may be a command, or a response
abbrev pub allows : ℕ → Bool → Bool
allows control command =
    if nat_eq control 0x6f || nat_eq control 0x43 then command
    else (if nat_eq control 0x63 || nat_eq control 0x0f || nat_eq control 0x87 then not command
    else (nat_eq control 0x03 || nat_eq control 0xaf || nat_eq control 0xe3))

-- whether it has information
abbrev pub is_informed : ℕ → Bool
is_informed control = nat_eq control 0x87 || nat_eq control 0x03 || nat_eq control 0xaf || nat_eq control 0xe3

-- the octets of S frames, and of U frames
pub record IsSupervisoryKind (control : ℕ) : Type 0 where
  pub known : is_supervisory control ≡ true
  pub low : control < 240
  pub odd : control % 4 ≡ 1

pub record IsUnnumberedKind (control : ℕ) (command informed : Bool) : Type 0 where
  pub allowed : allows control command ≡ true
  pub informs : informed ≡ is_informed control
  pub low : control < 240
  pub odd : control % 4 ≡ 3
  pub unmarked : control / 16 % 2 ≡ 0

-- what holds of the parts of each form holds of the parts of each frame
pub by_form : (P : FrameParts → Type 0)
    → ((ns nr : ℕ) (pf : Bool) (info : List ℕ) → P (information ns nr pf info))
    → ((name : List ℕ) (control : ℕ) (command : Bool) (nr : ℕ) (pf : Bool) → IsSupervisoryKind control
    → P (supervisory name control command nr pf))
    → ((name : List ℕ) (control : ℕ) (command pf : Bool) (info : Option (List ℕ)) → IsUnnumberedKind control command (is_some info)
    → P (unnumbered name control command pf info))
    → (frame : Frame) → P (parts_of frame)
by_form P i s u (I ns nr pf info) = i ns nr pf info
by_form P i s u (Rr command nr pf) = s (codes "rr") 0x01 command nr pf (record { known = refl; low = lit< tt; odd = refl })
by_form P i s u (Rnr command nr pf) = s (codes "rnr") 0x05 command nr pf (record { known = refl; low = lit< tt; odd = refl })
by_form P i s u (Rej command nr pf) = s (codes "rej") 0x09 command nr pf (record { known = refl; low = lit< tt; odd = refl })
by_form P i s u (Srej command nr pf) = s (codes "srej") 0x0d command nr pf (record { known = refl; low = lit< tt; odd = refl })
by_form P i s u (Sabme pf) =
    u (codes "sabme") 0x6f true pf None (record { allowed = refl; informs = refl; low = lit< tt; odd = refl; unmarked = refl })
by_form P i s u (Disc pf) =
    u (codes "disc") 0x43 true pf None (record { allowed = refl; informs = refl; low = lit< tt; odd = refl; unmarked = refl })
by_form P i s u (Ua pf) =
    u (codes "ua") 0x63 false pf None (record { allowed = refl; informs = refl; low = lit< tt; odd = refl; unmarked = refl })
by_form P i s u (Dm pf) =
    u (codes "dm") 0x0f false pf None (record { allowed = refl; informs = refl; low = lit< tt; odd = refl; unmarked = refl })
by_form P i s u (Frmr pf info) =
    u (codes "frmr") 0x87 false pf (Some info) (record { allowed = refl; informs = refl; low = lit< tt; odd = refl; unmarked = refl })
by_form P i s u (Ui command pf info) =
    u (codes "ui") 0x03 command pf (Some info) (record { allowed = refl; informs = refl; low = lit< tt; odd = refl; unmarked = refl })
by_form P i s u (Xid command pf info) =
    u (codes "xid") 0xaf command pf (Some info) (record { allowed = refl; informs = refl; low = lit< tt; odd = refl; unmarked = refl })
by_form P i s u (Test command pf info) =
    u (codes "test") 0xe3 command pf (Some info) (record { allowed = refl; informs = refl; low = lit< tt; odd = refl; unmarked = refl })

-- names are short
pub short-name : (frame : Frame) → length (parts_of frame).name ≤ 5
short-name (I ns nr pf info) = omega arith
short-name (Rr command nr pf) = omega arith
short-name (Rnr command nr pf) = omega arith
short-name (Rej command nr pf) = omega arith
short-name (Srej command nr pf) = omega arith
short-name (Sabme pf) = omega arith
short-name (Disc pf) = omega arith
short-name (Ua pf) = omega arith
short-name (Dm pf) = omega arith
short-name (Frmr pf info) = omega arith
short-name (Ui command pf info) = omega arith
short-name (Xid command pf info) = omega arith
short-name (Test command pf info) = omega arith

-- N(R) and P/F of the first octet, and the others
nr_of : List ℕ → ℕ
nr_of [] = 0
nr_of (n ∷ rest) = n / 2

final_of : List ℕ → Bool
final_of [] = false
final_of (n ∷ rest) = nat_eq (n % 2) 1

rest_of : List ℕ → List ℕ
rest_of [] = []
rest_of (n ∷ rest) = rest

-- P/F of a U frame's octet
marked_of : ℕ → Bool
marked_of control = nat_eq (control / 16 % 2) 1

-- the frame with these octets
unnumbered_at : Bool → ℕ → Bool → List ℕ → Frame
unnumbered_at command kind pf tail =
    if nat_eq kind 0x6f then Sabme pf
    else (if nat_eq kind 0x43 then Disc pf
    else (if nat_eq kind 0x63 then Ua pf
    else (if nat_eq kind 0x0f then Dm pf
    else (if nat_eq kind 0x87 then Frmr pf tail
    else (if nat_eq kind 0x03 then Ui command pf tail
    else (if nat_eq kind 0xaf then Xid command pf tail
    else Test command pf tail))))))

odd_at : Bool → ℕ → List ℕ → Frame
odd_at command control tail =
    if nat_eq control 0x01 then Rr command (nr_of tail) (final_of tail)
    else (if nat_eq control 0x05 then Rnr command (nr_of tail) (final_of tail)
    else (if nat_eq control 0x09 then Rej command (nr_of tail) (final_of tail)
    else (if nat_eq control 0x0d then Srej command (nr_of tail) (final_of tail)
    else (if marked_of control then unnumbered_at command (control - 16) true tail
    else unnumbered_at command control false tail))))

pub frame_at : Bool → ℕ → List ℕ → Frame
frame_at command control tail =
    if nat_eq (control % 2) 0 then I (control / 2) (nr_of tail) (final_of tail) (rest_of tail) else odd_at command control tail

nr_of-numbered : (nr : ℕ) (pf : Bool) (rest : List ℕ) → nr_of (numbered nr pf ∷ rest) ≡ nr
unfolding nr_of
nr_of-numbered nr true rest = omega arith
nr_of-numbered nr false rest = omega arith

final_of-numbered : (nr : ℕ) (pf : Bool) (rest : List ℕ) → final_of (numbered nr pf ∷ rest) ≡ pf
unfolding final_of
final_of-numbered nr true rest = let e : (2 * nr + 1) % 2 ≡ 1 = omega arith in rw e refl
final_of-numbered nr false rest = let e : (2 * nr + 0) % 2 ≡ 0 = omega arith in rw e refl

-- a frame is that of its octets
pub frame_at-parts : (frame : Frame)
    → frame_at (parts_of frame).command (control_octet (parts_of frame)) (tail_octets (parts_of frame)) ≡ frame
unfolding frame_at odd_at unnumbered_at marked_of rest_of
frame_at-parts (I ns nr pf info) =
    let even : (2 * ns) % 2 ≡ 0 = omega arith in
    let half : 2 * ns / 2 ≡ ns = omega arith in
    rw (even, half, nr_of-numbered nr pf info, final_of-numbered nr pf info) refl
frame_at-parts (Rr command nr pf) = rw (nr_of-numbered nr pf [], final_of-numbered nr pf []) refl
frame_at-parts (Rnr command nr pf) = rw (nr_of-numbered nr pf [], final_of-numbered nr pf []) refl
frame_at-parts (Rej command nr pf) = rw (nr_of-numbered nr pf [], final_of-numbered nr pf []) refl
frame_at-parts (Srej command nr pf) = rw (nr_of-numbered nr pf [], final_of-numbered nr pf []) refl
frame_at-parts (Sabme true) = refl
frame_at-parts (Sabme false) = refl
frame_at-parts (Disc true) = refl
frame_at-parts (Disc false) = refl
frame_at-parts (Ua true) = refl
frame_at-parts (Ua false) = refl
frame_at-parts (Dm true) = refl
frame_at-parts (Dm false) = refl
frame_at-parts (Frmr true info) = refl
frame_at-parts (Frmr false info) = refl
frame_at-parts (Ui command true info) = refl
frame_at-parts (Ui command false info) = refl
frame_at-parts (Xid command true info) = refl
frame_at-parts (Xid command false info) = refl
frame_at-parts (Test command true info) = refl
frame_at-parts (Test command false info) = refl
