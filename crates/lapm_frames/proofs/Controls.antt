-- Which frames a control octet can belong to, and how long their tails are.
use Rattle.lapm_frames.proofs.Names.{◌≡◌, ℕ, ◌+◌, ◌/◌, ◌%◌, ◌<◌, ◌≤◌, Bool, true, false, if◌then◌else◌, List, length, [], Option, Some}
use Rattle.lapm_frames.proofs.Names.{None, is_some, arith, refl, sym, IfSome, unwrap_or, INFO, marked, control_octet, tail_octets, IsFrame}
use Rattle.lapm_frames.proofs.Names.{FrameParts, parts_of, Frame}
use Rattle.lapm_frames.proofs.Forms.{is_supervisory, allows, is_informed, by_form}

-- P/F leaves the low bits of an octet alone
pub three : (kind : ℕ) (pf : Bool) → kind % 4 ≡ 3 → marked kind pf % 4 ≡ 3
three kind true h = omega arith
three kind false h = omega arith

-- an octet without its P/F is one
pub marked-one : (a b : ℕ) (p q : Bool) → a / 16 % 2 ≡ 0 → b / 16 % 2 ≡ 0 → marked a p ≡ marked b q → a ≡ b
marked-one a b true true h k e = omega arith
marked-one a b false false h k e = omega arith
marked-one a b true false h k e = absurd (omega arith)
marked-one a b false true h k e = absurd (omega arith)

-- the limits of parts
abbrev pub AreParts : FrameParts → Type 0
AreParts parts = IfSome parts.ns (λ ns. ns < 128) × IfSome parts.nr (λ nr. nr < 128) × IfSome parts.info (λ info. length info ≤ INFO)

-- I frames have even octets: they are commands, with numbers and information
pub record IsInformation (parts : FrameParts) : Type 0 where
  pub is_command : parts.command ≡ true
  pub some : 0 < length (tail_octets parts)
  pub longest : length (tail_octets parts) ≤ 1 + INFO

pub information-at : (frame : Frame) → IsFrame frame → control_octet (parts_of frame) % 2 ≡ 0 → IsInformation (parts_of frame)
information-at = by_form (λ parts. AreParts parts → control_octet parts % 2 ≡ 0 → IsInformation parts)
    (λ ns nr pf info f h. record { is_command = refl; some = omega arith; longest = omega (arith, f.2) })
    (λ name control command nr pf k f h. absurd (omega (arith, k.odd)))
    (λ name control command pf info k f h. absurd (omega (arith, three control pf k.odd)))

-- S frames have one octet behind the control octet
pub record IsSupervisory (parts : FrameParts) : Type 0 where
  pub known : is_supervisory (control_octet parts) ≡ true
  pub one : length (tail_octets parts) ≡ 1

pub supervisory-at : (frame : Frame) → control_octet (parts_of frame) % 4 ≡ 1 → IsSupervisory (parts_of frame)
supervisory-at = by_form (λ parts. control_octet parts % 4 ≡ 1 → IsSupervisory parts)
    (λ ns nr pf info h. absurd (omega arith))
    (λ name control command nr pf k h. record { known = k.known; one = refl })
    (λ name control command pf info k h. absurd (omega (arith, three control pf k.odd)))

-- the most octets behind the control octet of a U frame
abbrev pub longest_of : ℕ → ℕ
longest_of kind = if is_informed kind then INFO else 0

pub record IsUnnumbered (parts : FrameParts) : Type 0 where
  pub kind : ℕ
  pub pf : Bool
  pub unmarked : kind / 16 % 2 ≡ 0
  pub control_is : control_octet parts ≡ marked kind pf
  pub allowed : allows kind parts.command ≡ true
  pub longest : length (tail_octets parts) ≤ longest_of kind

pub unnumbered-at : (frame : Frame) → IsFrame frame → control_octet (parts_of frame) % 4 ≡ 3 → IsUnnumbered (parts_of frame)
unnumbered-at = by_form (λ parts. AreParts parts → control_octet parts % 4 ≡ 3 → IsUnnumbered parts)
    (λ ns nr pf info f h. absurd (omega arith))
    (λ name control command nr pf k f h. absurd (omega (arith, k.odd)))
    (λ name control command pf info k f h. record {
      kind = control;
      pf = pf;
      unmarked = k.unmarked;
      control_is = refl;
      allowed = k.allowed;
      longest = short info control k.informs f.2;
    })
  where
    short : (info : Option (List ℕ)) (control : ℕ) → is_some info ≡ is_informed control → IfSome info (λ info. length info ≤ INFO)
        → length (unwrap_or info []) ≤ longest_of control
    short None control e low = omega arith
    short (Some info) control e low = rw (sym e) low
