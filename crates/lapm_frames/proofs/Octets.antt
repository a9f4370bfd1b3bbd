-- How many octets a spelling has, and that they are octets.
use Rattle.lapm_frames.proofs.Names.{ℕ, ◌+◌, ◌<◌, ◌≤◌, Bool, true, false, List, [], ◌∷◌, length, Option, Some, None, arith, IfSome}
use Rattle.lapm_frames.proofs.Names.{unwrap_or, INFO, IsFrame, address_of, control_octet, marked, numbered, spelled, tail_octets}
use Rattle.lapm_frames.proofs.Names.{FrameParts, parts_of, Frame, Role, Originator, Answerer}
use Rattle.std.proofs.lemmas.List.Elements.{All-nil, All-cons}
use Rattle.frame_check.specs.Octets.{AreOctets}
use Rattle.lapm_frames.specs.Frame.{information_of}
use Rattle.lapm_frames.proofs.Forms.{by_form}
use Rattle.lapm_frames.proofs.Controls.{AreParts}

-- three octets at most besides the information
few : (frame : Frame) → length (tail_octets (parts_of frame)) ≤ 1 + length (information_of frame)
few = by_form (λ parts. length (tail_octets parts) ≤ 1 + length (unwrap_or parts.info []))
    (λ ns nr pf info. omega arith)
    (λ name control command nr pf k. omega arith)
    (λ name control command pf info k. omega arith)

pub length-spelled : (frame : Frame) (sender : Role) (dlci : ℕ)
    → (2 ≤ length (spelled frame sender dlci)) × (length (spelled frame sender dlci) ≤ 3 + length (information_of frame))
length-spelled frame sender dlci = let most = few frame in (omega arith, omega (arith, most))

within : (info : Option (List ℕ)) → IfSome info (λ info. length info ≤ INFO) → length (unwrap_or info []) ≤ INFO
within None low = omega arith
within (Some info) low = low

pub length-information : (frame : Frame) → IsFrame frame → length (information_of frame) ≤ INFO
length-information frame is = within (parts_of frame).info is.2

pub spelled-short : (frame : Frame) (sender : Role) (dlci : ℕ) → IsFrame frame → length (spelled frame sender dlci) ≤ 3 + INFO
spelled-short frame sender dlci is = omega (arith, (length-spelled frame sender dlci).1, length-information frame is)

-- the octets of a frame

address-small : (command : Bool) (sender : Role) (dlci : ℕ) → dlci < 64 → address_of command sender dlci < 256
address-small true Originator dlci low = omega arith
address-small false Originator dlci low = omega arith
address-small true Answerer dlci low = omega arith
address-small false Answerer dlci low = omega arith

numbered-small : (nr : ℕ) (pf : Bool) → nr < 128 → numbered nr pf < 256
numbered-small nr true low = omega arith
numbered-small nr false low = omega arith

marked-small : (control : ℕ) (pf : Bool) → control < 240 → marked control pf < 256
marked-small control true low = omega arith
marked-small control false low = omega arith

-- behind the address
abbrev SmallBehind : FrameParts → Type 0
SmallBehind parts = (control_octet parts < 256) × AreOctets (tail_octets parts)

behind : (frame : Frame) → IsFrame frame → AreOctets (information_of frame) → SmallBehind (parts_of frame)
behind = by_form (λ parts. AreParts parts → AreOctets (unwrap_or parts.info []) → SmallBehind parts)
    (λ ns nr pf info is h. (omega (arith, is.0), All-cons (λ octet. octet < 256) (numbered nr pf) info (numbered-small nr pf is.1) h))
    (λ name control command nr pf k is h. (
      omega (arith, k.low),
      All-cons (λ octet. octet < 256) (numbered nr pf) [] (numbered-small nr pf is.1) (All-nil (λ octet. octet < 256)),
    ))
    (λ name control command pf info k is h. (marked-small control pf k.low, h))

pub spelled-small : (frame : Frame) (sender : Role) (dlci : ℕ) → dlci < 64 → IsFrame frame → AreOctets (information_of frame)
    → AreOctets (spelled frame sender dlci)
spelled-small frame sender dlci low is h =
    let b = behind frame is h in
    All-cons (λ octet. octet < 256) (address_of (parts_of frame).command sender dlci)
    (control_octet (parts_of frame) ∷ tail_octets (parts_of frame)) (address-small (parts_of frame).command sender dlci low)
    (All-cons (λ octet. octet < 256) (control_octet (parts_of frame)) (tail_octets (parts_of frame)) b.0 b.1)
