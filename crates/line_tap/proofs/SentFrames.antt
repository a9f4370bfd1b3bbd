-- A frame that octets spell can be sent.
use Rattle.line_tap.proofs.Cited.{arith, ℕ, ◌<◌, Bool, List, ◌∷◌, Option, Some, None, Result, subst, All-tail, IfSome, result_ok, AreOctets}
use Rattle.line_tap.proofs.Cited.{Check, SpellsFrame, checked, address_of, control_octet, information_of, spelled, tail_octets, parts_of}
use Rattle.line_tap.proofs.Cited.{IsSendable, Frame, CanBeSent, Role}
use Rattle.std.specs.Prelude.{IfOk, ◌≡◌}
use Rattle.lapm_frames.specs.declared.fault.CheckedFault.{CheckedFault}
use Rattle.lapm_frames.specs.declared.sent.Sent.TheVariants as sent
use Rattle.lapm_frames.specs.Frame.{numbered, numbers_before}
use Rattle.lapm_frames.proofs.Checking.{spelled-checked}
use Rattle.line_ends.proofs.Handing.{append-left}

info-octets : (nr : Option ℕ) (pf : Bool) (info : List ℕ) → AreOctets (numbers_before nr pf info) → AreOctets info
info-octets None pf info h = h
info-octets (Some nr) pf info h = All-tail (λ octet. octet < 256) (numbered nr pf) info h

pub spells-sendable : (check : Check) (sender : Role) (dlci : ℕ) (whole : List ℕ) (frame : Frame) → AreOctets whole
    → SpellsFrame check sender dlci whole frame → IsSendable (sent.Frame frame)
spells-sendable check sender dlci whole frame small h =
    let front : AreOctets h.octets = append-left h.octets h.passes.check_octets (subst AreOctets h.passes.whole_is small) in
    let all : AreOctets (spelled frame sender dlci) = subst AreOctets h.spelling.1 front in
    let address : ℕ = address_of (parts_of frame).command sender dlci in
    let behind : AreOctets (control_octet (parts_of frame) ∷ tail_octets (parts_of frame)) =
    All-tail (λ octet. octet < 256) address (control_octet (parts_of frame) ∷ tail_octets (parts_of frame)) all in
    let tail : AreOctets (tail_octets (parts_of frame)) =
    All-tail (λ octet. octet < 256) (control_octet (parts_of frame)) (tail_octets (parts_of frame)) behind in
    (h.spelling.0, info-octets (parts_of frame).nr (parts_of frame).pf (information_of frame) tail)

pub ok-spelled : (check : Check) (sender : Role) (dlci : ℕ) (whole : List ℕ) (r : Result Frame CheckedFault)
    → IfOk r (SpellsFrame check sender dlci whole) → IfSome (result_ok r) (λ frame. whole ≡ checked check sender dlci frame)
ok-spelled check sender dlci whole r h = grind (arith, spelled-checked)

pub ok-sendable : (check : Check) (sender : Role) (dlci : ℕ) (whole : List ℕ) (r : Result Frame CheckedFault) → AreOctets whole
    → IfOk r (SpellsFrame check sender dlci whole) → CanBeSent (result_ok r)
ok-sendable check sender dlci whole r small h = grind (arith, spells-sendable)
