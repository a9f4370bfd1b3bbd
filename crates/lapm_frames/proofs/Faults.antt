-- The first fault of octets with an address and a control octet, by the frames that have these.
use Rattle.lapm_frames.proofs.Names.{◌≡◌, ℕ, ◌+◌, ◌/◌, ◌%◌, ◌<◌, ◌≤◌, Bool, true, false, List, [], ◌∷◌, length, arith, refl, sym, ◌∙◌, ap}
use Rattle.lapm_frames.proofs.Names.{subst, lit<, false≢true, INFO, Has, Begins, IsAddressFault, IsControlFault, IsShort, IsLong}
use Rattle.lapm_frames.proofs.Names.{FirstFault, address_of, control_octet, marked, numbered, spelled, tail_octets, parts_of, FrameFault}
use Rattle.lapm_frames.proofs.Names.{Address, Control, Short, Long, Frame, I, Rr, Role}
use Rattle.std.proofs.Common.{length-append}
use Rattle.lapm_frames.specs.Fault.{IsNumbersFault}
use Rattle.lapm_frames.proofs.Beginnings.{begins-goes, goes-begins, spelling-has}
use Rattle.lapm_frames.proofs.Forms.{is_supervisory, allows}
use Rattle.lapm_frames.proofs.Controls.{marked-one, information-at, supervisory-at, longest_of, IsUnnumbered, unnumbered-at}

-- some frame begins with any address
pub begins-address : (sender : Role) (dlci : ℕ) (command : Bool) → Begins sender dlci (address_of command sender dlci ∷ [])
begins-address sender dlci command =
    record { frame = Rr command 0 false; is_frame = (tt, lit< tt, tt); rest = 0x01 ∷ numbered 0 false ∷ []; goes_on = refl }

-- no octets at all
pub nothing-short : (sender : Role) (dlci : ℕ) (octets : List ℕ) → length octets ≡ 0 → IsShort sender dlci octets
nothing-short sender dlci [] none = record {
  some = record { frame = Rr true 0 false; is_frame = (tt, lit< tt, tt); rest = spelled (Rr true 0 false) sender dlci; goes_on = refl };
  none = λ frame h. absurd (omega (arith, ap length h.1));
}
nothing-short sender dlci (x ∷ octets) none = absurd (omega arith)

-- an address alone
pub address-short : (command : Bool) (rest : List ℕ) → length rest ≡ 0 → (sender : Role) (dlci : ℕ)
    → IsShort sender dlci (address_of command sender dlci ∷ rest)
address-short command [] none sender dlci = record {
  some = begins-address sender dlci command;
  none = λ frame h. absurd (omega (arith, ap length h.1));
}
address-short command (x ∷ rest) none sender dlci = absurd (omega arith)

first : (a b : ℕ) (xs ys : List ℕ) → a ∷ xs ≡ b ∷ ys → b ≡ a
first a b xs ys e = cc

-- an octet that is no address
pub address-fault : (sender : Role) (dlci : ℕ) (octets : List ℕ) (octet : ℕ) (rest : List ℕ) → octets ≡ octet ∷ rest
    → ((command : Bool) → octet ≡ address_of command sender dlci → ⊥) → IsAddressFault sender dlci octets octet
address-fault sender dlci octets octet rest e none = record {
  rest = rest;
  octets_are = e;
  none = λ b. none (parts_of b.frame).command
      (first (address_of (parts_of b.frame).command sender dlci) octet
      (control_octet (parts_of b.frame) ∷ tail_octets (parts_of b.frame)) b.rest b.goes_on);
}

begins-both : (sender : Role) (dlci : ℕ) (command : Bool) (control : ℕ) (frame : Frame) → Has command control frame
    → Begins sender dlci (address_of command sender dlci ∷ control ∷ [])
begins-both sender dlci command control frame h =
    goes-begins sender dlci command control [] (record { frame = frame; has = h; rest = tail_octets (parts_of frame); tail_is = refl })

-- no frame has the control octet
pub control_fault : (sender : Role) (dlci : ℕ) (command : Bool) (control : ℕ) (tail : List ℕ)
    → ((frame : Frame) → Has command control frame → ⊥)
    → IsControlFault sender dlci (address_of command sender dlci ∷ control ∷ tail) control
control_fault sender dlci command control tail none = record {
  address = address_of command sender dlci;
  rest = tail;
  octets_are = refl;
  some = begins-address sender dlci command;
  none = λ b. let g = begins-goes sender dlci command control [] b in none g.frame g.has;
}

-- every frame with the control octet has more octets
pub short_fault : (sender : Role) (dlci : ℕ) (command : Bool) (control : ℕ) (frame : Frame) → Has command control frame
    → ((other : Frame) → Has command control other → 0 < length (tail_octets (parts_of other)))
    → IsShort sender dlci (address_of command sender dlci ∷ control ∷ [])
short_fault sender dlci command control frame h more = record {
  some = begins-both sender dlci command control frame h;
  none = λ other s.
      let p = spelling-has other sender dlci command control [] s in
      let some : 0 < length (tail_octets (parts_of other)) = more other p.0 in
      absurd (omega (arith, ap length p.1));
}

-- no frame with the control octet has so many octets
pub long_fault : (sender : Role) (dlci : ℕ) (command : Bool) (control : ℕ) (tail : List ℕ) (most : ℕ) (frame : Frame)
    → Has command control frame → ((other : Frame) → Has command control other → length (tail_octets (parts_of other)) ≤ most)
    → most < length tail
    → IsLong sender dlci (address_of command sender dlci ∷ control ∷ tail) (2 + length tail)
long_fault sender dlci command control tail most frame h less over = record {
  some = begins-both sender dlci command control frame h;
  none = λ b.
      let g = begins-goes sender dlci command control tail b in
      let few : length (tail_octets (parts_of g.frame)) ≤ most = less g.frame g.has in
      absurd (omega (arith, ap length g.tail_is, length-append tail g.rest));
  len_is = omega arith;
}

-- I frames

some_information : (control : ℕ) → control < 256 → control % 2 ≡ 0 → Has true control (I (control / 2) 0 false [])
some_information control low even = record { is_frame = (omega arith, lit< tt, omega arith); command_is = refl; control_is = omega arith }

pub information-control : (command : Bool) (control : ℕ) (tail : List ℕ) → control % 2 ≡ 0 → command ≡ false → (sender : Role) (dlci : ℕ)
    → IsControlFault sender dlci (address_of command sender dlci ∷ control ∷ tail) control
information-control command control tail even response sender dlci =
    control_fault sender dlci command control tail
    (λ frame h. false≢true (sym response ∙ sym h.command_is ∙ (information-at frame h.is_frame (rw h.control_is even)).is_command))

pub information-short : (command : Bool) (control : ℕ) (tail : List ℕ) → control < 256 → control % 2 ≡ 0 → command ≡ true → length tail < 1
    → (sender : Role) (dlci : ℕ) → IsShort sender dlci (address_of command sender dlci ∷ control ∷ tail)
information-short true control [] low even is none sender dlci =
    short_fault sender dlci true control (I (control / 2) 0 false []) (some_information control low even)
    (λ frame h. (information-at frame h.is_frame (rw h.control_is even)).some)
information-short true control (x ∷ tail) low even is none sender dlci = absurd (omega arith)
information-short false control tail low even is none sender dlci = absurd (false≢true is)

pub information-long : (command : Bool) (control : ℕ) (tail : List ℕ) (count : ℕ) (fault : FrameFault) → control < 256 → control % 2 ≡ 0
    → command ≡ true → 1 + count ≡ length tail → (fault ≡ Long (3 + count)) × (INFO < count)
    → (sender : Role) (dlci : ℕ) → FirstFault sender dlci (address_of command sender dlci ∷ control ∷ tail) fault
information-long true control tail count fault low even is counted (fault_is, over) sender dlci =
    let len_is : 3 + count ≡ 2 + length tail = omega arith in
    subst (FirstFault sender dlci (address_of true sender dlci ∷ control ∷ tail)) (ap Long (sym len_is) ∙ sym fault_is)
    (long_fault sender dlci true control tail (1 + INFO) (I (control / 2) 0 false []) (some_information control low even)
    (λ frame h. (information-at frame h.is_frame (rw h.control_is even)).longest) (omega arith))
information-long false control tail count fault low even is counted found sender dlci = absurd (false≢true is)

-- S frames

pub supervisory-control : (command : Bool) (control : ℕ) (tail : List ℕ) → control % 4 ≡ 1 → is_supervisory control ≡ false
    → (sender : Role) (dlci : ℕ) → IsControlFault sender dlci (address_of command sender dlci ∷ control ∷ tail) control
supervisory-control command control tail odd none sender dlci =
    control_fault sender dlci command control tail
    (λ frame h. false≢true (sym none ∙ ap is_supervisory (sym h.control_is) ∙ (supervisory-at frame (rw h.control_is odd)).known))

pub supervisory-numbers : (command : Bool) (control : ℕ) (tail : List ℕ) (frame : Frame) (fault : FrameFault) → Has command control frame
    → control % 4 ≡ 1 → IsNumbersFault tail fault → (sender : Role) (dlci : ℕ)
    → FirstFault sender dlci (address_of command sender dlci ∷ control ∷ tail) fault
supervisory-numbers command control tail frame Short h odd empty sender dlci =
    subst (λ t. IsShort sender dlci (address_of command sender dlci ∷ control ∷ t)) (sym empty)
    (short_fault sender dlci command control frame h
    (λ other k. let one = (supervisory-at other (rw k.control_is odd)).one in omega (arith, one)))
supervisory-numbers command control tail frame (Long len) h odd (len_is, over) sender dlci =
    subst (IsLong sender dlci (address_of command sender dlci ∷ control ∷ tail)) (sym len_is)
    (long_fault sender dlci command control tail 1 frame h
    (λ other k. let one = (supervisory-at other (rw k.control_is odd)).one in omega (arith, one)) over)
supervisory-numbers command control tail frame (Address octet) h odd nothing sender dlci = absurd nothing
supervisory-numbers command control tail frame (Control octet) h odd nothing sender dlci = absurd nothing

-- U frames

pub same_kind : (kind : ℕ) (pf : Bool) (frame : Frame) (u : IsUnnumbered (parts_of frame)) → kind / 16 % 2 ≡ 0
    → control_octet (parts_of frame) ≡ marked kind pf → u.kind ≡ kind
same_kind kind pf frame u unmarked e = marked-one u.kind kind u.pf pf u.unmarked unmarked (sym u.control_is ∙ e)

pub unnumbered-control : (command : Bool) (control : ℕ) (tail : List ℕ) (kind : ℕ) (pf : Bool) → control % 4 ≡ 3 → kind / 16 % 2 ≡ 0
    → marked kind pf ≡ control → allows kind command ≡ false
    → (sender : Role) (dlci : ℕ) → IsControlFault sender dlci (address_of command sender dlci ∷ control ∷ tail) control
unnumbered-control command control tail kind pf odd unmarked e none sender dlci = control_fault sender dlci command control tail (λ frame h.
    let u = unnumbered-at frame h.is_frame (rw h.control_is odd) in
    let same : u.kind ≡ kind = same_kind kind pf frame u unmarked (h.control_is ∙ sym e) in
    let allowed : allows kind command ≡ true = ap (λ k. allows k command) (sym same) ∙ ap (allows u.kind) (sym h.command_is) ∙ u.allowed in
    false≢true (sym none ∙ allowed))

-- `code` is the kind's octet as the code names it
pub unnumbered-long : (command : Bool) (control : ℕ) (tail : List ℕ) (kind code : ℕ) (pf : Bool) (frame : Frame) (fault : FrameFault)
    → kind ≡ code → Has command (marked code pf) frame → control % 4 ≡ 3 → kind / 16 % 2 ≡ 0 → marked kind pf ≡ control
    → (fault ≡ Long (2 + length tail)) × (longest_of code < length tail)
    → (sender : Role) (dlci : ℕ) → FirstFault sender dlci (address_of command sender dlci ∷ control ∷ tail) fault
unnumbered-long command control tail kind code pf frame fault named h odd unmarked e (fault_is, over) sender dlci =
    let here : Has command control frame =
    record { is_frame = h.is_frame; command_is = h.command_is; control_is = h.control_is ∙ ap (λ k. marked k pf) (sym named) ∙ e } in
    subst (FirstFault sender dlci (address_of command sender dlci ∷ control ∷ tail)) (sym fault_is)
    (long_fault sender dlci command control tail (longest_of code) frame here (λ other k.
    let u = unnumbered-at other k.is_frame (rw k.control_is odd) in
    let same : u.kind ≡ code = same_kind kind pf other u unmarked (k.control_is ∙ sym e) ∙ named in
    subst (λ n. length (tail_octets (parts_of other)) ≤ longest_of n) same u.longest) over)
