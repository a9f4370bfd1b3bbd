-- The faults by the octets themselves.
use Rattle.lapm_frames.proofs.Names.{◌≡◌, ℕ, ◌+◌, ◌-◌, ◌/◌, ◌%◌, ◌<◌, ◌≤◌, Bool, true, false, if◌then◌else◌, is_some, List, [], ◌∷◌, length}
use Rattle.lapm_frames.proofs.Names.{take, arith, refl, ◌∙◌, ap, subst, false≢true, INFO, Has, IsAddressFault, IsControlFault, IsShort}
use Rattle.lapm_frames.proofs.Names.{IsLong, address_of, control_octet, IsFrame, marked, spelled, tail_octets, FrameParts, parts_of, Frame}
use Rattle.lapm_frames.proofs.Names.{Role, Originator, Answerer}
use Rattle.std.proofs.Common.{◌⊎◌, inl, inr}
use Rattle.std.proofs.lemmas.Bool.{cases_lt}
use Rattle.lapm_frames.specs.Frame.{has_number, most_octets}
use Rattle.lapm_frames.proofs.Forms.{by_form}
use Rattle.lapm_frames.proofs.Controls.{information-at, supervisory-at, longest_of, unnumbered-at, three}
use Rattle.lapm_frames.proofs.Faults.{address-short, address-fault, control_fault, short_fault, long_fault, same_kind}

-- addresses are odd, and have the channel in their high six bits
address-odd : (command : Bool) (sender : Role) (dlci : ℕ) → address_of command sender dlci % 2 ≡ 1
address-odd true Originator dlci = omega arith
address-odd false Originator dlci = omega arith
address-odd true Answerer dlci = omega arith
address-odd false Answerer dlci = omega arith

address-channel : (command : Bool) (sender : Role) (dlci : ℕ) → address_of command sender dlci / 4 ≡ dlci
address-channel true Originator dlci = omega arith
address-channel false Originator dlci = omega arith
address-channel true Answerer dlci = omega arith
address-channel false Answerer dlci = omega arith

pub wrong-address : (sender : Role) (dlci octet : ℕ) (rest : List ℕ) → (octet % 2 ≡ 0) ⊎ (octet / 4 ≡ dlci → ⊥)
    → IsAddressFault sender dlci (octet ∷ rest) octet
wrong-address sender dlci octet rest (inl even) =
    address-fault sender dlci (octet ∷ rest) octet rest refl
    (λ command e. let odd = address-odd command sender dlci in absurd (omega (arith, odd)))
wrong-address sender dlci octet rest (inr other) =
    address-fault sender dlci (octet ∷ rest) octet rest refl (λ command e. other (ap (λ n. n / 4) e ∙ address-channel command sender dlci))

-- an odd octet with the channel is an address
an_address : (sender : Role) (dlci octet : ℕ) → octet % 2 ≡ 1 → octet / 4 ≡ dlci
    → (command : Bool) × (address_of command sender dlci ≡ octet)
an_address Originator dlci octet odd channel =
    elim (cases_lt (octet / 2 % 2) 1) [ inl low ↦ (false, omega arith) | inr high ↦ (true, omega arith) ]
an_address Answerer dlci octet odd channel =
    elim (cases_lt (octet / 2 % 2) 1) [ inl low ↦ (true, omega arith) | inr high ↦ (false, omega arith) ]

pub lone-address : (sender : Role) (dlci octet : ℕ) → octet % 2 ≡ 1 → octet / 4 ≡ dlci → IsShort sender dlci (octet ∷ [])
lone-address sender dlci octet odd channel =
    let a = an_address sender dlci octet odd channel in
    subst (λ n. IsShort sender dlci (n ∷ [])) a.1 (address-short a.0 [] refl sender dlci)

pub wrong-control : (sender : Role) (dlci octet : ℕ) (command : Bool) (rest : List ℕ) → ((frame : Frame) → Has command octet frame → ⊥)
    → IsControlFault sender dlci (address_of command sender dlci ∷ octet ∷ rest) octet
wrong-control sender dlci octet command rest none = control_fault sender dlci command octet rest none

-- the octets of frames of one control octet

frame-has : (frame : Frame) → IsFrame frame → Has (parts_of frame).command (control_octet (parts_of frame)) frame
frame-has frame f = record { is_frame = f; command_is = refl; control_is = refl }

numbered_too : (other : Frame) → IsFrame other → (frame : Frame) → is_some (parts_of frame).nr ≡ true
    → control_octet (parts_of other) ≡ control_octet (parts_of frame) → 0 < length (tail_octets (parts_of other))
numbered_too other f =
    by_form (λ parts. is_some parts.nr ≡ true → control_octet (parts_of other) ≡ control_octet parts
    → 0 < length (tail_octets (parts_of other)))
    (λ ns nr pf info has e. (information-at other f (omega (arith, e))).some)
    (λ name control command nr pf k has e. let one = (supervisory-at other (rw e k.odd)).one in omega (arith, one))
    (λ name control command pf info k has e. absurd (false≢true has))

pub no-number : (frame : Frame) (sender : Role) (dlci : ℕ) → IsFrame frame → has_number frame ≡ true
    → IsShort sender dlci (take 2 (spelled frame sender dlci))
no-number frame sender dlci f has =
    short_fault sender dlci (parts_of frame).command (control_octet (parts_of frame)) frame (frame-has frame f)
    (λ other h. numbered_too other h.is_frame frame has h.control_is)

no_more : (code : ℕ) (pf : Bool) (other : Frame) → code % 4 ≡ 3 → code / 16 % 2 ≡ 0 → IsFrame other
    → control_octet (parts_of other) ≡ marked code pf → length (tail_octets (parts_of other)) ≤ longest_of code
no_more code pf other odd unmarked f e =
    let u = unnumbered-at other f (rw e (three code pf odd)) in
    subst (λ k. length (tail_octets (parts_of other)) ≤ longest_of k) (same_kind code pf other u unmarked e) u.longest

-- the most octets by the parts
abbrev most_of : FrameParts → ℕ
most_of parts = 2 + (if is_some parts.nr then 1 else 0) + (if is_some parts.info then INFO else 0)

most_too : (other : Frame) → IsFrame other → (frame : Frame) → control_octet (parts_of other) ≡ control_octet (parts_of frame)
    → 2 + length (tail_octets (parts_of other)) ≤ most_of (parts_of frame)
most_too other f = by_form
    (λ parts. control_octet (parts_of other) ≡ control_octet parts → 2 + length (tail_octets (parts_of other)) ≤ most_of parts)
    (λ ns nr pf info e. let most = (information-at other f (omega (arith, e))).longest in omega (arith, most))
    (λ name control command nr pf k e. let one = (supervisory-at other (rw e k.odd)).one in omega (arith, one))
    (λ name control command pf info k e.
    let most = no_more control pf other k.odd k.unmarked f e in
    rw k.informs (omega (arith, most)))

too_many : (frame : Frame) (sender : Role) (dlci : ℕ) (octets : List ℕ) → IsFrame frame
    → take 2 octets ≡ address_of (parts_of frame).command sender dlci ∷ control_octet (parts_of frame) ∷ []
    → most_octets frame < length octets → IsLong sender dlci octets (length octets)
too_many frame sender dlci [] f e over = cc
too_many frame sender dlci (x ∷ []) f e over = cc
too_many frame sender dlci (x ∷ y ∷ rest) f e over =
    let first : x ≡ address_of (parts_of frame).command sender dlci = cc in
    let second : y ≡ control_octet (parts_of frame) = cc in
    let bound : (other : Frame) → Has (parts_of frame).command (control_octet (parts_of frame)) other
    → length (tail_octets (parts_of other)) ≤ most_octets frame - 2 = λ other h. let most =
    most_too other h.is_frame frame h.control_is in omega (arith, most) in
    let long = long_fault sender dlci (parts_of frame).command (control_octet (parts_of frame)) rest (most_octets frame - 2) frame
    (frame-has frame f) bound (omega arith) in
    let count : 2 + length rest ≡ length (x ∷ y ∷ rest) = omega arith in
    rw (first, second) (subst
    (IsLong sender dlci (address_of (parts_of frame).command sender dlci ∷ control_octet (parts_of frame) ∷ rest)) count long)

pub too-many : (frame : Frame) (sender : Role) (dlci : ℕ) (octets : List ℕ) → IsFrame frame
    → take 2 octets ≡ take 2 (spelled frame sender dlci) → most_octets frame < length octets → IsLong sender dlci octets (length octets)
too-many frame sender dlci octets f e over = too_many frame sender dlci octets f e over
