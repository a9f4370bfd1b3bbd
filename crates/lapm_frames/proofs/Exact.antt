-- Octets are one frame or have one fault, and never both.
use Rattle.lapm_frames.proofs.Names.{◌≡◌, ℕ, List, [], ◌∷◌, ◌++◌, take, Ok, Err, Result, refl, sym, ◌∙◌, ap, subst, IfOk, IfErr, ◌↔◌}
use Rattle.lapm_frames.proofs.Names.{Begins, IsAddressFault, IsControlFault, FirstFault, FrameSpelling, FrameFault, Address, Control, Short}
use Rattle.lapm_frames.proofs.Names.{Long, Frame, Role}
use Rattle.std.proofs.Common.{append_assoc}
use Rattle.lapm_frames.proofs.Spellings.{frames-one}

-- the front of a beginning is one
begins-front : (sender : Role) (dlci : ℕ) (front back : List ℕ) → Begins sender dlci (front ++ back) → Begins sender dlci front
begins-front sender dlci front back h =
    record { frame = h.frame; is_frame = h.is_frame; rest = back ++ h.rest; goes_on = h.goes_on ∙ append_assoc front back h.rest }

-- and a whole frame is one
spelling-begins : (frame : Frame) (sender : Role) (dlci : ℕ) (octets : List ℕ) → FrameSpelling frame sender dlci octets
    → Begins sender dlci octets
spelling-begins frame sender dlci octets h = record { frame = frame; is_frame = h.0; rest = []; goes_on = sym h.1 ∙ nothing octets }
  where
    nothing : (xs : List ℕ) → xs ≡ xs ++ []
    nothing [] = refl
    nothing (x ∷ xs) = ap (λ ys. x ∷ ys) (nothing xs)

-- octets that begin a frame, or whose first two octets do, have no wrong address and no wrong control octet
not_address : (sender : Role) (dlci : ℕ) (octets : List ℕ) (octet : ℕ) → IsAddressFault sender dlci octets octet
    → Begins sender dlci (take 2 octets) → ⊥
not_address sender dlci octets octet h b = at h.rest (subst (λ o. Begins sender dlci (take 2 o)) h.octets_are b)
  where
    at : (rest : List ℕ) → Begins sender dlci (take 2 (octet ∷ rest)) → ⊥
    at [] b = h.none b
    at (x ∷ rest) b = h.none (begins-front sender dlci (octet ∷ []) (x ∷ []) b)

not_control : (sender : Role) (dlci : ℕ) (octets : List ℕ) (octet : ℕ) → IsControlFault sender dlci octets octet
    → Begins sender dlci (take 2 octets) → ⊥
not_control sender dlci octets octet h b = h.none (subst (λ o. Begins sender dlci (take 2 o)) h.octets_are b)

begins-two : (sender : Role) (dlci : ℕ) (octets : List ℕ) → Begins sender dlci octets → Begins sender dlci (take 2 octets)
begins-two sender dlci [] b = b
begins-two sender dlci (x ∷ []) b = b
begins-two sender dlci (x ∷ y ∷ rest) b = begins-front sender dlci (x ∷ y ∷ []) rest b

first_two : (a b c d : ℕ) (xs ys : List ℕ) → a ∷ b ∷ xs ≡ c ∷ d ∷ ys → b ≡ d
first_two a b c d xs ys e = cc

-- a wrong address has no wrong control octet behind it
address-control : (sender : Role) (dlci : ℕ) (octets : List ℕ) (octet other : ℕ) → IsAddressFault sender dlci octets octet
    → IsControlFault sender dlci octets other → ⊥
address-control sender dlci octets octet other h k =
    let same : octet ∷ h.rest ≡ k.address ∷ other ∷ k.rest = sym h.octets_are ∙ k.octets_are in
    let first : octet ≡ k.address = cc in
    h.none (subst (λ a. Begins sender dlci (a ∷ [])) (sym first) k.some)

pub faults-one : (sender : Role) (dlci : ℕ) (octets : List ℕ) (fault other : FrameFault) → FirstFault sender dlci octets fault
    → FirstFault sender dlci octets other → fault ≡ other
faults-one sender dlci octets (Address octet) (Address other) h k =
    let same : octet ∷ h.rest ≡ other ∷ k.rest = sym h.octets_are ∙ k.octets_are in
    let first : octet ≡ other = cc in
    ap Address first
faults-one sender dlci octets (Address octet) (Control other) h k = absurd (address-control sender dlci octets octet other h k)
faults-one sender dlci octets (Address octet) Short h k =
    absurd (not_address sender dlci octets octet h (begins-two sender dlci octets k.some))
faults-one sender dlci octets (Address octet) (Long len) h k = absurd (not_address sender dlci octets octet h k.some)
faults-one sender dlci octets (Control octet) (Address other) h k = absurd (address-control sender dlci octets other octet k h)
faults-one sender dlci octets (Control octet) (Control other) h k =
    ap Control (first_two h.address octet k.address other h.rest k.rest (sym h.octets_are ∙ k.octets_are))
faults-one sender dlci octets (Control octet) Short h k =
    absurd (not_control sender dlci octets octet h (begins-two sender dlci octets k.some))
faults-one sender dlci octets (Control octet) (Long len) h k = absurd (not_control sender dlci octets octet h k.some)
faults-one sender dlci octets Short (Address other) h k =
    absurd (not_address sender dlci octets other k (begins-two sender dlci octets h.some))
faults-one sender dlci octets Short (Control other) h k =
    absurd (not_control sender dlci octets other k (begins-two sender dlci octets h.some))
faults-one sender dlci octets Short Short h k = refl
faults-one sender dlci octets Short (Long len) h k = absurd (k.none h.some)
faults-one sender dlci octets (Long len) (Address other) h k = absurd (not_address sender dlci octets other k h.some)
faults-one sender dlci octets (Long len) (Control other) h k = absurd (not_control sender dlci octets other k h.some)
faults-one sender dlci octets (Long len) Short h k = absurd (h.none k.some)
faults-one sender dlci octets (Long len) (Long other) h k = ap Long (h.len_is ∙ sym k.len_is)

pub never-both : (frame : Frame) (sender : Role) (dlci : ℕ) (octets : List ℕ) (fault : FrameFault) → FrameSpelling frame sender dlci octets
    → FirstFault sender dlci octets fault → ⊥
never-both frame sender dlci octets (Address octet) h k =
    not_address sender dlci octets octet k (begins-two sender dlci octets (spelling-begins frame sender dlci octets h))
never-both frame sender dlci octets (Control octet) h k =
    not_control sender dlci octets octet k (begins-two sender dlci octets (spelling-begins frame sender dlci octets h))
never-both frame sender dlci octets Short h k = k.none frame h
never-both frame sender dlci octets (Long len) h k = k.none (spelling-begins frame sender dlci octets h)

-- an answer that is right, as frame or as fault, is the one answer

pub all-frames : (sender : Role) (dlci : ℕ) (octets : List ℕ) (r : Result Frame FrameFault)
    → IfOk r (λ frame. FrameSpelling frame sender dlci octets) → IfErr r (FirstFault sender dlci octets)
    → (frame : Frame) → FrameSpelling frame sender dlci octets → r ≡ Ok frame
all-frames sender dlci octets (Ok read) ok err frame h = ap Ok (frames-one read frame sender dlci octets ok h)
all-frames sender dlci octets (Err fault) ok err frame h = absurd (never-both frame sender dlci octets fault h err)

at_err : (sender : Role) (dlci : ℕ) (octets : List ℕ) (r : Result Frame FrameFault) → IfErr r (FirstFault sender dlci octets)
    → (fault : FrameFault) → r ≡ Err fault → FirstFault sender dlci octets fault
at_err sender dlci octets r err fault e = subst (λ x. IfErr x (FirstFault sender dlci octets)) e err

at_fault : (sender : Role) (dlci : ℕ) (octets : List ℕ) (r : Result Frame FrameFault)
    → IfOk r (λ frame. FrameSpelling frame sender dlci octets) → IfErr r (FirstFault sender dlci octets)
    → (fault : FrameFault) → FirstFault sender dlci octets fault → r ≡ Err fault
at_fault sender dlci octets (Ok read) ok err fault h = absurd (never-both read sender dlci octets fault ok h)
at_fault sender dlci octets (Err found) ok err fault h = ap Err (faults-one sender dlci octets found fault err h)

pub all-faults : (sender : Role) (dlci : ℕ) (octets : List ℕ) (r : Result Frame FrameFault)
    → IfOk r (λ frame. FrameSpelling frame sender dlci octets) → IfErr r (FirstFault sender dlci octets)
    → (fault : FrameFault) → (r ≡ Err fault) ↔ FirstFault sender dlci octets fault
all-faults sender dlci octets r ok err fault = (at_err sender dlci octets r err fault, at_fault sender dlci octets r ok err fault)
