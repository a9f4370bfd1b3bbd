-- A spelling is an address, a control octet and a tail: octets that begin one.
use Rattle.lapm_frames.proofs.Names.{◌≡◌, ℕ, Bool, true, false, List, ◌∷◌, ◌++◌, arith, refl, sym, Has, Begins, address_of, control_octet}
use Rattle.lapm_frames.proofs.Names.{tail_octets, FrameSpelling, parts_of, Frame, Role, Originator, Answerer}

-- an address tells commands from responses
pub address-one : (a b : Bool) (sender : Role) (dlci : ℕ) → address_of a sender dlci ≡ address_of b sender dlci → a ≡ b
address-one true true sender dlci e = refl
address-one false false sender dlci e = refl
address-one true false Originator dlci e = absurd (omega arith)
address-one true false Answerer dlci e = absurd (omega arith)
address-one false true Originator dlci e = absurd (omega arith)
address-one false true Answerer dlci e = absurd (omega arith)

-- some frame has an address, a control octet and a tail that goes on so
pub record Goes (command : Bool) (control : ℕ) (tail : List ℕ) : Type 0 where
  pub frame : Frame
  pub has : Has command control frame
  pub rest : List ℕ
  pub tail_is : tail_octets (parts_of frame) ≡ tail ++ rest

second : (a b c d : ℕ) (xs ys : List ℕ) → a ∷ b ∷ xs ≡ c ∷ d ∷ ys → (a ≡ c) × (b ≡ d) × (xs ≡ ys)
second a b c d xs ys e = (cc, cc, cc)

-- octets with an address and a control octet begin a frame where some frame has these and goes on so
pub begins-goes : (sender : Role) (dlci : ℕ) (command : Bool) (control : ℕ) (tail : List ℕ)
    → Begins sender dlci (address_of command sender dlci ∷ control ∷ tail) → Goes command control tail
begins-goes sender dlci command control tail h =
    let e = second (address_of (parts_of h.frame).command sender dlci) (control_octet (parts_of h.frame))
    (address_of command sender dlci) control (tail_octets (parts_of h.frame)) (tail ++ h.rest) h.goes_on in
    record {
      frame = h.frame;
      has = record { is_frame = h.is_frame; command_is = address-one (parts_of h.frame).command command sender dlci e.0; control_is = e.1 };
      rest = h.rest;
      tail_is = e.2;
    }

pub goes-begins : (sender : Role) (dlci : ℕ) (command : Bool) (control : ℕ) (tail : List ℕ) → Goes command control tail
    → Begins sender dlci (address_of command sender dlci ∷ control ∷ tail)
goes-begins sender dlci command control tail g = record {
  frame = g.frame;
  is_frame = g.has.is_frame;
  rest = g.rest;
  goes_on = rw (g.has.command_is, g.has.control_is, g.tail_is) refl;
}

-- likewise for whole spellings
pub spelling-has : (frame : Frame) (sender : Role) (dlci : ℕ) (command : Bool) (control : ℕ) (tail : List ℕ)
    → FrameSpelling frame sender dlci (address_of command sender dlci ∷ control ∷ tail)
    → Has command control frame × (tail ≡ tail_octets (parts_of frame))
spelling-has frame sender dlci command control tail h =
    let e = second (address_of (parts_of frame).command sender dlci) (control_octet (parts_of frame))
    (address_of command sender dlci) control (tail_octets (parts_of frame)) tail (sym h.1) in
    (record { is_frame = h.0; command_is = address-one (parts_of frame).command command sender dlci e.0; control_is = e.1 }, sym e.2)
