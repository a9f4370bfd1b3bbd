-- Why octets are no frame: how far they are the beginning of one.
use Rattle.std.specs.Prelude.{◌≡◌, ℕ, ◌+◌, ◌<◌, List, [], ◌∷◌, ◌++◌, length, take}
use Rattle.shared_terms.specs.declared.role.Role.{Role}
use Rattle.lapm_frames.specs.declared.frame.Frame.{Frame}
use Rattle.lapm_frames.specs.declared.fault.FrameFault.{FrameFault}
use Rattle.lapm_frames.specs.declared.fault.FrameFault.TheVariants.{Address, Control, Short, Long}
use Rattle.lapm_frames.specs.Frame.{IsFrame, spelled, FrameSpelling}

-- some frame begins with the octets, or is these octets
pub record Begins (sender : Role) (dlci : ℕ) (octets : List ℕ) : Type 0 where
  pub frame : Frame
  pub is_frame : IsFrame frame
  pub rest : List ℕ
  pub goes_on : spelled frame sender dlci ≡ octets ++ rest

-- no frame begins with the first octet
pub record IsAddressFault (sender : Role) (dlci : ℕ) (octets : List ℕ) (octet : ℕ) : Type 0 where
  pub rest : List ℕ
  pub octets_are : octets ≡ octet ∷ rest
  pub none : Begins sender dlci (octet ∷ []) → ⊥

-- some frame begins with the first octet, and none with the first two
pub record IsControlFault (sender : Role) (dlci : ℕ) (octets : List ℕ) (octet : ℕ) : Type 0 where
  pub address : ℕ
  pub rest : List ℕ
  pub octets_are : octets ≡ address ∷ octet ∷ rest
  pub some : Begins sender dlci (address ∷ [])
  pub none : Begins sender dlci (address ∷ octet ∷ []) → ⊥

-- some frame begins with the octets, and none is these octets
pub record IsShort (sender : Role) (dlci : ℕ) (octets : List ℕ) : Type 0 where
  pub some : Begins sender dlci octets
  pub none : (frame : Frame) → FrameSpelling frame sender dlci octets → ⊥

-- some frame begins with the first two octets, and none with all of them, which are so many
pub record IsLong (sender : Role) (dlci : ℕ) (octets : List ℕ) (len : ℕ) : Type 0 where
  pub some : Begins sender dlci (take 2 octets)
  pub none : Begins sender dlci octets → ⊥
  pub len_is : len ≡ length octets

-- the first fault of octets that spell no frame
abbrev pub FirstFault : Role → ℕ → List ℕ → FrameFault → Type 0
FirstFault sender dlci octets (Address octet) = IsAddressFault sender dlci octets octet
FirstFault sender dlci octets (Control octet) = IsControlFault sender dlci octets octet
FirstFault sender dlci octets Short = IsShort sender dlci octets
FirstFault sender dlci octets (Long len) = IsLong sender dlci octets len

-- what is wrong with the octets behind the control octet where there ought to be one
abbrev pub IsNumbersFault : List ℕ → FrameFault → Type 0
IsNumbersFault tail Short = tail ≡ []
IsNumbersFault tail (Long len) = (len ≡ 2 + length tail) × (1 < length tail)
IsNumbersFault tail _ = ⊥
