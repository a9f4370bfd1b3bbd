-- The octets of a frame of ITU-T V.42, without its check, by its parts: each frame has one spelling.
use Rattle.std.specs.Prelude.{◌≡◌, ℕ, ◌+◌, ◌*◌, ◌<◌, ◌≤◌, Bool, true, false, if◌then◌else◌, List, [], ◌∷◌, length, Option, Some, None, IfSome, is_some, unwrap_or}
use Rattle.frame_check.specs.declared.sizes.TheConstants.{INFO}
use Rattle.shared_terms.specs.declared.role.Role.{Role}
use Rattle.shared_terms.specs.declared.role.Role.TheVariants.{Originator, Answerer}
use Rattle.lapm_frames.specs.declared.frame.Frame.{Frame}
use Rattle.lapm_frames.specs.declared.frame.Frame.TheVariants.{Ui}
use Rattle.lapm_frames.specs.Parts.{FrameParts, parts_of}

-- The address: the low bit is set, the next bit is set in commands of the originator and responses of the answerer,
-- and the other six are the channel. The first argument says whether it is that of a command.
abbrev pub address_of : Bool → Role → ℕ → ℕ
address_of true Originator dlci = 4 * dlci + 3
address_of false Originator dlci = 4 * dlci + 1
address_of true Answerer dlci = 4 * dlci + 1
address_of false Answerer dlci = 4 * dlci + 3

-- N(R) in the high seven bits and P/F in the low one
abbrev pub numbered : ℕ → Bool → ℕ
numbered nr pf = 2 * nr + (if pf then 1 else 0)

-- a control octet of its own, with P/F
abbrev pub marked : ℕ → Bool → ℕ
marked control pf = control + (if pf then 0x10 else 0)

-- the control octet: N(S) in the high seven bits; or that of the kind, which has P/F in it where no octet of N(R) follows
abbrev pub octet_with : Option ℕ → Option ℕ → Bool → ℕ → ℕ
octet_with (Some ns) nr pf control = 2 * ns
octet_with None (Some nr) pf control = control
octet_with None None pf control = marked control pf

abbrev pub control_octet : FrameParts → ℕ
control_octet parts = octet_with parts.ns parts.nr parts.pf parts.control

-- what follows it: N(R) with P/F, then the information, so far as the kind has them
abbrev pub numbers_before : Option ℕ → Bool → List ℕ → List ℕ
numbers_before None pf rest = rest
numbers_before (Some nr) pf rest = numbered nr pf ∷ rest

abbrev pub tail_octets : FrameParts → List ℕ
tail_octets parts = numbers_before parts.nr parts.pf (unwrap_or parts.info [])

-- the octets of a frame
abbrev pub spelled : Frame → Role → ℕ → List ℕ
spelled frame sender dlci = address_of (parts_of frame).command sender dlci ∷ control_octet (parts_of frame) ∷ tail_octets (parts_of frame)

-- numbers are below 128, and information has at most INFO octets
abbrev pub IsFrame : Frame → Type 0
IsFrame frame = IfSome (parts_of frame).ns (λ ns. ns < 128) × IfSome (parts_of frame).nr (λ nr. nr < 128)
    × IfSome (parts_of frame).info (λ info. length info ≤ INFO)

-- the octets spell the frame
abbrev pub FrameSpelling : Frame → Role → ℕ → List ℕ → Type 0
FrameSpelling frame sender dlci octets = IsFrame frame × (octets ≡ spelled frame sender dlci)

-- whether the frame has N(R)
abbrev pub has_number : Frame → Bool
has_number frame = is_some (parts_of frame).nr

-- the information that it carries
abbrev pub information_of : Frame → List ℕ
information_of frame = unwrap_or (parts_of frame).info []

-- the information of a UI frame
abbrev pub information_of_ui : Frame → Option (List ℕ)
information_of_ui (Ui command pf info) = Some info
information_of_ui frame = None

-- the most octets of a frame of this kind
abbrev pub most_octets : Frame → ℕ
most_octets frame = 2 + (if is_some (parts_of frame).nr then 1 else 0) + (if is_some (parts_of frame).info then INFO else 0)
