-- What a slot is to the end that hears it.
use Rattle.std.specs.Prelude.{◌≡◌, ◌≢◌, ℕ, Bool, true, false, List, [], ◌∷◌, All}
use Rattle.shared_terms.specs.declared.role.Role.{Role}
use Rattle.lapm_frames.specs.declared.frame.Frame.{Frame}
use Rattle.lapm_frames.specs.Frame.{FrameSpelling}
use Rattle.lapm_frames.specs.declared.seen.Seen.{Seen}
use Rattle.lapm_frames.specs.declared.seen.Seen.TheVariants as seen
use Rattle.lapm_frames.specs.declared.sent.Sent.{Sent}
use Rattle.lapm_frames.specs.declared.sent.Sent.TheVariants as sent
use Rattle.lapm_frames.specs.declared.heard.Heard.{Heard}
use Rattle.lapm_frames.specs.declared.heard.Heard.TheVariants.{Nothing, Passed, Lost, Chance}

-- whether a frame or a pattern was sent
abbrev pub is_message : Sent → Bool
is_message sent.Mark = false
is_message sent.Flags = false
is_message sent.Odp = true
is_message sent.Adp = true
is_message (sent.Frame frame) = true

-- nothing was received
abbrev pub IsSilent : List (List ℕ) → List Seen → Type 0
IsSilent octets patterns = (octets ≡ []) × (patterns ≡ [])

-- exactly this pattern was received, once or more often
abbrev pub IsPattern : Seen → List (List ℕ) → List Seen → Type 0
IsPattern pattern octets patterns = (octets ≡ []) × (patterns ≢ []) × All (λ other. other ≡ pattern) patterns

-- exactly this frame's octets were received, once
abbrev pub IsFrameOnce : Role → ℕ → Frame → List (List ℕ) → List Seen → Type 0
IsFrameOnce sender dlci frame octets patterns =
    (front : List ℕ) × FrameSpelling frame sender dlci front × (octets ≡ front ∷ []) × (patterns ≡ [])

-- exactly what was sent was received: a frame once, a pattern once or more often
abbrev pub IsWhatWasSent : Role → ℕ → Sent → List (List ℕ) → List Seen → Type 0
IsWhatWasSent sender dlci sent.Mark octets patterns = ⊥
IsWhatWasSent sender dlci sent.Flags octets patterns = ⊥
IsWhatWasSent sender dlci sent.Odp octets patterns = IsPattern seen.Odp octets patterns
IsWhatWasSent sender dlci sent.Adp octets patterns = IsPattern seen.Adp octets patterns
IsWhatWasSent sender dlci (sent.Frame frame) octets patterns = IsFrameOnce sender dlci frame octets patterns

-- A slot that no line of the script loses: a message is passed or lost, an empty slot is idle, and all else is chance.
abbrev pub IsHeardAs : Role → ℕ → Sent → List (List ℕ) → List Seen → Heard → Type 0
IsHeardAs sender dlci s octets patterns Nothing = (is_message s ≡ false) × IsSilent octets patterns
IsHeardAs sender dlci s octets patterns (Passed t) = (t ≡ s) × IsWhatWasSent sender dlci s octets patterns
IsHeardAs sender dlci s octets patterns (Lost t) = (t ≡ s) × (is_message s ≡ true) × IsSilent octets patterns
IsHeardAs sender dlci s octets patterns Chance = (IsSilent octets patterns → ⊥) × (IsWhatWasSent sender dlci s octets patterns → ⊥)

-- a slot that a line of the script loses: a message is lost, whatever was received
abbrev pub IsLostAs : Sent → Heard → Type 0
IsLostAs s Nothing = is_message s ≡ false
IsLostAs s (Lost t) = (t ≡ s) × (is_message s ≡ true)
IsLostAs s (Passed t) = ⊥
IsLostAs s Chance = ⊥

-- the outcome of a slot in which this was sent, by this sender on this channel, and that was received
abbrev pub IsOutcome : Bool → Role → ℕ → Sent → List (List ℕ) → List Seen → Heard → Type 0
IsOutcome true sender dlci s octets patterns heard = IsLostAs s heard
IsOutcome false sender dlci s octets patterns heard = IsHeardAs sender dlci s octets patterns heard
