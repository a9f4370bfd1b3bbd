-- What is received of samples: the octets that pass the check, and the patterns, in the bits of the labels that they release.
use Rattle.std.specs.Prelude.{◌≡◌, ◌⊎◌, ℕ, Bool, List, [], ◌∷◌, ◌++◌, map}
use Rattle.frame_check.specs.declared.check.Check.{Check}
use Rattle.frame_check.specs.FrameCheck.{IsChecked, Passes}
use Rattle.scramblers.specs.Mode.{tap_of}
use Rattle.symbol_map.specs.declared.sample.Sample.{Sample}
use Rattle.exact_decoder.specs.Surviving.Survivors.{IsReleased}
use Rattle.exact_decoder.specs.Surviving.V32.{line_trellis}
use Rattle.line_coding.specs.Demodulates.{Demodulates}
use Rattle.bit_stuffing.specs.Found.{Found, pieces_of}
use Rattle.bit_stuffing.specs.Sent.{wholes}
use Rattle.lapm_frames.specs.declared.seen.Seen.{Seen}
use Rattle.detection.specs.Sights.{Sight, sights_of}
use Rattle.shared_terms.specs.declared.role.Role.{Role}
use Rattle.lapm_frames.specs.Checked.{check_heard}
use Rattle.sample_line.specs.Mode.{mode_of}

-- The bits that these samples give: those of the labels that they release.
pub record Gives (sender : Role) (samples : List Sample) (bits : List Bool) : Type 0 where
  pub labels : List ℕ
  pub released : IsReleased line_trellis samples labels
  pub read : Demodulates (tap_of (mode_of sender)) labels bits

-- what of the octets between two flags passes the check, in order and without it, whether it is a frame or not; all else is dropped
abbrev pub PassTheCheck : Check → List (List ℕ) → List (List ℕ) → Type 0
PassTheCheck check [] octets = octets ≡ []
PassTheCheck check (whole ∷ others) octets =
    (Passes (check_heard check whole) whole → ⊥) × PassTheCheck check others octets
    ⊎ (front : List ℕ) × (rest : List (List ℕ)) × IsChecked (check_heard check whole) front whole × (octets ≡ front ∷ rest)
    × PassTheCheck check others rest

-- The octets and patterns that are found in the bits once the later ones are there: those that end behind the earlier ones.
pub record FoundBetween (check : Check) (earlier later : List Bool) (octets : List (List ℕ)) (patterns : List Seen) : Type 0 where
  pub pieces : List Found
  pub pieces_are : pieces_of later ≡ pieces_of earlier ++ pieces
  pub octets_are : PassTheCheck check (wholes pieces) octets
  pub sights : List Sight
  pub sights_are : sights_of later ≡ sights_of earlier ++ sights
  pub patterns_are : patterns ≡ map (λ (sight : Sight). sight.seen) sights

-- What is received in a slot: what the samples up to its end give, without what those before it gave.
pub record Receives (check : Check) (sender : Role) (before upto : List Sample) (octets : List (List ℕ)) (patterns : List Seen)
    : Type 0 where
  pub earlier : List Bool
  pub later : List Bool
  pub gave : Gives sender before earlier
  pub gives : Gives sender upto later
  pub found : FoundBetween check earlier later octets patterns
