-- What was received in a slot so far, beside what was sent in it.
use Rattle.std.specs.Prelude.{◌≡◌, ℕ, Bool, true, false, List, [], ◌∷◌, ◌++◌, Option, option_to_list, map}
use Rattle.frame_check.specs.declared.check.Check.{Check}
use Rattle.shared_terms.specs.declared.role.Role.{Role}
use Rattle.lapm_frames.specs.declared.seen.Seen.{Seen}
use Rattle.lapm_frames.specs.declared.seen.Seen.TheVariants as seen
use Rattle.lapm_frames.specs.declared.sent.Sent.{Sent}
use Rattle.lapm_frames.specs.declared.sent.Sent.TheVariants as sent
use Rattle.sample_line.specs.declared.tally.Tally.{Tally}
use Rattle.sample_line.specs.declared.tally.Tally.TheVariants.{Silent, AsSent, Other}
use Rattle.sample_line.specs.Outcomes.{IsSilent, IsWhatWasSent}
use Rattle.bit_stuffing.specs.Found.{Found, pieces_of}
use Rattle.detection.specs.Sights.{Sight, sights_of}
use Rattle.bit_stuffing.specs.Sent.{wholes}
use Rattle.sample_line.specs.Received.{PassTheCheck, FoundBetween}

-- these octets and patterns were received
abbrev pub Tallies : Role → ℕ → Sent → List (List ℕ) → List Seen → Tally → Type 0
Tallies sender dlci s octets patterns Silent = IsSilent octets patterns
Tallies sender dlci s octets patterns AsSent = IsWhatWasSent sender dlci s octets patterns
Tallies sender dlci s octets patterns Other = (IsSilent octets patterns → ⊥) × (IsWhatWasSent sender dlci s octets patterns → ⊥)

-- whether the slot carries the pattern
abbrev pub carries : Sent → Seen → Bool
carries sent.Odp seen.Odp = true
carries sent.Odp seen.Adp = false
carries sent.Adp seen.Odp = false
carries sent.Adp seen.Adp = true
carries sent.Mark pattern = false
carries sent.Flags pattern = false
carries (sent.Frame frame) pattern = false

-- octets passed the check once more, which the slot carries or not
abbrev pub after_octets : Bool → Tally → Tally
after_octets true Silent = AsSent
after_octets false Silent = Other
after_octets carried AsSent = Other
after_octets carried Other = Other

-- one pattern more, which the slot carries or not
abbrev pub after_pattern : Bool → Tally → Tally
after_pattern true Silent = AsSent
after_pattern false Silent = Other
after_pattern true AsSent = AsSent
after_pattern false AsSent = Other
after_pattern carried Other = Other

-- What of a whole piece passes the check, if it does, is tallied behind these.
pub record WholeIsTallied (check : Check) (sender : Role) (dlci : ℕ) (s : Sent) (whole : List ℕ) (octets : List (List ℕ))
    (patterns : List Seen) (tally : Tally) : Type 0 where
  pub front : Option (List ℕ)
  pub passes : PassTheCheck check (whole ∷ []) (option_to_list front)
  pub tallies : Tallies sender dlci s (octets ++ option_to_list front) patterns tally

-- And so is what passes of the pieces that end with more bits.
pub record PiecesAreTallied (check : Check) (sender : Role) (dlci : ℕ) (s : Sent) (bits later : List Bool) (octets : List (List ℕ))
    (patterns : List Seen) (tally : Tally) : Type 0 where
  pub pieces : List Found
  pub pieces_are : pieces_of later ≡ pieces_of bits ++ pieces
  pub more : List (List ℕ)
  pub passes : PassTheCheck check (wholes pieces) more
  pub tallies : Tallies sender dlci s (octets ++ more) patterns tally

-- Or the patterns that end with them are.
pub record PatternsAreTallied (sender : Role) (dlci : ℕ) (s : Sent) (bits later : List Bool) (octets : List (List ℕ))
    (patterns : List Seen) (tally : Tally) : Type 0 where
  pub sights : List Sight
  pub sights_are : sights_of later ≡ sights_of bits ++ sights
  pub tallies : Tallies sender dlci s octets (patterns ++ map (λ (sight : Sight). sight.seen) sights) tally

-- What was found behind the earlier bits is tallied.
pub record TalliesBetween (check : Check) (sender : Role) (dlci : ℕ) (s : Sent) (earlier later : List Bool) (tally : Tally) : Type 0 where
  pub octets : List (List ℕ)
  pub patterns : List Seen
  pub found : FoundBetween check earlier later octets patterns
  pub tallies : Tallies sender dlci s octets patterns tally
