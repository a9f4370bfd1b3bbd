-- Where a reader of patterns stops.
use Rattle.std.specs.Prelude.{◌≡◌, ℕ, ◌+◌, ◌<◌, ◌≤◌, Bool, List, ◌++◌, Option, Some, None, length}
use Rattle.lapm_frames.specs.declared.seen.Seen.{Seen}
use Rattle.detection.specs.Patterns.{seen_at}
use Rattle.gateway.specs.Given.{heard}

-- behind the past no pattern is seen with any of the first so many bits
abbrev pub NoneSeen : List Bool → List ℕ → ℕ → Type 0
NoneSeen past bits count = (n : ℕ) → 0 < n → n ≤ count → seen_at (past ++ heard n bits) ≡ None

-- where a push of these bits stops that has read so many: at the first with which a pattern is seen, or at their end
abbrev pub SeesAt : List Bool → List ℕ → ℕ → Option Seen → Type 0
SeesAt past bits read None = (read ≡ length bits) × NoneSeen past bits read
SeesAt past bits read (Some seen) = (before : ℕ) × (read ≡ before + 1) × NoneSeen past bits before × (seen_at (past ++ heard read bits) ≡ Some seen)
