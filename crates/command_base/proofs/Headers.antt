-- A header of a recording, and what stands behind it.
use Rattle.command_base.proofs.Names.{◌≡◌, ℕ, ◌≤◌, ◌<◌, true, List, ◌++◌, drop, ap, arith, IsBadHeader, header_at, Rate, Mode}
use Rattle.std.proofs.Common.{slice_index}
use Rattle.recordings.specs.Recording.{mode_number}
use Rattle.recordings.specs.Headers.{fits}
use Rattle.command_base.specs.declared.limits.TheConstants.{RECORDING_LIMIT}

-- a recording of this length is not too long
pub never-longer : (count : ℕ) → count ≤ 8388616 → RECORDING_LIMIT < count → ⊥
never-longer count within longer = omega (arith, within, longer)

mode-fits : (rate : Rate) (mode : Mode) → fits rate 4 (mode_number rate mode) ≡ true
mode-fits rate mode = grind (arith)

header-fits : (rate : Rate) (mode : Mode) (at : ℕ) → at < 8 → fits rate at (slice_index (header_at rate mode) at) ≡ true
header-fits rate mode at within = grind (arith, mode-fits)

-- a header is no bad one
pub never-bad : (rate : Rate) (mode : Mode) (at : ℕ) → IsBadHeader rate (header_at rate mode) at → ⊥
never-bad rate mode at bad = grind (arith, header-fits)

-- what stands behind the header is one
pub content-same : (rate : Rate) (mode other : Mode) (content rest : List ℕ) → header_at rate mode ++ content ≡ header_at rate other ++ rest
    → content ≡ rest
content-same rate mode other content rest e = ap (λ (xs : List ℕ). drop 8 xs) e
