-- What a handle that leads to a detector stands for, and what a push tells.
use Rattle.std.specs.Prelude.{◌≡◌, ℕ, ℤ, ◌⊎◌, Bool, List, Option, Some, None, IsSomeAnd}
use Rattle.lapm_frames.specs.declared.seen.Seen.{Seen}
use Rattle.lapm_frames.specs.declared.seen.Seen.TheVariants.{Odp, Adp}
use Rattle.detection.specs.Reader.{ReaderStands}
use Rattle.gateway.specs.Sightings.{SeesAt}
use Rattle.modem_c.specs.CodeNumbers as codes
use Rattle.modem_c.specs.declared.machine.Machine.{Machine}
use Rattle.modem_c.specs.Led.{detector_in}

-- a detector that has heard these bits
abbrev pub Detects : Option Machine → List Bool → Type 0
Detects led past = IsSomeAnd (detector_in led) (λ it. ReaderStands it.reader past)

-- a pattern by its number among what a line carries
abbrev pub kind_of : Seen → ℕ
kind_of Odp = 1
kind_of Adp = 2

-- what a push of these bits behind the past answers: a pattern is seen with the last one that was read, or none is with any
abbrev pub Sights : List Bool → List ℕ → ℕ → ℕ → ℤ → Type 0
Sights past bits read kind code =
    ((code ≡ codes.nothing) × (kind ≡ 0) × SeesAt past bits read None)
    ⊎ ((seen : Seen) × (code ≡ codes.done) × (kind ≡ kind_of seen) × SeesAt past bits read (Some seen))
