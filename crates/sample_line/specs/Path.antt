-- For which points a path stands, and for which bits, that were read of their samples; and how a line is lost.
use Rattle.std.specs.Prelude.{◌≡◌, ℕ, Bool, List, ◌++◌, Result, Ok, Err, Some}
use Rattle.frame_check.specs.declared.check.Check.{Check}
use Rattle.symbol_map.specs.declared.sample.Sample.{Sample}
use Rattle.exact_decoder.specs.Surviving.Survivors.{LostIs}
use Rattle.exact_decoder.specs.Surviving.V32.{line_depth, line_trellis}
use Rattle.exact_decoder.specs.declared.decoder.Lost.{Lost}
use Rattle.shared_terms.specs.declared.role.Role.{Role}
use Rattle.lapm_frames.specs.declared.sent.Sent.{Sent}
use Rattle.noise_script.specs.Script.{ScriptValue}
use Rattle.sample_line.specs.declared.path.Path.{Path}
use Rattle.sample_line.specs.declared.tally.Tally.{Tally}
use Rattle.sample_line.specs.Recorded.{displaced_from, Records}
use Rattle.sample_line.specs.Mode.{mode_of}
use Rattle.sample_line.specs.Transmits.{Transmits}
use Rattle.sample_line.specs.Hears.{Hears}
use Rattle.sample_line.specs.Tallies.{TalliesBetween}

-- the points became samples, and these were read as bits
pub record Carries (path : Path) (script : ScriptValue) (points : List Sample) (read : List Bool) : Type 0 where
  pub samples : List Sample
  pub transmits : Transmits path.transmitter script points samples
  pub hears : Hears (mode_of path.transmitter.sender) path.hearer samples read

-- the same, with what was found behind the earlier bits tallied
pub record CarriesBetween (path : Path) (script : ScriptValue) (points : List Sample) (check : Check) (sender : Role) (dlci : ℕ) (s : Sent)
    (earlier : List Bool) (tally : Tally) : Type 0 where
  pub read : List Bool
  pub carries : Carries path script points read
  pub tallies : TalliesBetween check sender dlci s earlier read tally

-- the line is lost with this symbol in the samples of the points
abbrev pub LosesWith : Role → ScriptValue → List Sample → ℕ → Type 0
LosesWith sender script points symbol = LostIs line_trellis line_depth (displaced_from script sender 0 points) (Some symbol)

-- these points have come to the hearer, or the line is lost with one of them
abbrev pub Arrives : Path → ScriptValue → List Sample → Check → Role → ℕ → Sent → List Bool → Result Tally Lost → Type 0
Arrives path script points check sender dlci s earlier (Ok tally) = CarriesBetween path script points check sender dlci s earlier tally
Arrives path script points check sender dlci s earlier (Err lost) = LosesWith path.transmitter.sender script points lost.symbol

-- the line is lost with one of the first points of a slot
pub record LosesAmong (sender : Role) (script : ScriptValue) (before points : List Sample) (symbol : ℕ) : Type 0 where
  pub first : List Sample
  pub rest : List Sample
  pub points_are : points ≡ first ++ rest
  pub loses : LosesWith sender script (before ++ first) symbol

-- a slot of points has passed, or the line is lost within it
abbrev pub PassesPoints : Path → ScriptValue → List Sample → List Sample → Check → Role → ℕ → Sent → List Bool → Result Tally Lost → Type 0
PassesPoints path script before points check sender dlci s earlier (Ok tally) =
    CarriesBetween path script (before ++ points) check sender dlci s earlier tally
PassesPoints path script before points check sender dlci s earlier (Err lost) =
    LosesAmong path.transmitter.sender script before points lost.symbol

-- the line is lost with this symbol in the samples of the bits
pub record LosesAt (sender : Role) (script : ScriptValue) (bits : List Bool) (symbol : ℕ) : Type 0 where
  pub samples : List Sample
  pub recorded : Records script sender bits samples
  pub lost : LostIs line_trellis line_depth samples (Some symbol)

-- with one of the first bits of a slot
pub record LosesWithin (sender : Role) (script : ScriptValue) (before bits : List Bool) (symbol : ℕ) : Type 0 where
  pub first : List Bool
  pub rest : List Bool
  pub bits_are : bits ≡ first ++ rest
  pub loses : LosesAt sender script (before ++ first) symbol
