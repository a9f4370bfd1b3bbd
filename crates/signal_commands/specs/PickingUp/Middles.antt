-- What a recording gives that begins in the middle of what was sent.
use Rattle.std.specs.Prelude.{◌≡◌, ℕ, ◌+◌, ◌*◌, ◌<◌, ◌≤◌, Bool, List, length, take, drop, None}
use Rattle.scramblers.specs.declared.mode.Mode.{Mode}
use Rattle.scramblers.specs.Mode.{tap_of}
use Rattle.symbol_map.specs.declared.sample.Sample.{Sample}
use Rattle.exact_decoder.specs.Surviving.Survivors.{LostIs}
use Rattle.exact_decoder.specs.Surviving.V32.{any_trellis, line_depth}
use Rattle.bit_stuffing.specs.Found.{Found}
use Rattle.line_coding.specs.Modulates.{Modulates}
use Rattle.line_coding.specs.QuarterTurns.{turned_by}
use Rattle.noise_bound.specs.Near.{sure_of_any}
use Rattle.noise_bound.specs.Margins.{distances}
use Rattle.signal_commands.specs.PickingUp.Gives.{GivesPieces}

-- what is left of samples whose first ones aren't there, after so many quarter turns
abbrev pub middle_of : ℕ → ℕ → List Sample → List Sample
middle_of cut turns samples = turned_by turns (drop cut samples)

-- Samples are heard as they were sent, each, with noise of less than a square of a map unit in all from a place on.
pub record AreNear (cut : ℕ) (sent heard : List Sample) : Type 0 where
  pub as_many : length heard ≡ length sent
  pub near : distances (drop cut sent) (drop cut heard) < sure_of_any

-- Of what was sent these bits are heard, where so many of the first symbols aren't there: those behind the first 27 that are there, but for
-- so many at the end at most.
pub record AreHeardOf (most : ℕ) (sent : List Bool) (cut : ℕ) (bits : List Bool) : Type 0 where
  pub upto : ℕ
  pub late : length sent ≤ upto + most
  pub bits_are : bits ≡ drop (4 * cut + 27) (take upto sent)

-- With so little noise that is what is heard, whatever turn the samples have: all but the bits of 116 symbols,
abbrev pub MiddlesGiveWhatWasSent : Type 0
MiddlesGiveWhatWasSent = (mode : Mode) (sent : List Bool) (samples heard : List Sample) (cut turns : ℕ) (pieces : List Found)
    → Modulates (tap_of mode) sent samples → AreNear cut samples heard → (g : GivesPieces mode (middle_of cut turns heard) pieces)
    → AreHeardOf 464 sent cut g.bits

-- or of 29 where there is none.
abbrev pub MiddlesWithoutNoiseGiveMore : Type 0
MiddlesWithoutNoiseGiveMore = (mode : Mode) (sent : List Bool) (samples : List Sample) (cut turns : ℕ) (pieces : List Found)
    → Modulates (tap_of mode) sent samples → (g : GivesPieces mode (middle_of cut turns samples) pieces) → AreHeardOf 116 sent cut g.bits

-- The line isn't lost.
abbrev pub MiddlesAreNeverLost : Type 0
MiddlesAreNeverLost = (mode : Mode) (sent : List Bool) (samples heard : List Sample) (cut turns : ℕ) → Modulates (tap_of mode) sent samples
    → AreNear cut samples heard → LostIs any_trellis line_depth (middle_of cut turns heard) None
