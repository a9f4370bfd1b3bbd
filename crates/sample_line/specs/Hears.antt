-- For which samples and bits a hearer stands.
use Rattle.std.specs.Prelude.{ℕ, Bool, List, Result, Ok, Err, Some}
use Rattle.frame_check.specs.declared.check.Check.{Check}
use Rattle.scramblers.specs.declared.mode.Mode.{Mode}
use Rattle.symbol_map.specs.declared.sample.Sample.{Sample}
use Rattle.exact_decoder.specs.Surviving.Survivors.{LostIs}
use Rattle.exact_decoder.specs.Surviving.V32.{at_beginning, line_depth, line_trellis}
use Rattle.line_coding.specs.V32.{LineRead}
use Rattle.exact_decoder.specs.declared.decoder.Lost.{Lost}
use Rattle.shared_terms.specs.declared.role.Role.{Role}
use Rattle.lapm_frames.specs.declared.sent.Sent.{Sent}
use Rattle.sample_line.specs.declared.hearer.Hearer.{Hearer}
use Rattle.sample_line.specs.declared.tally.Tally.{Tally}
use Rattle.detection.specs.Ear.{HasHeard}
use Rattle.sample_line.specs.Tallies.{TalliesBetween}

-- The reader stands for the samples, and its bits were searched for pieces and patterns.
pub record Hears (mode : Mode) (hearer : Hearer) (samples : List Sample) (read : List Bool) : Type 0 where
  pub reader : LineRead mode at_beginning line_depth hearer.reader samples read
  pub ear : HasHeard hearer.ear read

-- the same, with what was found behind the earlier bits tallied
pub record HearsBetween (mode : Mode) (hearer : Hearer) (samples : List Sample) (check : Check) (sender : Role) (dlci : ℕ) (s : Sent)
    (earlier : List Bool) (tally : Tally) : Type 0 where
  pub read : List Bool
  pub hears : Hears mode hearer samples read
  pub tallies : TalliesBetween check sender dlci s earlier read tally

-- these samples were heard, or the line is lost with one of them
abbrev pub HearsSamples : Mode → Hearer → List Sample → Check → Role → ℕ → Sent → List Bool → Result Tally Lost → Type 0
HearsSamples mode hearer samples check sender dlci s earlier (Ok tally) = HearsBetween mode hearer samples check sender dlci s earlier tally
HearsSamples mode hearer samples check sender dlci s earlier (Err lost) = LostIs line_trellis line_depth samples (Some lost.symbol)
