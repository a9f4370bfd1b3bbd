-- How far a recording is measured.
use Rattle.std.specs.Prelude.{ℕ, ◌+◌, ◌*◌, List}
use Rattle.scramblers.specs.declared.mode.Mode.{Mode}
use Rattle.outside_calls.specs.Folder.{FolderState, OnlyReads}
use Rattle.noise_bound.specs.Margins.{Measured, MarginStands}
use Rattle.recordings.specs.declared.rate.Rate.TheVariants as rates
use Rattle.recordings.specs.declared.header.TheConstants.{HEADER}
use Rattle.recordings.specs.Samples.{samples_in}
use Rattle.command_base.specs.Recordings.{ReadBehind}
use Rattle.shared_terms.specs.declared.limits.TheConstants.{FILE_LIMIT}
use Rattle.command_base.specs.Inputs.{ReadTo}
use Rattle.signal_commands.specs.Margins.Words.{MarginNames}
use Rattle.signal_commands.specs.Margins.Ends.{AreOpen}

-- The inputs are opened, and nothing was written or said.
pub record Opened (start now : FolderState) (n : MarginNames) (mode : Mode) : Type 0 where
  pub begins : AreOpen start n mode
  pub reads : OnlyReads start now

-- The first octets of the file, so many, are measured against the samples at the same places.
pub record MeasuredTo (start now : FolderState) (n : MarginNames) (mode : Mode) (m : Measured) (at : ℕ) : Type 0 where
  pub opened : Opened start now n mode
  pub octets : List ℕ
  pub content : List ℕ
  pub stands : MarginStands mode m octets (samples_in content)
  pub file : ReadTo start now n.file FILE_LIMIT at octets
  pub rec : ReadBehind start now n.rec rates.Trellis mode content (HEADER + 8 * at)
