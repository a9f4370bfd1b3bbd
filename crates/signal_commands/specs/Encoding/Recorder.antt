-- What the recording of a file is: the samples of what is sent of its octets.
use Rattle.std.specs.Prelude.{◌≡◌, ℕ, ◌*◌, Bool, List, length}
use Rattle.std.specs.List.{flat_map}
use Rattle.frame_check.specs.Bits.{bits_of}
use Rattle.scramblers.specs.declared.mode.Mode.{Mode}
use Rattle.scramblers.specs.Mode.{tap_of}
use Rattle.symbol_map.specs.declared.sample.Sample.{Sample}
use Rattle.line_coding.specs.Modulates.{Modulates, ModulatorStands}
use Rattle.rate_4800.specs.Modulates.{Modulates as QuarterModulates, ModulatorStands as QuarterModulatorStands}
use Rattle.recordings.specs.declared.rate.Rate.{Rate}
use Rattle.recordings.specs.declared.rate.Rate.TheVariants.{Trellis, Quarters}
use Rattle.recordings.specs.Recording.{sample_octets, recording_octets}
use Rattle.signal_commands.specs.declared.encode.recorder.Recorder.{Recorder}
use Rattle.signal_commands.specs.declared.encode.recorder.Recorder.TheVariants as recorders

-- at this rate, with this tap, these bits become these samples
abbrev pub ModulatesAt : Rate → ℕ → List Bool → List Sample → Type 0
ModulatesAt Trellis tap bits samples = Modulates tap bits samples
ModulatesAt Quarters tap bits samples = QuarterModulates tap bits samples

-- the recording of these octets at this rate in this mode: their bits, modulated
pub record IsRecordingOf (rate : Rate) (mode : Mode) (octets recording : List ℕ) (count : ℕ) : Type 0 where
  pub samples : List Sample
  pub modulated : ModulatesAt rate (tap_of mode) (bits_of octets) samples
  pub count_is : count ≡ length samples
  pub recording_is : recording ≡ recording_octets rate mode samples

-- samples that are made of the octets' bits so, so many of each, and their octets
pub record Records (makes : List Bool → List Sample → Type 0) (each : ℕ) (octets recorded : List ℕ) : Type 0 where
  pub samples : List Sample
  pub made : makes (bits_of octets) samples
  pub recorded_is : recorded ≡ flat_map sample_octets samples
  pub count : length samples ≡ each * length octets

-- a recorder of this rate and mode has made these octets of samples from those octets
abbrev pub RecorderStands : Rate → Mode → Recorder → List ℕ → List ℕ → Type 0
RecorderStands Trellis mode (recorders.Trellis m) octets recorded = Records (ModulatorStands mode m) 2 octets recorded
RecorderStands Quarters mode (recorders.Quarters m) octets recorded = Records (QuarterModulatorStands mode m) 4 octets recorded
RecorderStands Trellis mode (recorders.Quarters m) octets recorded = ⊥
RecorderStands Quarters mode (recorders.Trellis m) octets recorded = ⊥
