-- For which samples a playback stands.
use Rattle.std.specs.Prelude.{◌≡◌, ℕ, ◌≤◌, Bool, List, [], None}
use Rattle.scramblers.specs.declared.mode.Mode.{Mode}
use Rattle.symbol_map.specs.declared.sample.Sample.{Sample}
use Rattle.exact_decoder.specs.Surviving.Survivors.{IsFirstLeast}
use Rattle.exact_decoder.specs.Surviving.V32.{at_beginning, line_depth}
use Rattle.exact_decoder.specs.Decoder.{Decoding}
use Rattle.line_coding.specs.Reading.{SamplesRead}
use Rattle.line_coding.specs.V32.{LineRead}
use Rattle.rate_4800.specs.Code.{next_state as next_quarter, point_of as quarter_of}
use Rattle.rate_4800.specs.Demodulates.{DemodulatorStands as QuarterDemodulatorStands}
use Rattle.recordings.specs.declared.rate.Rate.{Rate}
use Rattle.recordings.specs.declared.rate.Rate.TheVariants as rates
use Rattle.signal_commands.specs.declared.decode.octet_joiner.Bits.{Bits}
use Rattle.signal_commands.specs.declared.decode.rate_reader.RateReader.{RateReader}
use Rattle.signal_commands.specs.declared.decode.rate_reader.RateReader.TheVariants as readers
use Rattle.signal_commands.specs.declared.decode.playback.Playback.{Playback}
use Rattle.signal_commands.specs.Decoding.Octets.{OctetsJoined, Carries}
use Rattle.signal_commands.specs.Decoding.Rates.{trellis_at}

-- the decoder of a reader of either rate
abbrev pub decoding_of : RateReader → Decoding
decoding_of (readers.Trellis r) = r.decoder
decoding_of (readers.Quarters r) = r.decoder

-- The samples of a line of this rate and mode are read as these bits.
abbrev pub ReadsAt : Rate → Mode → RateReader → List Sample → List Bool → Type 0
ReadsAt rates.Trellis mode (readers.Trellis r) samples bits = LineRead mode at_beginning line_depth r samples bits
ReadsAt rates.Quarters mode (readers.Quarters r) samples bits =
    SamplesRead next_quarter quarter_of (QuarterDemodulatorStands mode) at_beginning line_depth r samples bits
ReadsAt rates.Trellis mode (readers.Quarters r) samples bits = ⊥
ReadsAt rates.Quarters mode (readers.Trellis r) samples bits = ⊥

-- The samples are read as bits, and these are joined to the octets.
pub record Hears (rate : Rate) (mode : Mode) (p : Playback) (samples : List Sample) (octets : List ℕ) : Type 0 where
  pub bits : List Bool
  pub read : ReadsAt rate mode p.reader samples bits
  pub joined : OctetsJoined p.joiner bits octets

-- the line isn't lost, each released label is taken, and no more samples than that were pushed
pub record IsReady (reader : RateReader) (most : ℕ) : Type 0 where
  pub not_lost : (decoding_of reader).lost ≡ None
  pub all_taken : (decoding_of reader).pending ≡ []
  pub count : (decoding_of reader).count ≤ most

-- The octets are those of the least sequence, of several the one that ends in the smallest state.
pub record Finishes (rate : Rate) (tap : ℕ) (samples : List Sample) (octets : List ℕ) : Type 0 where
  pub labels : List ℕ
  pub least : IsFirstLeast (trellis_at rate) samples labels
  pub carried : Carries rate tap labels octets

-- what reads labels has read these as bits, and they are joined to the octets
pub record LabelsJoined {D : Type 0} (reads : D → List ℕ → List Bool → Type 0) (d : D) (waiting : Bits)
    (labels octets : List ℕ) : Type 0 where
  pub bits : List Bool
  pub read : reads d labels bits
  pub joined : OctetsJoined waiting bits octets

-- the labels are read and joined so, whatever waits in the end
abbrev pub ReadToEnd : {D : Type 0} → (D → List ℕ → List Bool → Type 0) → List ℕ → List ℕ → Type 0
ReadToEnd {D} reads labels octets = (d : D) × (waiting : Bits) × LabelsJoined reads d waiting labels octets
