-- For which samples and bits a decoder stands.
use Rattle.std.specs.Prelude.{◌≡◌, ℕ, ◌+◌, Bool, List, length, Some}
use Rattle.scramblers.specs.declared.mode.Mode.{Mode}
use Rattle.symbol_map.specs.declared.sample.Sample.{Sample}
use Rattle.gateway.specs.declared.any_reader.LineKind.{LineKind}
use Rattle.gateway.specs.declared.decoder.SampleDecoder.{SampleDecoder}
use Rattle.gateway.specs.Decoding.{decoding_of}
use Rattle.gateway.specs.Reads.{ReadsAs}

-- it has read these samples of such a line, sent by a modem of this mode, and given these bits
pub record HasDecoded (line : LineKind) (mode : Mode) (decoder : SampleDecoder) (samples : List Sample) (bits : List Bool) : Type 0 where
  pub reads : ReadsAs line mode decoder.reader samples bits
  pub counted : decoder.samples ≡ length samples
  pub ended : (symbol : ℕ) → (decoding_of decoder.reader).lost ≡ Some symbol → length samples ≡ symbol + 1  -- it reads none behind the one that lost the line
