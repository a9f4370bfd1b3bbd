-- For which samples and bits a reader of samples stands, over a code's table of next states, its points, and what it is to read labels as bits.
use Rattle.std.specs.Prelude.{ℕ, Bool, List, [], ◌++◌, Option, Some, None}
use Rattle.frame_check.specs.Bits.{low_bits}
use Rattle.symbol_map.specs.declared.sample.Sample.{Sample}
use Rattle.exact_decoder.specs.Surviving.Trellises.{trellis_of}
use Rattle.exact_decoder.specs.Surviving.Survivors.{IsFirstLeast}
use Rattle.exact_decoder.specs.Decoder.{Decoding, DecoderStands}

-- what a reader keeps
pub record Reading (D : Type 0) : Type 0 where
  pub decoder : Decoding
  pub demodulator : D

-- The decoder has heard the samples, from these states on, and the labels that were taken from it were read as these bits.
pub record SamplesRead {D : Type 0} (next : ℕ → ℕ → Option ℕ) (point : ℕ → Sample) (reads : D → List ℕ → List Bool → Type 0) (starts : ℕ
    → Bool) (depth : ℕ) (r : Reading D) (samples : List Sample) (bits : List Bool) : Type 0 where
  pub labels : List ℕ
  pub decoder : DecoderStands next point starts depth r.decoder samples labels
  pub demodulator : reads r.demodulator labels bits

-- the bits of a label, so many, if there is one
abbrev pub bits_in : ℕ → Option ℕ → List Bool
bits_in count None = []
bits_in count (Some number) = low_bits count number

-- The labels that were read as these bits and those of the tail are the least sequence, of several the one that ends in the smallest state.
pub record IsFinished {D : Type 0} (next : ℕ → ℕ → Option ℕ) (point : ℕ → Sample) (reads : D → List ℕ → List Bool → Type 0) (starts : ℕ
    → Bool) (samples : List Sample) (bits : List Bool) (tail : List ℕ) (demodulator : D) : Type 0 where
  pub labels : List ℕ
  pub read : reads demodulator labels bits
  pub least : IsFirstLeast (trellis_of next point starts) samples (labels ++ tail)
