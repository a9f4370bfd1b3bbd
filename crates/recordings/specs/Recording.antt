-- What a recording is: a header, and then samples.
use Rattle.std.specs.Prelude.{ℕ, List, [], ◌∷◌, ◌++◌, codes}
use Rattle.std.specs.List.{flat_map}
use Rattle.std.specs.Int.{cast_unsigned, w16}
use Rattle.byteorder.specs.Endian.{little_bytes}
use Rattle.scramblers.specs.declared.mode.Mode.{Mode}
use Rattle.scramblers.specs.declared.mode.Mode.TheVariants.{Call, Answer}
use Rattle.symbol_map.specs.declared.sample.Sample.{Sample}
use Rattle.recordings.specs.declared.rate.Rate.{Rate}
use Rattle.recordings.specs.declared.rate.Rate.TheVariants.{Trellis, Quarters}

-- the number of a rate and a mode
abbrev pub mode_number : Rate → Mode → ℕ
mode_number Trellis Call = 0
mode_number Trellis Answer = 1
mode_number Quarters Call = 2
mode_number Quarters Answer = 3

-- the letters V32R, that number, and three zeros
abbrev pub header_at : Rate → Mode → List ℕ
header_at rate mode = codes "V32R" ++ (mode_number rate mode ∷ 0 ∷ 0 ∷ 0 ∷ [])

-- the header of a recording with the trellis code
abbrev pub header_of : Mode → List ℕ
header_of mode = header_at Trellis mode

-- both coordinates as 16 bits, the low octet first
abbrev pub sample_octets : Sample → List ℕ
sample_octets s = little_bytes 2 (cast_unsigned w16 s.re) ++ little_bytes 2 (cast_unsigned w16 s.im)

-- the octets of a recording of these samples
abbrev pub recording_octets : Rate → Mode → List Sample → List ℕ
recording_octets rate mode samples = header_at rate mode ++ flat_map sample_octets samples

-- how many samples an octet becomes
abbrev pub samples_each : Rate → ℕ
samples_each Trellis = 2
samples_each Quarters = 4
