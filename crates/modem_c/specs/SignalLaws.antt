-- Laws that join a handle that leads to an encoder, or to a meter, and one that leads to a decoder.
use Rattle.std.specs.Prelude.{◌≡◌, ◌*◌, ◌<◌, ℕ, Bool, List, ◌++◌, drop, Option, IsSomeAnd}
use Rattle.scramblers.specs.declared.mode.Mode.{Mode}
use Rattle.symbol_map.specs.declared.sample.Sample.{Sample}
use Rattle.noise_bound.specs.Near.{sure}
use Rattle.gateway.specs.declared.any_reader.LineKind.TheVariants as lines
use Rattle.gateway.specs.Decoding.{decoding_of}
use Rattle.gateway.specs.Measured.{BitsCost}
use Rattle.gateway.specs.Reads.{Ends}
use Rattle.gateway.specs.SignalLaws.{IsHeardOf, IsHeardBehind, IsHeardEach, AreEachNear, half_way, FollowsSent, FollowsMiddle}
use Rattle.modem_c.specs.declared.machine.Machine.{Machine}
use Rattle.modem_c.specs.Decoders.{Decodes}
use Rattle.modem_c.specs.Encoders.{Encodes}
use Rattle.modem_c.specs.Led.{decoder_in}

-- The decoder that a handle leads to isn't lost, the bits that it gave begin those that were sent, and of the samples that it heard at
-- most so many are still to come.
abbrev pub Follows : ℕ → ℕ → Option Machine → List Bool → List Bool → List Sample → Type 0
Follows each most led sent given heard = IsSomeAnd (decoder_in led) (λ it. FollowsSent each most (decoding_of it.reader) sent given heard)

-- at 9600 bit/s, with noise below 2.5 squares of a unit of the map in all
abbrev pub SentBitsComeBack : Type 0
SentBitsComeBack = (mode : Mode) (e d : Option Machine) (sent given : List Bool) (samples heard : List Sample)
    → Encodes lines.Begun mode e sent samples → IsHeardOf samples heard → Decodes lines.Begun mode d heard given
    → Follows 4 126 d sent given heard

-- and without noise
abbrev pub SentBitsComeSoon : Type 0
SentBitsComeSoon = (mode : Mode) (e d : Option Machine) (sent given : List Bool) (heard later : List Sample)
    → Encodes lines.Begun mode e sent (heard ++ later) → Decodes lines.Begun mode d heard given → Follows 4 24 d sent given heard

-- with those that are given at its end they are all that were sent
abbrev pub AllBitsComeBack : Type 0
AllBitsComeBack = (mode : Mode) (e : Option Machine) (sent given last : List Bool) (samples : List Sample)
    → Encodes lines.Begun mode e sent samples → Ends lines.Begun mode samples given last → given ++ last ≡ sent

-- from any sample on, by however many quarters the points are turned: the bits behind the first 27 that are heard
abbrev pub MiddleBitsComeBack : Type 0
MiddleBitsComeBack = (mode : Mode) (e d : Option Machine) (sent given : List Bool) (samples heard : List Sample) (count : ℕ)
    → Encodes lines.Begun mode e sent samples → IsHeardBehind count samples heard → Decodes lines.Middle mode d heard given
    → IsSomeAnd (decoder_in d) (λ it. FollowsMiddle 116 (decoding_of it.reader) (drop (4 * count) sent) given heard)

-- what a decoder gives of samples begins the bits of which a meter of these is sure, at most 126 samples behind, but for labels that wait
abbrev pub SureBitsAreGiven : Type 0
SureBitsAreGiven = (mode : Mode) (d : Option Machine) (bits given : List Bool) (samples : List Sample) (price : ℕ)
    → BitsCost mode bits samples price → price < sure → Decodes lines.Begun mode d samples given → Follows 4 126 d bits given samples

-- at 4800 bit/s, where each sample is heard nearer than half the way to the next point
abbrev pub QuarterBitsComeBack : Type 0
QuarterBitsComeBack = (mode : Mode) (e d : Option Machine) (sent given : List Bool) (samples heard : List Sample)
    → Encodes lines.Quarters mode e sent samples → IsHeardEach samples heard → Decodes lines.Quarters mode d heard given
    → Follows 2 0 d sent given heard

abbrev pub AllQuarterBitsComeBack : Type 0
AllQuarterBitsComeBack = (mode : Mode) (e : Option Machine) (sent given last : List Bool) (samples heard : List Sample)
    → Encodes lines.Quarters mode e sent samples → AreEachNear half_way samples heard → Ends lines.Quarters mode heard given last
    → given ++ last ≡ sent
