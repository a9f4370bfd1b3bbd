-- Laws that join an encoder and a decoder.
use Rattle.std.specs.Prelude.{◌≡◌, ℕ, ◌+◌, ◌*◌, ◌<◌, ◌≤◌, Bool, List, [], ◌∷◌, ◌++◌, length, drop, None}
use Rattle.shared_terms.specs.Prefix.{IsPrefixOf}
use Rattle.scramblers.specs.declared.mode.Mode.{Mode}
use Rattle.symbol_map.specs.declared.sample.Sample.{Sample}
use Rattle.symbol_map.specs.Distance.{distance_of}
use Rattle.exact_decoder.specs.Decoder.{Decoding}
use Rattle.line_coding.specs.QuarterTurns.{turned_by}
use Rattle.noise_bound.specs.Near.{sure, sure_of_any}
use Rattle.noise_bound.specs.Margins.{distances}
use Rattle.gateway.specs.declared.any_reader.LineKind.TheVariants as lines
use Rattle.gateway.specs.declared.decoder.SampleDecoder.{SampleDecoder}
use Rattle.gateway.specs.declared.encoder.SampleEncoder.{SampleEncoder}
use Rattle.gateway.specs.Decoded.{HasDecoded}
use Rattle.gateway.specs.Decoding.{decoding_of}
use Rattle.gateway.specs.Encoded.{HasEncoded}
use Rattle.gateway.specs.Measured.{BitsCost}
use Rattle.gateway.specs.Reads.{Ends}

-- Of samples that were sent the first ones were heard as these, with noise of less in all than 2.5 squares of a unit of the map, whatever
-- its places.
pub record IsHeardOf (sent heard : List Sample) : Type 0 where
  pub first : List Sample
  pub later : List Sample
  pub parts : sent ≡ first ++ later
  pub same_length : length first ≡ length heard
  pub near : distances first heard < sure

-- Of samples that were sent those behind the first so many were heard as these, by some quarters turned, with noise of less in all than one
-- square of a unit of the map.
pub record IsHeardBehind (count : ℕ) (sent heard : List Sample) : Type 0 where
  pub before : List Sample
  pub middle : List Sample
  pub later : List Sample
  pub parts : sent ≡ (before ++ middle) ++ later
  pub place : length before ≡ count
  pub turns : ℕ
  pub noisy : List Sample
  pub turned : heard ≡ turned_by turns noisy
  pub same_length : length middle ≡ length noisy
  pub near : distances middle noisy < sure_of_any

-- each sample is heard nearer than this to the one that was sent
abbrev pub AreEachNear : ℕ → List Sample → List Sample → Type 0
AreEachNear bound [] [] = Unit {0}
AreEachNear bound [] (s ∷ heard) = ⊥
AreEachNear bound (p ∷ sent) [] = ⊥
AreEachNear bound (p ∷ sent) (s ∷ heard) = (distance_of p s < bound) × AreEachNear bound sent heard

-- half the way between two points at 4800 bit/s, squared: five squares of a unit of the map, of 2048 squared each
abbrev pub half_way : ℕ
half_way = 20971520

-- Of samples that were sent the first ones were heard as these, each with noise of less than half the way to the next point.
pub record IsHeardEach (sent heard : List Sample) : Type 0 where
  pub first : List Sample
  pub later : List Sample
  pub parts : sent ≡ first ++ later
  pub near : AreEachNear half_way first heard

-- A decoder of so many bits a sample isn't lost, the bits that it gave begin those that were sent, and of the samples that it heard at most
-- so many are still to come, but for the labels that wait.
pub record FollowsSent (each most : ℕ) (d : Decoding) (sent given : List Bool) (heard : List Sample) : Type 0 where
  pub never_lost : d.lost ≡ None
  pub were_sent : IsPrefixOf given sent
  pub few_to_come : each * length heard ≤ length given + each * (length d.pending + most)

-- at 9600 bit/s, with noise below 2.5 squares of a unit of the map in all
abbrev pub SentBitsComeBack : Type 0
SentBitsComeBack = (mode : Mode) (e : SampleEncoder) (d : SampleDecoder) (sent given : List Bool) (samples heard : List Sample)
    → HasEncoded lines.Begun mode e sent samples → IsHeardOf samples heard → HasDecoded lines.Begun mode d heard given
    → FollowsSent 4 126 (decoding_of d.reader) sent given heard

-- and without noise
abbrev pub SentBitsComeSoon : Type 0
SentBitsComeSoon = (mode : Mode) (e : SampleEncoder) (d : SampleDecoder) (sent given : List Bool) (heard later : List Sample)
    → HasEncoded lines.Begun mode e sent (heard ++ later) → HasDecoded lines.Begun mode d heard given
    → FollowsSent 4 24 (decoding_of d.reader) sent given heard

-- with those that are given at its end they are all that were sent
abbrev pub AllBitsComeBack : Type 0
AllBitsComeBack = (mode : Mode) (e : SampleEncoder) (sent given last : List Bool) (samples : List Sample)
    → HasEncoded lines.Begun mode e sent samples → Ends lines.Begun mode samples given last → given ++ last ≡ sent

-- What a decoder gives of samples begins the bits that cost so little against these that a meter is sure, at most 126 samples behind, but for
-- labels that wait.
abbrev pub SureBitsAreGiven : Type 0
SureBitsAreGiven = (mode : Mode) (d : SampleDecoder) (bits given : List Bool) (samples : List Sample) (price : ℕ)
    → BitsCost mode bits samples price → price < sure → HasDecoded lines.Begun mode d samples given
    → FollowsSent 4 126 (decoding_of d.reader) bits given samples

-- A decoder of a line's middle isn't lost, the bits that it gave begin those that were sent behind the 27 that it can't tell, and of the
-- samples that it heard at most so many are still to come, but for the labels that wait.
pub record FollowsMiddle (most : ℕ) (d : Decoding) (sent given : List Bool) (heard : List Sample) : Type 0 where
  pub never_lost : d.lost ≡ None
  pub were_sent : IsPrefixOf given (drop 27 sent)
  pub few_to_come : 4 * length heard ≤ length given + 27 + 4 * (length d.pending + most)

-- from any sample on, by however many quarters the points are turned
abbrev pub MiddleBitsComeBack : Type 0
MiddleBitsComeBack = (mode : Mode) (e : SampleEncoder) (d : SampleDecoder) (sent given : List Bool) (samples heard : List Sample) (count : ℕ)
    → HasEncoded lines.Begun mode e sent samples → IsHeardBehind count samples heard → HasDecoded lines.Middle mode d heard given
    → FollowsMiddle 116 (decoding_of d.reader) (drop (4 * count) sent) given heard

-- at 4800 bit/s, where no sample is heard farther off than half the way to the next point: none is behind
abbrev pub QuarterBitsComeBack : Type 0
QuarterBitsComeBack = (mode : Mode) (e : SampleEncoder) (d : SampleDecoder) (sent given : List Bool) (samples heard : List Sample)
    → HasEncoded lines.Quarters mode e sent samples → IsHeardEach samples heard → HasDecoded lines.Quarters mode d heard given
    → FollowsSent 2 0 (decoding_of d.reader) sent given heard

abbrev pub AllQuarterBitsComeBack : Type 0
AllQuarterBitsComeBack = (mode : Mode) (e : SampleEncoder) (sent given last : List Bool) (samples heard : List Sample)
    → HasEncoded lines.Quarters mode e sent samples → AreEachNear half_way samples heard → Ends lines.Quarters mode heard given last
    → given ++ last ≡ sent
