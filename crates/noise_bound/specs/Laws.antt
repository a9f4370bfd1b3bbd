-- Laws of recordings with little noise, and of the same after a quarter turn.
use Rattle.std.specs.Prelude.{◌≡◌, ◌≢◌, ℕ, ◌<◌, ◌≤◌, Bool, List, length, map, take, slice_index, None}
use Rattle.shared_terms.specs.Prefix.{IsPrefixOf}
use Rattle.scramblers.specs.declared.mode.Mode.{Mode}
use Rattle.scramblers.specs.Stream.{bit_at_place}
use Rattle.symbol_map.specs.declared.sample.Sample.{Sample}
use Rattle.symbol_map.specs.Distance.{quarter_turned}
use Rattle.symbol_map.specs.Laws.{turned_label}
use Rattle.trellis_tables.specs.LabelReader.{quads_of}
use Rattle.trellis_tables.specs.Rotation.{rotated}
use Rattle.exact_decoder.specs.Surviving.Survivors.{IsReleased, LostIs}
use Rattle.exact_decoder.specs.Surviving.V32.{at_any, v32_code}
use Rattle.line_coding.specs.QuarterTurns.{StartsTurn}
use Rattle.noise_bound.specs.Near.{only, sure, sure_of_any, IsNear}
use Rattle.line_coding.specs.Demodulates.{Demodulates}
use Rattle.line_coding.specs.PickedUp.{IsPickedUp}
use Rattle.line_coding.specs.MiddleReading.{Middle, MiddleRead}
use Rattle.bit_stuffing.specs.Found.{pieces_of}
use Rattle.noise_bound.specs.Margins.{IsCostOf}
use Rattle.noise_bound.specs.Turned.{BothRelease, IsOfFirstTwo, OneBegins}

-- labels that cost little are near the samples
abbrev pub SureIsNear : Type 0
SureIsNear = (mode : Mode) (octets : List ℕ) (samples : List Sample) (price : ℕ) → (c : IsCostOf mode octets samples price) → price < sure
    → IsNear sure (only 0) c.modulated.labels samples

-- so the line isn't lost, and what is released was sent
abbrev pub SureIsDecoded : Type 0
SureIsDecoded = (mode : Mode) (octets : List ℕ) (samples : List Sample) (price depth : ℕ) → (c : IsCostOf mode octets samples price)
    → price < sure → 126 ≤ depth
    → LostIs (v32_code (only 0)) depth samples None
    × ((front : List ℕ) → IsReleased (v32_code (only 0)) samples front → IsPrefixOf front c.modulated.labels)

-- turned samples are near the turned labels
abbrev pub NearTurns : Type 0
NearTurns = (bound : ℕ) (starts turned_starts : ℕ → Bool) (labels : List ℕ) (samples : List Sample) → StartsTurn starts turned_starts
    → IsNear bound starts labels samples → IsNear bound turned_starts (map turned_label labels) (map quarter_turned samples)

-- the quads behind the first one are the same
abbrev pub QuadsAreAlikeFrom : ℕ → (ℕ → Bool) → (ℕ → Bool) → Type 0
QuadsAreAlikeFrom bound starts turned_starts =
    (i : ℕ) (labels front turned_front : List ℕ) (samples : List Sample) → IsNear bound starts labels samples
    → BothRelease starts turned_starts samples front turned_front
    → 1 ≤ i → i < length front → i < length turned_front → slice_index (quads_of turned_front) i ≡ slice_index (quads_of front) i

-- bits that differ are among six
abbrev pub FewBitsDifferFrom : ℕ → (ℕ → Bool) → (ℕ → Bool) → Type 0
FewBitsDifferFrom bound starts turned_starts =
    (tap i : ℕ) (labels front turned_front : List ℕ) (samples : List Sample) (bits turned_bits : List Bool)
    → IsNear bound starts labels samples
    → BothRelease starts turned_starts samples front turned_front → Demodulates tap front bits → Demodulates tap turned_front turned_bits
    → i < length bits → i < length turned_bits → bit_at_place turned_bits i ≢ bit_at_place bits i → IsOfFirstTwo tap i

-- from one start, and from any

abbrev pub QuadsAreAlike : Type 0
QuadsAreAlike = (start : ℕ) → start < 8 → QuadsAreAlikeFrom sure (only start) (only (rotated start))

abbrev pub QuadsAreAlikeOfAny : Type 0
QuadsAreAlikeOfAny = QuadsAreAlikeFrom sure_of_any at_any at_any

abbrev pub FewBitsDiffer : Type 0
FewBitsDiffer = (start : ℕ) → start < 8 → FewBitsDifferFrom sure (only start) (only (rotated start))

abbrev pub FewBitsDifferOfAny : Type 0
FewBitsDifferOfAny = FewBitsDifferFrom sure_of_any at_any at_any

-- of what is picked up one begins the other
abbrev pub OnePickedUpBegins : Type 0
OnePickedUpBegins = (tap : ℕ) (labels front turned_front : List ℕ) (samples : List Sample) (bits turned_bits : List Bool)
    → IsNear sure_of_any at_any labels samples
    → BothRelease at_any at_any samples front turned_front → IsPickedUp tap front bits → IsPickedUp tap turned_front turned_bits
    → OneBegins bits turned_bits

abbrev pub OneListOfPiecesBegins : Type 0
OneListOfPiecesBegins = (tap : ℕ) (labels front turned_front : List ℕ) (samples : List Sample) (bits turned_bits : List Bool)
    → IsNear sure_of_any at_any labels samples
    → BothRelease at_any at_any samples front turned_front → IsPickedUp tap front bits → IsPickedUp tap turned_front turned_bits
    → OneBegins (pieces_of bits) (pieces_of turned_bits)

-- however far two readers have read
abbrev pub ReadersPiecesBegin : Type 0
ReadersPiecesBegin = (mode : Mode) (depth turned_depth count turned_count : ℕ) (m turned : Middle) (labels : List ℕ) (samples : List Sample)
    (bits turned_bits : List Bool)
    → IsNear sure_of_any at_any labels samples → MiddleRead mode depth m (take count samples) bits
    → MiddleRead mode turned_depth turned (take turned_count (map quarter_turned samples)) turned_bits
    → OneBegins (pieces_of bits) (pieces_of turned_bits)
