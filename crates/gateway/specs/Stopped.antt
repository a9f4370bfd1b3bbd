-- Why a decoder reads no sample more, and why its line can't be finished.
use Rattle.std.specs.Prelude.{◌≡◌, ◌≢◌, ℕ, ◌<◌, ◌⊎◌, [], Some, None}
use Rattle.exact_decoder.specs.Decoder.{Decoding}
use Rattle.gateway.specs.declared.decoder.DecoderStop.{DecoderStop}
use Rattle.gateway.specs.declared.decoder.DecoderStop.TheVariants as stops

-- no released label waits, and the line isn't lost: a sample more can be read
abbrev pub IsIdle : Decoding → Type 0
IsIdle d = (d.pending ≡ []) × (d.lost ≡ None)

-- why none can: labels wait, or the line is lost
abbrev pub IsStopped : DecoderStop → Decoding → Type 0
IsStopped stops.All d = ⊥
IsStopped stops.Full d = d.pending ≢ []
IsStopped (stops.Lost symbol) d = (d.pending ≡ []) × (d.lost ≡ Some symbol)
IsStopped stops.Late d = ⊥

-- why a line can't be finished with so much room: labels wait, the line is lost, or there is too little room for all that there can be
abbrev pub IsUnfinished : DecoderStop → Decoding → ℕ → Type 0
IsUnfinished stops.All d room = ⊥
IsUnfinished stops.Full d room = IsStopped stops.Full d ⊎ (IsIdle d × (room < 512))
IsUnfinished (stops.Lost symbol) d room = IsStopped (stops.Lost symbol) d
IsUnfinished stops.Late d room = ⊥
