-- Where a push stops.
use Rattle.std.specs.Prelude.{◌≡◌, ℕ, ◌+◌, ◌/◌, ◌^◌, ◌<◌, ◌≤◌}
use Rattle.gateway.specs.declared.decoder.SampleDecoder.{SampleDecoder}
use Rattle.gateway.specs.declared.decoder.DecoderStop.{DecoderStop}
use Rattle.gateway.specs.declared.decoder.DecoderStop.TheVariants as stops
use Rattle.gateway.specs.Decoding.{decoding_of}
use Rattle.gateway.specs.Stopped.{IsIdle, IsStopped}

-- So many parts were pushed into a decoder, with so much room, and so many samples were read and bits written. It reads none of the samples where
-- a line has fewer than they would make. Else it reads on until all are read, labels wait that there is no room for, or the line is lost.
abbrev pub StopsSo : DecoderStop → SampleDecoder → ℕ → ℕ → ℕ → ℕ → SampleDecoder → Type 0
StopsSo stops.All old parts room read written new =
    (old.samples + parts / 2 ≤ 2 ^ 50) × (read ≡ parts / 2) × IsIdle (decoding_of new.reader)
StopsSo stops.Full old parts room read written new =
    (old.samples + parts / 2 ≤ 2 ^ 50) × (room < written + 4) × IsStopped stops.Full (decoding_of new.reader)
StopsSo (stops.Lost symbol) old parts room read written new =
    (old.samples + parts / 2 ≤ 2 ^ 50) × IsStopped (stops.Lost symbol) (decoding_of new.reader)
StopsSo stops.Late old parts room read written new =
    (2 ^ 50 < old.samples + parts / 2) × (read ≡ 0) × (written ≡ 0) × (new ≡ old)
