-- What a handle that leads to a decoder stands for, and what the calls on it answer.
use Rattle.std.specs.Prelude.{◌≡◌, ◌⊎◌, ◌≤◌, ℕ, ℤ, Bool, List, length, Option, Some, IsSomeAnd}
use Rattle.scramblers.specs.declared.mode.Mode.{Mode}
use Rattle.symbol_map.specs.declared.sample.Sample.{Sample}
use Rattle.gateway.specs.declared.any_reader.LineKind.{LineKind}
use Rattle.gateway.specs.declared.decoder.SampleDecoder.{SampleDecoder}
use Rattle.gateway.specs.declared.decoder.DecoderStop.{DecoderStop}
use Rattle.gateway.specs.declared.decoder.DecoderStop.TheVariants as stops
use Rattle.gateway.specs.Decoding.{decoding_of}
use Rattle.gateway.specs.Decoded.{HasDecoded}
use Rattle.gateway.specs.Stopped.{IsIdle, IsUnfinished}
use Rattle.gateway.specs.Stops.{StopsSo}
use Rattle.modem_c.specs.declared.codes.TheConstants.{DONE, FULL, LOST, LATE}
use Rattle.modem_c.specs.declared.progress.Progress.{Progress}
use Rattle.modem_c.specs.declared.machine.Machine.{Machine}
use Rattle.modem_c.specs.declared.machine.Machine.TheVariants as machines
use Rattle.modem_c.specs.Led.{decoder_in}
use Rattle.modem_c.specs.Progressed.{nothing_done}

-- a decoder that has read these samples of such a line as these bits
abbrev pub Decodes : LineKind → Mode → Option Machine → List Sample → List Bool → Type 0
Decodes line mode led samples bits = IsSomeAnd (decoder_in led) (λ it. HasDecoded line mode it samples bits)

-- the code of each stop, and the symbol since which the line is lost
abbrev pub code_of : DecoderStop → ℤ
code_of stops.All = DONE
code_of stops.Full = FULL
code_of (stops.Lost symbol) = LOST
code_of stops.Late = LATE

abbrev pub lost_of : DecoderStop → ℕ
lost_of stops.All = 0
lost_of stops.Full = 0
lost_of (stops.Lost symbol) = symbol
lost_of stops.Late = 0

-- What a push answers into a decoder, of so many parts, with what was the room before. No symbol is told but of a line that is lost, and where the samples
-- are too many for a line the room stays as it was.
abbrev pub PushAnswers : SampleDecoder → ℕ → List ℕ → List ℕ → ℤ → Progress → SampleDecoder → Type 0
PushAnswers old parts before room code p new =
    ((code ≡ DONE) × (p.lost ≡ 0) × StopsSo stops.All old parts (length room) p.read p.written new)
    ⊎ ((code ≡ FULL) × (p.lost ≡ 0) × StopsSo stops.Full old parts (length room) p.read p.written new)
    ⊎ ((code ≡ LOST) × StopsSo (stops.Lost p.lost) old parts (length room) p.read p.written new)
    ⊎ ((code ≡ LATE) × (p.lost ≡ 0) × (room ≡ before) × StopsSo stops.Late old parts (length room) p.read p.written new)

-- And at the line's end: the decoder is spent, or the handle and the room stay as they were. No sample is read, and bits are written by DONE alone.
abbrev pub FinishAnswers : SampleDecoder → List ℕ → List ℕ → ℤ → Progress → Option Machine → Option Machine → Type 0
FinishAnswers decoder before room code p old new =
    ((code ≡ DONE) × (p.read ≡ 0) × (p.lost ≡ 0) × (new ≡ Some machines.Spent) × IsIdle (decoding_of decoder.reader) × (512 ≤ length room))
    ⊎ ((code ≡ FULL) × (p ≡ nothing_done) × (room ≡ before) × (new ≡ old) × IsUnfinished stops.Full (decoding_of decoder.reader) (length room))
    ⊎ ((code ≡ LOST) × (p.read ≡ 0) × (p.written ≡ 0) × (room ≡ before) × (new ≡ old)
    × IsUnfinished (stops.Lost p.lost) (decoding_of decoder.reader) (length room))
