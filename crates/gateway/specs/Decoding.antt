-- The decoder of a reader of any line.
use Rattle.exact_decoder.specs.Decoder.{Decoding}
use Rattle.gateway.specs.declared.any_reader.AnyReader.{AnyReader}
use Rattle.gateway.specs.declared.any_reader.AnyReader.TheVariants as readers

abbrev pub decoding_of : AnyReader → Decoding
decoding_of (readers.Begun r) = r.decoder
decoding_of (readers.Middle m) = m.reading.decoder
decoding_of (readers.Quarters r) = r.decoder
