-- What the command hands over to the top call: the names that words give it, and what it asks and promises for them.
pub use Rattle.signal_commands.specs.Decoding.Words.{DecodeNames, names_of as decode_named}
use Rattle.command_base.specs.Promise.{Promise, promise_of}
use Rattle.signal_commands.specs.Decoding.Ends.{decode_job}
use Rattle.signal_commands.specs.Decoding.Headline.{Headline}
use Rattle.signal_commands.specs.Decoding.Completes.{Completes}

abbrev pub decode_promise : DecodeNames → Promise
decode_promise n = promise_of (decode_job n) (λ old new s. Headline old new n s) (λ old new s. Completes old new n s)
