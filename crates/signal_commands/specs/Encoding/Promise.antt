-- What the command hands over to the top call: the names that words give it, and what it asks and promises for them.
pub use Rattle.signal_commands.specs.Encoding.Words.{EncodeNames, names_of as encode_named}
use Rattle.command_base.specs.Promise.{Promise, promise_of}
use Rattle.signal_commands.specs.Encoding.Ends.{encode_job}
use Rattle.signal_commands.specs.Encoding.Headline.{Headline}
use Rattle.signal_commands.specs.Encoding.Completes.{Completes}

abbrev pub encode_promise : EncodeNames → Promise
encode_promise n = promise_of (encode_job n) (λ old new s. Headline old new n s) (λ old new s. Completes old new n s)
