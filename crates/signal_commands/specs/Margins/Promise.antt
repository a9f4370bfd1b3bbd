-- What the command hands over to the top call: the names that words give it, and what it asks and promises for them.
pub use Rattle.signal_commands.specs.Margins.Words.{MarginNames, names_of as margin_named}
use Rattle.command_base.specs.Promise.{Promise, promise_of}
use Rattle.signal_commands.specs.Margins.Ends.{margin_job}
use Rattle.signal_commands.specs.Margins.Headline.{Headline}
use Rattle.signal_commands.specs.Margins.Completes.{Completes}

abbrev pub margin_promise : MarginNames → Promise
margin_promise n = promise_of (margin_job n) (λ old new s. Headline old new n s) (λ old new s. Completes old new n s)
