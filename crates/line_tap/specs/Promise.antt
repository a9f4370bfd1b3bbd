-- What the command hands over to the top call: the names that words give it, and what it asks and promises for them.
pub use Rattle.line_tap.specs.Names.{TapNames}
pub use Rattle.line_tap.specs.Words.{names_of as tap_named}
use Rattle.command_base.specs.Promise.{Promise, promise_of}
use Rattle.line_tap.specs.Outcomes.{tap_job}
use Rattle.line_tap.specs.Headline.{Headline}
use Rattle.line_tap.specs.Completes.{Completes}

abbrev pub tap_promise : TapNames → Promise
tap_promise n = promise_of (tap_job n) (λ old new s. Headline old new n s) (λ old new s. Completes old new n s)
