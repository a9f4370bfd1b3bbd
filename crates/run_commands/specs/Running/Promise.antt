-- What the command hands over to the top call: the names that words give it, and what it asks and promises for them.
pub use Rattle.run_inputs.specs.Words.{RunNames, run_named, record_named}
use Rattle.command_base.specs.Promise.{Promise, promise_of}
use Rattle.run_commands.specs.Running.Ends.{run_job}
use Rattle.run_commands.specs.Running.Headline.{Headline}
use Rattle.run_commands.specs.Running.Completes.{Completes}

abbrev pub run_promise : RunNames → Promise
run_promise n = promise_of (run_job n) (λ old new s. Headline old new n s) (λ old new s. Completes old new n s)
