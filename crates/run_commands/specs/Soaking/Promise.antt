-- What the command hands over to the top call: the names that words give it, and what it asks and promises for them.
pub use Rattle.run_commands.specs.Soaking.Words.{seed_named}
use Rattle.std.specs.Prelude.{ℕ}
use Rattle.command_base.specs.Promise.{Promise, promise_of}
use Rattle.run_commands.specs.Soaking.Ends.{soak_job}
use Rattle.run_commands.specs.Soaking.Headline.{Headline}
use Rattle.run_commands.specs.Soaking.Completes.{Completes}

abbrev pub soak_promise : ℕ → Promise
soak_promise seed = promise_of (soak_job seed) (λ old new s. Headline old new seed s) (λ old new s. Completes old new seed s)
