-- What the command hands over to the top call: the names that words give it, and what it asks and promises for them.
pub use Rattle.signal_commands.specs.PickingUp.Words.{recording_named}
use Rattle.std.specs.Prelude.{ℕ, List}
use Rattle.command_base.specs.Promise.{Promise, promise_of}
use Rattle.signal_commands.specs.PickingUp.Ends.{pickup_job}
use Rattle.signal_commands.specs.PickingUp.Headline.{Headline}
use Rattle.signal_commands.specs.PickingUp.Completes.{Completes}

abbrev pub pickup_promise : List ℕ → Promise
pickup_promise rec = promise_of (pickup_job rec) (λ old new s. Headline old new rec s) (λ old new s. Completes old new rec s)
