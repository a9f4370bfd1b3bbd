-- What the command hands over to the top call: the names that words give it, and what it asks and promises for them.
pub use Rattle.frame_commands.specs.Explaining.Words.{digits_named}
use Rattle.std.specs.Prelude.{ℕ, List, []}
use Rattle.command_base.specs.Job.{Shared}
use Rattle.command_base.specs.Promise.{Promise, promise_of}
use Rattle.frame_commands.specs.Explaining.Ends.{xid_job}
use Rattle.frame_commands.specs.Explaining.Completes.{Completes}

abbrev pub xid_promise : List ℕ → Promise
xid_promise digits = promise_of (xid_job digits) (λ old new s. Shared [] [] old new s) (λ old new s. Completes old new digits s)
