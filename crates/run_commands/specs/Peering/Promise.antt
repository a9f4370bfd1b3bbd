-- What the command hands over to the top call: the names that words give it, and what it asks and promises for them.
pub use Rattle.run_commands.specs.Peering.Words.{Names as PeerNames, names_of as peer_named}
use Rattle.command_base.specs.Promise.{Promise, promise_of}
use Rattle.run_commands.specs.Peering.Ends.{peer_job}
use Rattle.run_commands.specs.Peering.Headline.{Headline}
use Rattle.run_commands.specs.Peering.Completes.{Completes}

abbrev pub peer_promise : PeerNames → Promise
peer_promise n = promise_of (peer_job n) (λ old new s. Headline old new n s) (λ old new s. Completes old new n s)
