-- What the command hands over to the top call: the names that words give it, and what it asks and promises for them.
pub use Rattle.link_pair.specs.Words.{Names as PairNames, names_of as pair_named}
use Rattle.command_base.specs.Promise.{Promise, promise_of}
use Rattle.link_pair.specs.Ends.{pair_job}
use Rattle.link_pair.specs.Headline.{Headline}
use Rattle.link_pair.specs.Completes.{Completes}

abbrev pub pair_promise : PairNames → Promise
pair_promise n = promise_of (pair_job n) (λ old new s. Headline old new n s) (λ old new s. Completes old new n s)
