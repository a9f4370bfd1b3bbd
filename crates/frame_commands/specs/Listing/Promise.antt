-- What the command hands over to the top call: the names that words give it, and what it asks and promises for them.
pub use Rattle.frame_commands.specs.Listing.Words.{FramesNames, names_of as frames_named}
use Rattle.command_base.specs.Promise.{Promise, promise_of}
use Rattle.frame_commands.specs.Listing.Ends.{frames_job}
use Rattle.frame_commands.specs.Listing.Headline.{Headline}
use Rattle.frame_commands.specs.Listing.Completes.{Completes}

abbrev pub frames_promise : FramesNames → Promise
frames_promise n = promise_of (frames_job n) (λ old new s. Headline old new n s) (λ old new s. Completes old new n s)
