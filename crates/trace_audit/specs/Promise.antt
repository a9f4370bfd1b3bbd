-- What the command hands over to the top call: the names that words give it, and what it asks and promises for them.
pub use Rattle.trace_audit.specs.Words.{AuditNames, names_of as audit_named}
use Rattle.command_base.specs.Promise.{Promise, promise_of}
use Rattle.trace_audit.specs.Ends.{audit_job}
use Rattle.trace_audit.specs.Headline.{Headline}
use Rattle.trace_audit.specs.Completes.{Completes}

abbrev pub audit_promise : AuditNames → Promise
audit_promise n = promise_of (audit_job n) (λ old new s. Headline old new n s) (λ old new s. Completes old new n s)
