use Rattle.trace_audit.proofs.Cited.{sym}
use Rattle.trace_audit.proofs.LineParts.{sent-few}
use Rattle.trace_audit.proofs.reader.sent_at.Goals as goal

pub words_before-requires-clause-within : goal.words_before-requires-clause-within
words_before-requires-clause-within c = (sent-few c.args.text.now c.in_ok-rest.rest.now (sym c.in_ok-rest.ensures)).0

pub words_before-requires-clause-short : goal.words_before-requires-clause-short
words_before-requires-clause-short c = (sent-few c.args.text.now c.in_ok-rest.rest.now (sym c.in_ok-rest.ensures)).1
