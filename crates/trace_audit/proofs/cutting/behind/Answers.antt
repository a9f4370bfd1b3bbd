use Rattle.std.proofs.lemmas.Slice.Eq.{strip_prefix_is}
use Rattle.trace_audit.proofs.Cited.{Decides-eqb}
use Rattle.trace_audit.proofs.Fronts.{behind-stripped}
use Rattle.trace_audit.proofs.cutting.behind.Goals as goal

pub returns : goal.returns
returns c =
    behind-stripped c.args.label.now c.args.text.now c.strip_prefix.result
    (strip_prefix_is Decides-eqb c.args.text.now c.args.label.now c.strip_prefix.result c.strip_prefix.ensures.cases)
