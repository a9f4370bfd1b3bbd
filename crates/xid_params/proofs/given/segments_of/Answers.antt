use Rattle.std.proofs.Common.{min, ◌∙◌, ap}
use Rattle.xid_params.proofs.given.segments_of.Goals as goal

pub returns : goal.returns
returns c = c.min.ensures ∙ ap (λ number. min number 127) c.number.ensures
