use Rattle.lapm_receiver.proofs.Names.{◌∙◌, ap, Taking}
use Rattle.std.proofs.Common.{◌%◌}
use Rattle.lapm_receiver.proofs.receiver.Receiver.nr.Goals as goal

pub returns-clause-value : goal.returns-clause-value
returns-clause-value c = ap (λ taken. taken % 128) (c.taken.ensures ∙ ap (λ (r : Taking). r.taken) c.self.view_is)

pub returns-clause-nr : goal.returns-clause-nr
returns-clause-nr c = λ i h.
    ap (λ taken. taken % 128) (c.taken.ensures ∙ ap (λ (r : Taking). r.taken) c.self.view_is ∙ h.taken_is)
