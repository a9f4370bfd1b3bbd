use Rattle.std.proofs.Common.{Some, sym, subst, ◌∙◌}
use Rattle.modem_c.specs.declared.machine.Machine.{Machine}
use Rattle.modem_c.specs.Framers.{Frames}
use Rattle.modem_c.proofs.CodesBack.{code_back}
use Rattle.modem_c.proofs.framer.write_to.Goals as goal

pub returns-in-Framer-clause-frames : goal.returns-in-Framer-clause-frames
returns-in-Framer-clause-frames c = λ symbols signals signal start by done.
    c.write.ensures.frames symbols signals signal
    (subst (λ (machine : Machine). Frames symbols (Some machine) signals) c.in-Framer.is start) by
    (sym (code_back c.write.result c.write.type_inv) ∙ done)
