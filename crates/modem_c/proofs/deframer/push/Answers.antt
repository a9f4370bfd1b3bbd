use Rattle.std.proofs.Common.{ℤ, Some, subst, sym}
use Rattle.modem_c.specs.declared.machine.Machine.{Machine}
use Rattle.modem_c.specs.Deframers.{Deframes, Pushed}
use Rattle.modem_c.proofs.CodesBack.{code_back}
use Rattle.modem_c.proofs.deframer.push.Goals as goal

pub returns-in-Deframer-clause-deframes : goal.returns-in-Deframer-clause-deframes
returns-in-Deframer-clause-deframes c = λ sender check past start.
    c.hear.ensures.reads sender check past (subst (λ (machine : Machine). Deframes sender check (Some machine) past) c.in-Deframer.is start)

pub returns-in-Deframer-clause-pushed : goal.returns-in-Deframer-clause-pushed
returns-in-Deframer-clause-pushed c = λ sender check past start.
    subst (λ (code : ℤ). Pushed sender check past c.args.bits.now c.hear.new.found c.args.room.now c.hear.new.room code)
    (sym (code_back c.hear.result c.hear.type_inv))
    (c.hear.ensures.pushed sender check past
    (subst (λ (machine : Machine). Deframes sender check (Some machine) past) c.in-Deframer.is start))
