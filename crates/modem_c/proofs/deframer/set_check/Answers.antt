use Rattle.std.proofs.Common.{Option, Some, subst, sym, ap, refl, pos}
use Rattle.frame_check.specs.declared.check.Check.{Check}
use Rattle.gateway.specs.declared.deframer.FrameReader.{FrameReader}
use Rattle.modem_c.specs.declared.machine.Machine.{Machine}
use Rattle.modem_c.specs.declared.machine.Machine.TheVariants as machines
use Rattle.modem_c.specs.Answered.{Answered}
use Rattle.modem_c.specs.Codes as codes
use Rattle.modem_c.specs.Deframers.{SetsCheck}
use Rattle.modem_c.specs.Led.{deframer_in}
use Rattle.modem_c.proofs.deframer.set_check.Goals as goal

pub returns-clause-answers : goal.returns-clause-answers
returns-clause-answers c =
    let new = Some (machines.Deframer c.set_check.new.self) in
    subst (λ (m : Machine). Answered (deframer_in (Some m)) (Some m) new (pos 0)
    (λ it. SetsCheck (codes.check_of c.args.check32) it (Some m) new (pos 0))) (sym c.in-Deframer.is)
    (subst (λ (k : Option Check). SetsCheck k c.in-Deframer.reader (Some (machines.Deframer c.in-Deframer.reader)) new (pos 0))
    c.in-Some.ensures (refl, ap (λ (it : FrameReader). Some (machines.Deframer it)) c.set_check.ensures.is))
