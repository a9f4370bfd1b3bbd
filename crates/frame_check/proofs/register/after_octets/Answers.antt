use Rattle.frame_check.proofs.Names.{◌<◌, length, subst, sym, take, arith, bits_of, remainder_from, Holds}
use Rattle.frame_check.proofs.Registers.{remainder_from-next_octet}
use Rattle.frame_check.proofs.register.after_octets.Goals as goal

pub loop-octet-preserved : goal.loop-octet-preserved
loop-octet-preserved c = λ w g r d h.
    let within : c.loop-octet.octet-index < length c.args.octets.now = omega arith in
    subst (λ x. Holds w c.after_octet-after.result x)
    (sym (remainder_from-next_octet w g r c.args.octets.now c.loop-octet.octet-index within))
    (c.after_octet-after.ensures w g (remainder_from w g r (bits_of (take c.loop-octet.octet-index c.args.octets.now))) d
    (c.loop-octet.invariant w g r d h))
