use Rattle.frame_check.proofs.Names.{◌≡◌, arith, ◌∙◌, ap, sym, subst, bit_xor, octet_bits, remainder_from, Holds}
use Rattle.frame_check.specs.Register.{after_zeros}
use Rattle.frame_check.proofs.Registers.{Holds-bits, after_zeros-more}
use Rattle.frame_check.proofs.register.after_octet.Goals as goal

pub returns : goal.returns
returns c = λ w g r d h.
    let eight : c.after_four-2.result ≡ after_zeros 8 d.reversed (bit_xor c.args.register c.args.octet) =
    c.after_four-2.ensures d.reversed d.are_fours
    ∙ ap (after_zeros 4 d.reversed) (c.after_four.ensures d.reversed d.are_fours)
    ∙ after_zeros-more 4 4 d.reversed (bit_xor c.args.register c.from.result)
    ∙ ap (λ n. after_zeros 8 d.reversed (bit_xor c.args.register n)) c.from.ensures in
    subst (λ x. Holds w x (remainder_from w g r (octet_bits c.args.octet))) (sym eight)
    (Holds-bits 8 w c.args.register c.args.octet c.args.fours.now g r d h (omega arith))
