use Rattle.frame_check.proofs.Names.{ap, sym, subst, ◌∙◌, bits_of, remainder_from, Holds}
use Rattle.frame_check.proofs.BitLists.{bits_of-append}
use Rattle.frame_check.proofs.Remainders.{remainder_from-append}
use Rattle.frame_check.proofs.register.after_both.Goals as goal

pub returns : goal.returns
returns c = λ w g r d h.
    let head = c.args.head.now in
    let rest = c.args.rest.now in
    subst (λ remainder. Holds w c.after_octets.result remainder)
    (sym (ap (remainder_from w g r) (bits_of-append head rest) ∙ remainder_from-append w g r (bits_of head) (bits_of rest)))
    (c.after_octets.ensures w g (remainder_from w g r (bits_of head)) d (c.after_octets-behind_head.ensures w g r d h))
