use Rattle.gateway.proofs.Names.{◌≡◌, ◌+◌, ◌++◌, ◌∙◌, ap, arith, append_assoc, low_bits, heard}
use Rattle.gateway.proofs.Measuring.{two-fours}
use Rattle.gateway.proofs.bit_groups.octet_at.Goals as goal

pub returns : goal.returns
returns c =
    let bits = c.args.bits.now in let at = c.args.at in
    let eight : at + 8 ≡ (at + 4) + 4 = omega arith in
    ap (λ n. heard n bits) eight ∙ c.four_at-2.ensures.bits ∙ ap (λ xs. xs ++ low_bits 4 c.four_at-2.result) c.four_at.ensures.bits
    ∙ append_assoc (heard at bits) (low_bits 4 c.four_at.result) (low_bits 4 c.four_at-2.result)
    ∙ ap (λ xs. heard at bits ++ xs) (two-fours c.four_at.result c.four_at-2.result c.four_at.ensures.bound c.four_at-2.ensures.bound)
