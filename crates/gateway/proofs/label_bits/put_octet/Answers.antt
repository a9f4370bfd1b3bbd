use Rattle.gateway.proofs.Names.{◌∙◌, ◌/◌, Bool, List, ◌++◌, ap, low_bits, given}
use Rattle.bit_stuffing.proofs.Halves.{octet-fours}
use Rattle.gateway.proofs.label_bits.put_octet.Goals as goal

pub returns-clause-given : goal.returns-clause-given
returns-clause-given c =
    c.put_bits.ensures.given ∙ ap (λ (l : List Bool). l ++ low_bits 4 (c.args.octet / 16)) c.put_bits-next.ensures.given
    ∙ octet-fours (given c.args.at c.args.out.now) c.args.octet
