use Rattle.bit_stuffing.proofs.Found.{lent-is, lent-once}
use Rattle.bit_stuffing.proofs.laws.one_lent.Goals as goal

pub returns : goal.returns
returns c = record { exists = lent-is; no_other = λ bits octets h. lent-once bits octets _ h (lent-is bits) }
