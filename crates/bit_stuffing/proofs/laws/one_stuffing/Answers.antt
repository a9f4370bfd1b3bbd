use Rattle.std.proofs.Common.{refl}
use Rattle.bit_stuffing.proofs.Stuffed.{is_stuffed, stuffs-stuffed}
use Rattle.bit_stuffing.proofs.laws.one_stuffing.Goals as goal

pub returns : goal.returns
returns c = record { exists = λ content. stuffs-stuffed 0 5 content refl; no_other = λ content line h. is_stuffed 5 h refl }
