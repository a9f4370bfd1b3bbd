use Rattle.std.proofs.Common.{lit<}
use Rattle.bit_stuffing.proofs.Fill.{phase-low}
use Rattle.bit_stuffing.proofs.Sizes.{length-slot_bits}
use Rattle.bit_stuffing.proofs.laws.slots_have_size.Goals as goal

pub returns : goal.returns
returns c = record { size = length-slot_bits; phase = λ size slots. phase-low size 0 slots (lit< tt) }
