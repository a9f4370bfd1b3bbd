use Rattle.std.proofs.Common.{arith}
use Rattle.sample_line.proofs.Packing.{put-fits}
use Rattle.sample_line.proofs.label_slot.with_bits.Goals as goal

pub overflow_add-result : goal.overflow_add-result
overflow_add-result c = omega (arith, put-fits c.args.octet c.args.place c.args.bits c.requires.place c.requires.fit)
