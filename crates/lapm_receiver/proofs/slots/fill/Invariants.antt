use Rattle.lapm_receiver.proofs.Names.{◌≡◌, replicate, None}
use Rattle.circular_buffer.specs.Buffer.{buffer}
use Rattle.lapm_receiver.proofs.slots.fill.Given as goal

abbrev pub invariant-loop-count : goal.invariant-loop-count
invariant-loop-count l = l.ring ≡ buffer (replicate l._count None) l.fn.ring.capacity
