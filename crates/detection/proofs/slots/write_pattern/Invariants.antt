use Rattle.detection.proofs.Names.{◌≡◌, ◌++◌, take}
use Rattle.detection.proofs.slots.write_pattern.Given as goal

abbrev pub invariant-loop-quad : goal.invariant-loop-quad
invariant-loop-quad l = l.out ≡ l.fn.out ++ take l.quad-index l.quad-items
