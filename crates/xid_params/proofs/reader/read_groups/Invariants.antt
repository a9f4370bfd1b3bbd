use Rattle.std.proofs.Common.{◌∷◌, length}
use Rattle.xid_params.proofs.Groups.{GroupsPassed}
use Rattle.xid_params.proofs.reader.read_groups.Given as goal

abbrev pub invariant-loop-identifier : goal.invariant-loop-identifier
invariant-loop-identifier l = GroupsPassed (130 ∷ l.groups) l.rest l.offered

abbrev pub decreases-loop-identifier : goal.decreases-loop-identifier
decreases-loop-identifier l = length l.rest
