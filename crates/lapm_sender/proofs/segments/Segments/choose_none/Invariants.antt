use Rattle.std.proofs.Common.{◌≡◌, length}
use Rattle.lapm_sender.proofs.segments.Segments.choose_none.Given as goal

abbrev pub invariant-loop-self : goal.invariant-loop-self
invariant-loop-self l = l.self ≡ record l.initial.self { chosen = l.self.chosen }

abbrev pub decreases-loop-self : goal.decreases-loop-self
decreases-loop-self l = length l.self.chosen
