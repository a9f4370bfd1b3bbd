use Rattle.lapm_receiver.proofs.Rows.{seen-take, slot-there, seen-room}
use Rattle.lapm_receiver.proofs.slots.Slots.take.Goals as goal
use Rattle.lapm_receiver.proofs.slots.Slots.take.Goals.{in-Some, in_default}

pub returns-clause-taken : goal.returns-clause-taken
returns-clause-taken c = elim c.match-get_mut.branch [
  | in-Some w ↦ rw (c.ready.ensures.ready, w.self-inside-is, w.copy.ensures)
      (seen-take _ _ _ _ _ c.self.view_is c.requires.delivered (seen-room _ _ 0 _ _ c.self.view_is c.self.invariant.0 c.requires.some))
  | in_default w ↦ absurd
      (slot-there _ _ w.in_default.ensures.value (seen-room _ _ 0 _ _ c.self.view_is c.self.invariant.0 c.requires.some))
]
