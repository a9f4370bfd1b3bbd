use Rattle.lapm_receiver.proofs.Names.{◌<◌, length, subst, sym}
use Rattle.lapm_receiver.proofs.Rows.{seen-keep, slot-there, seen-room}
use Rattle.lapm_receiver.proofs.slots.Slots.keep.Goals as goal
use Rattle.lapm_receiver.proofs.slots.Slots.keep.Goals.{in-Some, in_default}

pub returns : goal.returns
returns c =
    let within : c.args.ahead < length c.self.inside.ring.items =
    seen-room _ _ c.args.ahead _ _ c.self.view_is c.self.invariant.0 c.requires.high in
    elim c.match-get_mut.branch [
      | in-Some w ↦ rw (w.self-inside-is, w.copy.ensures, c.from.ensures)
          (seen-keep _ _ _ _ _ _ c.self.view_is c.requires.delivered c.requires.low within c.requires.new)
      | in_default w ↦ absurd
          (slot-there _ _ w.in_default.ensures.value (subst (λ k. k < length c.self.inside.ring.items) (sym c.from.ensures) within))
    ]
