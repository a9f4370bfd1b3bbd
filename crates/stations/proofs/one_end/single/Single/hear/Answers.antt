use Rattle.stations.proofs.Names.{◌≡◌, subst, Ok, Err, hear, IsHeard, slot_bits, stream}
use Rattle.stations.proofs.OneEnd.Turning.{heard-badly, heard-well}
use Rattle.stations.proofs.one_end.single.Single.hear.Goals as goal

pub returns-in-Ok-clause-hears : goal.returns-in-Ok-clause-hears
returns-in-Ok-clause-hears c = λ p h.
    let w = heard-well (hear c.args.self.now.turn c.hear_slot-arrived.result p.account) p.file c.hear.new.self _
    (c.in-Ok.ensures.hears p.file p.account h.station) in (
      w.mid,
      record {
        run = h.run;
        heard = subst (λ r. IsHeard r (stream p.slots) (slot_bits c.args.slot.now) c.hear_slot-arrived.result) c.other.ensures
            (c.hear_slot-arrived.ensures.heard (stream p.slots) h.ear);
        hears = subst (λ n. hear n c.hear_slot-arrived.result p.account ≡ Ok w.mid) h.turn w.hears;
        station = w.stands;
        ear = c.hear_slot-arrived.ensures.stands (stream p.slots) h.ear;
        turn = h.turn;
      },
    )

pub returns-in-Err-clause-hears : goal.returns-in-Err-clause-hears
returns-in-Err-clause-hears c = λ p h. record {
  run = h.run;
  heard = subst (λ r. IsHeard r (stream p.slots) (slot_bits c.args.slot.now) c.hear_slot-arrived.result) c.other.ensures
      (c.hear_slot-arrived.ensures.heard (stream p.slots) h.ear);
  hears = subst (λ n. hear n c.hear_slot-arrived.result p.account ≡ Err c.in-Err.fault) h.turn
      (heard-badly (hear c.args.self.now.turn c.hear_slot-arrived.result p.account) p.file c.hear.new.self c.in-Err.fault
      (c.in-Err.ensures.hears p.file p.account h.station));
  turn = h.turn;
}
