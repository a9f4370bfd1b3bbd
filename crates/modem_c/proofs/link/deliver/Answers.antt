use Rattle.std.proofs.Common.{◌≡◌, Bool, List, ℕ, Some, None, if◌then◌else◌, inl, refl, subst}
use Rattle.gateway.specs.Endpoints.{Delivers}
use Rattle.modem_c.specs.Answered.{room_with}
use Rattle.modem_c.proofs.link.deliver.Goals as goal

pub returns : goal.returns
returns c = inl (record {
  room = c.if-room-lt-INFO.false;
  segment = Some c.deliver.new.segment;
  delivers = subst (λ (b : Bool). Delivers c.args.end.now c.deliver.new.self (if b then Some c.deliver.new.segment else None))
      c.if-not-deliver.false c.deliver.ensures.delivers;
  written = (
    refl,
    c.len.ensures.count,
    subst (λ (v : List ℕ). c.put_octets.new.room ≡ room_with v c.args.room.now)
        c.as_slice.ensures.items c.put_octets.ensures.written,
  );
})
