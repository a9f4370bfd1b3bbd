use Rattle.std.proofs.Common.{ℕ, ◌≡◌, List, length, ap, refl, subst, sym, ◌∙◌}
use Rattle.xid_params.specs.Offers.{written}
use Rattle.modem_c.specs.Answered.{Puts}
use Rattle.modem_c.specs.Offers.OfferWritten.{Done, NoRoom}
use Rattle.modem_c.proofs.xid.modem_xid_write.Goals as goal

pub returns-then-room-lt-SPELLING-clause-writes : goal.returns-then-room-lt-SPELLING-clause-writes
returns-then-room-lt-SPELLING-clause-writes c = NoRoom c.in-Some.allowed c.in-Some.ensures.0 c.in-Some.ensures.1 c.if-room-lt-SPELLING.true
    refl
    (record { count_is = refl; written = refl })

pub returns-clause-writes : goal.returns-clause-writes
returns-clause-writes c =
    let spelled : c.as_slice.result.now ≡ written c.in-Some.allowed = c.as_slice.ensures.items ∙ c.write_offer.ensures in
    Done c.in-Some.allowed c.in-Some.ensures.0 c.in-Some.ensures.1 c.if-room-lt-SPELLING.false refl
    (subst (λ (octets : List ℕ). Puts octets c.args.room.now c.put_octets.new.room c.len.result) spelled
    (record { count_is = c.len.ensures.count ∙ ap length (sym c.as_slice.ensures.items); written = c.put_octets.ensures.written }))
