use Rattle.std.proofs.Common.{◌≡◌, ℕ, List, length, Option, Some, subst, sym, ap, refl, ◌∙◌, pos}
use Rattle.shared_terms.specs.declared.role.Role.{Role}
use Rattle.frame_check.specs.declared.check.Check.{Check}
use Rattle.modem_c.specs.Answered.{Puts}
use Rattle.modem_c.specs.Codes as codes
use Rattle.modem_c.specs.FramesWritten.{WritesFrame}
use Rattle.modem_c.specs.FramesWritten.Written.{NoRoom, Done}
use Rattle.modem_c.proofs.frame.modem_frame_write.Goals as goal

pub returns-then-room-lt-WHOLE-clause-writes : goal.returns-then-room-lt-WHOLE-clause-writes
returns-then-room-lt-WHOLE-clause-writes c =
    let sender : Some c.in-Some-Some.sender ≡ codes.role_of c.args.sender = sym c.in-Some-Some.is-0 ∙ c.role_of.ensures in
    let check : Some c.in-Some-Some.check ≡ codes.check_of c.args.check32 = sym c.in-Some-Some.is-1 ∙ c.check_of.ensures in
    subst (λ (s : Option Role). WritesFrame s (codes.check_of c.args.check32) c.args.fields.now c.args.info.now c.args.room.now
    c.args.room.now 0 (pos 2)) sender
    (subst (λ (k : Option Check). WritesFrame (Some c.in-Some-Some.sender) k c.args.fields.now c.args.info.now c.args.room.now
    c.args.room.now 0 (pos 2)) check
    (NoRoom c.in-Some.frame c.in-Some.ensures.0 c.in-Some.ensures.1 c.if-room-lt-WHOLE.true refl
    (record { count_is = refl; written = refl })))

pub returns-clause-writes : goal.returns-clause-writes
returns-clause-writes c =
    let sender : Some c.in-Some-Some.sender ≡ codes.role_of c.args.sender = sym c.in-Some-Some.is-0 ∙ c.role_of.ensures in
    let check : Some c.in-Some-Some.check ≡ codes.check_of c.args.check32 = sym c.in-Some-Some.is-1 ∙ c.check_of.ensures in
    let octets : c.as_slice.result.now ≡ c.write_checked-octets.result = c.as_slice.ensures.items in
    subst (λ (s : Option Role). WritesFrame s (codes.check_of c.args.check32) c.args.fields.now c.args.info.now c.args.room.now
    c.put_octets.new.room c.len.result (pos 0)) sender
    (subst (λ (k : Option Check). WritesFrame (Some c.in-Some-Some.sender) k c.args.fields.now c.args.info.now c.args.room.now
    c.put_octets.new.room c.len.result (pos 0)) check
    (Done c.in-Some.frame c.in-Some.ensures.0 c.in-Some.ensures.1 c.if-room-lt-WHOLE.false refl
    (subst (λ (written : List ℕ). Puts written c.args.room.now c.put_octets.new.room c.len.result) (octets ∙ c.write_checked-octets.ensures)
    (record { count_is = c.len.ensures.count ∙ ap length (sym octets); written = c.put_octets.ensures.written }))))
