use Rattle.std.proofs.Common.{subst, sym, refl, ◌∙◌}
use Rattle.bit_stuffing.specs.declared.piece.Piece.{Piece}
use Rattle.modem_c.specs.Deframers.{Tells}
use Rattle.modem_c.specs.Deframers.TellsOctets.{AsFrame, AsFault}
use Rattle.modem_c.proofs.deframer.tell_piece.Goals as goal

pub returns-in-Ok-clause-tells : goal.returns-in-Ok-clause-tells
returns-in-Ok-clause-tells c = λ sender check bits start.
    subst (λ (piece : Piece). Tells sender check bits piece c.tell_frame.new.found c.args.room.now c.tell_frame.new.room)
    (sym c.in-Whole.is)
    (AsFrame c.in-Ok.frame (c.in-Ok.ensures.frame sender check bits start) c.tell_frame.ensures.tells)

pub returns-in-Err-clause-tells : goal.returns-in-Err-clause-tells
returns-in-Err-clause-tells c = λ sender check bits start.
    subst (λ (piece : Piece). Tells sender check bits piece c.tell_fault.new.found c.args.room.now c.args.room.now) (sym c.in-Whole.is)
    (AsFault c.in-Err.fault (c.in-Err.ensures.fault sender check bits start) c.tell_fault.ensures.tells
    (record { count_is = c.tell_fault.ensures.info ∙ c.requires.info; written = refl }))
