use Rattle.std.proofs.Common.{◌≡◌, ℕ, List, ◌++◌, length, subst, ap, sym, refl, ◌∙◌}
use Rattle.gateway.specs.declared.deframer.FrameStop.{FrameStop}
use Rattle.gateway.specs.declared.deframer.FrameStop.TheVariants as stops
use Rattle.gateway.specs.Given.{heard}
use Rattle.gateway.specs.Frames.{HasHeard, StopsAt}
use Rattle.modem_c.specs.declared.deframer.Found.{Found}
use Rattle.modem_c.specs.Deframers.{Tells, TellsPiece, nothing_found}
use Rattle.modem_c.specs.Deframers.Pushed.{Stopped}
use Rattle.modem_c.proofs.deframer.hear.Goals as goal

nothing-told : (found : Found) (read ended : ℕ) (room : List ℕ) → found ≡ nothing_found
    → TellsPiece (record found { read = read; ended = ended }) 0 room room
nothing-told found read ended room e = record {
  numbers = record {
    piece_is = ap (λ (f : Found). f.piece) e;
    fault_is = ap (λ (f : Found). f.fault) e;
    octet_is = ap (λ (f : Found). f.octet) e;
    frame_is = ap (λ (f : Found). f.frame) e;
  };
  puts = record { count_is = ap (λ (f : Found). f.info) e; written = refl };
}

pub returns-in-Nothing-clause-pushed : goal.returns-in-Nothing-clause-pushed
returns-in-Nothing-clause-pushed c = λ sender check past start. let bits = c.args.bits.now in let read = c.push-read.result.0 in
    Stopped stops.Nothing c.if-room-lt-INFO.false
    (subst (λ (stop : FrameStop). StopsAt past bits read stop) c.in-Nothing.is (c.push-read.ensures.stops sender check past start))
    (c.heard-found.ensures sender check (past ++ heard read bits) (c.push-read.ensures.reads sender check past start))
    (refl, nothing-told c.nothing.result read c.heard-found.result c.args.room.now c.nothing.ensures)

pub returns-in-Late-clause-pushed : goal.returns-in-Late-clause-pushed
returns-in-Late-clause-pushed c = λ sender check past start. let bits = c.args.bits.now in let read = c.push-read.result.0 in
    Stopped stops.Late c.if-room-lt-INFO.false
    (subst (λ (stop : FrameStop). StopsAt past bits read stop) c.in-Late.is (c.push-read.ensures.stops sender check past start))
    (c.heard-found.ensures sender check (past ++ heard read bits) (c.push-read.ensures.reads sender check past start))
    (refl, nothing-told c.nothing.result read c.heard-found.result c.args.room.now c.nothing.ensures)

pub returns-in-Piece-clause-reads : goal.returns-in-Piece-clause-reads
returns-in-Piece-clause-reads c = λ sender check past start.
    subst (λ (read : ℕ). HasHeard sender check c.push-read.new.self (past ++ heard read c.args.bits.now)) (sym c.tell_piece.ensures.read)
    (c.push-read.ensures.reads sender check past start)

pub returns-in-Piece-clause-pushed : goal.returns-in-Piece-clause-pushed
returns-in-Piece-clause-pushed c = λ sender check past start. let bits = c.args.bits.now in let read = c.push-read.result.0 in
    let same = sym c.tell_piece.ensures.read in
    Stopped (stops.Piece c.in-Piece.piece) c.if-room-lt-INFO.false
    (subst (λ (n : ℕ). StopsAt past bits n (stops.Piece c.in-Piece.piece)) same
    (subst (λ (stop : FrameStop). StopsAt past bits read stop) c.in-Piece.is (c.push-read.ensures.stops sender check past start)))
    (c.tell_piece.ensures.ended ∙ c.heard-found.ensures sender check (past ++ heard read bits)
    (c.push-read.ensures.reads sender check past start)
    ∙ ap (λ (n : ℕ). length (past ++ heard n bits)) same) (
      refl,
      subst (λ (n : ℕ). Tells sender check (past ++ heard n bits) c.in-Piece.piece c.tell_piece.new.found c.args.room.now
          c.tell_piece.new.room) same
          (c.tell_piece.ensures.tells sender check (past ++ heard read bits) (c.push-read.ensures.reads sender check past start)),
    )
