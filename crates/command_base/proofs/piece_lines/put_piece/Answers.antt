use Rattle.command_base.proofs.Names.{◌∙◌, ◌++◌, codes, refl, ap}
use Rattle.bit_stuffing.specs.declared.piece.Piece.TheVariants as pieces
use Rattle.command_base.specs.Readings.{IsRagged, IsAborted, IsTooLong, IsTooShort}
use Rattle.command_base.proofs.PieceLines.{whole-read, line-of}
use Rattle.command_base.proofs.piece_lines.put_piece.Goals as goal

pub returns-in-Whole : goal.returns-in-Whole
returns-in-Whole c = λ found piece octets.
    line-of c.args.sender found pieces.Whole c.args.octets.now _ c.put_read.new.line (piece ∙ c.in-Whole.is) octets
    (whole-read c.args.sender c.args.octets.now c.read_checked_lent-read.result c.read_checked_lent-read.ensures.ok
    c.read_checked_lent-read.ensures.fault) c.put_read.ensures

pub returns-in-Ragged : goal.returns-in-Ragged
returns-in-Ragged c = λ found piece octets.
    line-of c.args.sender found pieces.Ragged c.args.octets.now IsRagged c.extend.new.self (piece ∙ c.in-Ragged.is) octets refl
    (c.extend.ensures ∙ ap (λ line. line ++ codes "ragged\n") c.requires)

pub returns-in-Aborted : goal.returns-in-Aborted
returns-in-Aborted c = λ found piece octets.
    line-of c.args.sender found pieces.Aborted c.args.octets.now IsAborted c.extend-in-Aborted.new.self (piece ∙ c.in-Aborted.is) octets
    refl (c.extend-in-Aborted.ensures ∙ ap (λ line. line ++ codes "aborted\n") c.requires)

pub returns-in-TooLong : goal.returns-in-TooLong
returns-in-TooLong c = λ found piece octets.
    line-of c.args.sender found pieces.TooLong c.args.octets.now IsTooLong c.extend-in-TooLong.new.self (piece ∙ c.in-TooLong.is) octets
    refl (c.extend-in-TooLong.ensures ∙ ap (λ line. line ++ codes "too long\n") c.requires)

pub returns-in-TooShort : goal.returns-in-TooShort
returns-in-TooShort c = λ found piece octets.
    line-of c.args.sender found pieces.TooShort c.args.octets.now IsTooShort c.extend-in-TooShort.new.self (piece ∙ c.in-TooShort.is) octets
    refl (c.extend-in-TooShort.ensures ∙ ap (λ line. line ++ codes "too short\n") c.requires)
