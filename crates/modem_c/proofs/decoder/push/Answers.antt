use Rattle.std.proofs.Common.{Some, ap, length, refl, subst}
use Rattle.std.specs.Prelude.{IsSomeAnd}
use Rattle.modem_c.specs.declared.machine.Machine.{Machine}
use Rattle.modem_c.specs.Answered.{Answered}
use Rattle.modem_c.specs.Decoders.{Decodes, PushAnswers}
use Rattle.modem_c.specs.Led.{decoder_in}
use Rattle.modem_c.proofs.CodesBack.{handed_on}
use Rattle.modem_c.proofs.Stopping.{pushed-so}
use Rattle.modem_c.proofs.decoder.push.Goals as goal

pub returns-in-Decoder-clause-answer : goal.returns-in-Decoder-clause-answer
returns-in-Decoder-clause-answer c = let pushed = c.push-pushed.result in
    handed_on (λ m n code. Answered (decoder_in m) m n code
    (λ it. IsSomeAnd (decoder_in n) (PushAnswers it (length c.args.parts.now) c.args.bits.now c.push-pushed.new.bits code
    (record { read = pushed.read; written = pushed.written; lost = c.lost_of.result })))) c.code_of.result c.code_of.type_inv
    (ap Some c.in-Decoder.is) refl
    (pushed-so pushed.stop c.in-Decoder.decoder c.push-pushed.new.self (length c.args.parts.now) pushed.read pushed.written c.lost_of.result
    c.args.bits.now c.push-pushed.new.bits c.code_of.result c.code_of.ensures c.lost_of.ensures c.push-pushed.ensures.stops
    c.push-pushed.ensures.late)

pub returns-in-Decoder-clause-decodes : goal.returns-in-Decoder-clause-decodes
returns-in-Decoder-clause-decodes c = λ line mode samples before d.
    c.push-pushed.ensures.decodes line mode samples before
    (subst (λ (m : Machine). Decodes line mode (Some m) samples before) c.in-Decoder.is d)
