use Rattle.std.proofs.Common.{Option, Some, subst, sym, ap, inl, refl, pos, ◌∙◌}
use Rattle.gateway.specs.declared.decoder.SampleDecoder.{SampleDecoder}
use Rattle.modem_c.specs.declared.machine.Machine.{Machine}
use Rattle.modem_c.specs.declared.machine.Machine.TheVariants as machines
use Rattle.modem_c.specs.declared.progress.Progress.{Progress}
use Rattle.modem_c.specs.Answered.{Answered}
use Rattle.modem_c.specs.Decoders.{Decodes, FinishAnswers}
use Rattle.modem_c.specs.Led.{decoder_in}
use Rattle.modem_c.proofs.CodesBack.{handed_on}
use Rattle.modem_c.proofs.Stopping.{finished-so}
use Rattle.modem_c.proofs.decoder.modem_decoder_finish.Goals as goal

pub returns-in-Ok-finish-clause-answer : goal.returns-in-Ok-finish-clause-answer
returns-in-Ok-finish-clause-answer c =
    let new = c.put.new.handle.value in
    let p : Progress = record c.none.result { written = c.in-Ok-finish.written } in
    subst (λ (m : Option Machine). Answered (decoder_in m) m new (pos 0)
    (λ it. FinishAnswers it c.args.bits.now c.finish.new.bits (pos 0) p m new)) (sym c.in-Ok.ensures.0)
    (inl (
      refl,
      ap (λ (n : Progress). n.read) c.none.ensures,
      ap (λ (n : Progress). n.lost) c.none.ensures,
      c.put.ensures ∙ ap Some c.in-Ok.ensures.1,
      c.in-Ok-finish.ensures.answer.0,
      c.in-Ok-finish.ensures.answer.1,
    ))

pub returns-in-Ok-finish-clause-ends : goal.returns-in-Ok-finish-clause-ends
returns-in-Ok-finish-clause-ends c = λ line mode samples before d done.
    c.in-Ok-finish.ensures.ends line mode samples before
    (subst (λ (m : Option Machine). Decodes line mode m samples before) c.in-Ok.ensures.0 d)

pub returns-in-Err-finish-clause-answer : goal.returns-in-Err-finish-clause-answer
returns-in-Err-finish-clause-answer c =
    let bits = c.finish.new.bits in
    let same = ap (λ (d : SampleDecoder). Some (machines.Decoder d)) c.in-Err-finish.ensures.answer.0 in
    handed_on (λ m n code. Answered (decoder_in m) m n code
    (λ it. FinishAnswers it c.args.bits.now bits code (record c.none.result { lost = c.lost_of-progress.result }) m n)) c.code_of.result
    c.code_of.type_inv c.in-Ok.ensures.0 (c.fill.ensures ∙ same)
    (finished-so c.in-Err-finish.stop c.in-Ok.taken.0 c.args.bits.now bits (Some (machines.Decoder c.in-Ok.taken.0))
    (Some (machines.Decoder c.in-Ok.taken.0)) c.none.result c.lost_of-progress.result c.code_of.result c.none.ensures c.code_of.ensures
    c.lost_of-progress.ensures c.in-Err-finish.ensures.answer.1 c.in-Err-finish.ensures.room refl)
