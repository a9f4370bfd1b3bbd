use Rattle.std.proofs.Common.{◌≡◌, ◌++◌, length, Some, sym, ap, ◌∙◌}
use Rattle.std.specs.Prelude.{IsSomeAnd}
use Rattle.gateway.specs.Given.{given, samples_in}
use Rattle.modem_c.specs.Answered.{Answered}
use Rattle.modem_c.specs.Decoders.{Decodes, PushAnswers}
use Rattle.modem_c.specs.Led.{decoder_in}
use Rattle.modem_c.proofs.CodesBack.{handed_on}
use Rattle.modem_c.proofs.decoder.modem_decoder_push.Goals as goal

pub returns : goal.returns
returns c =
    let old : c.args.handle.now.value ≡ Some c.as_mut.result.now = c.in-Some.ensures.value ∙ ap Some (sym c.as_mut.ensures.value) in
    record {
      decodes = λ line mode samples before.
          handed_on (λ m n code. Decodes line mode m samples before
          → Decodes line mode n (samples ++ samples_in c.push-code.new.progress.read c.args.parts.now)
          (before ++ given c.push-code.new.progress.written c.push-code.new.bits)) c.push-code.result c.push-code.type_inv old c.put.ensures
          (c.push-code.ensures.decodes line mode samples before);
      bits = c.push-code.ensures.bits;
      answer = handed_on (λ m n code. Answered (decoder_in m) m n code
          (λ it. IsSomeAnd (decoder_in n) (PushAnswers it (length c.args.parts.now) c.args.bits.now c.push-code.new.bits code
          c.push-code.new.progress))) c.push-code.result c.push-code.type_inv old c.put.ensures c.push-code.ensures.answer;
      none = λ e. c.push-code.ensures.none (ap decoder_in (sym old) ∙ e);
      length = c.push-code.ensures.length;
      read = c.push-code.ensures.read;
      written = c.push-code.ensures.written;
    }
