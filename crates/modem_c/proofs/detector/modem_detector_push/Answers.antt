use Rattle.std.proofs.Common.{◌≡◌, ◌++◌, ◌≢◌, Some, sym, ap, ◌∙◌}
use Rattle.gateway.specs.Given.{heard}
use Rattle.modem_c.specs.declared.codes.TheConstants.{EMPTY, WRONG_KIND}
use Rattle.modem_c.specs.Answered.{Answered}
use Rattle.modem_c.specs.Detectors.{Detects, Sights}
use Rattle.modem_c.specs.Led.{detector_in}
use Rattle.modem_c.proofs.CodesBack.{handed_on}
use Rattle.modem_c.proofs.detector.modem_detector_push.Goals as goal

pub returns : goal.returns
returns c =
    let old : c.args.handle.now.value ≡ Some c.as_mut.result.now = c.in-Some.ensures.value ∙ ap Some (sym c.as_mut.ensures.value) in
    record {
      detects = λ past.
          handed_on (λ m n code. Detects m past → Detects n (past ++ heard c.push-code.new.read c.args.bits.now)) c.push-code.result
          c.push-code.type_inv old
          c.put.ensures (c.push-code.ensures.detects past);
      sights = λ past.
          handed_on (λ m n code. Detects m past → Sights past c.args.bits.now c.push-code.new.read c.push-code.new.kind code)
          c.push-code.result c.push-code.type_inv old c.put.ensures (c.push-code.ensures.sights past);
      answer = handed_on (λ m n code. Answered (detector_in m) m n code (λ _. (code ≢ EMPTY) × (code ≢ WRONG_KIND))) c.push-code.result
          c.push-code.type_inv old
          c.put.ensures c.push-code.ensures.answer;
      none = λ e. c.push-code.ensures.none (ap detector_in (sym old) ∙ e);
      read = c.push-code.ensures.read;
    }
