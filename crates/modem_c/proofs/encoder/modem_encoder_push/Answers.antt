use Rattle.std.proofs.Common.{Bool, ◌≡◌, ◌<◌, ◌≤◌, ◌+◌, ◌++◌, ◌*◌, Option, length, subst, sym, ap, inl, inr, refl, pos}
use Rattle.std.specs.Bool.{OnTrue, OnFalse}
use Rattle.gateway.specs.Encoded.{bits_each}
use Rattle.gateway.specs.Given.{heard, samples_in}
use Rattle.modem_c.specs.declared.machine.Machine.{Machine}
use Rattle.modem_c.specs.declared.progress.Progress.{Progress}
use Rattle.modem_c.specs.Answered.{Answered}
use Rattle.modem_c.specs.Encoders.{EncodeAnswers, Encodes}
use Rattle.modem_c.specs.Led.{encoder_in}
use Rattle.modem_c.proofs.encoder.modem_encoder_push.Goals as goal

pub returns-then-encoded-clause-encodes : goal.returns-then-encoded-clause-encodes
returns-then-encoded-clause-encodes c = λ line mode past samples e.
    subst (λ (m : Option Machine). Encodes line mode m (past ++ heard c.push-encoded.result.read c.args.bits.now)
    (samples ++ samples_in c.push-encoded.result.written c.push-encoded.new.parts)) (sym c.fill.ensures)
    (c.push-encoded.ensures.encodes line mode past samples
    (subst (λ (m : Option Machine). Encodes line mode m past samples) c.in-Ok.ensures.0 e))

pub returns-else-encoded-clause-encodes : goal.returns-else-encoded-clause-encodes
returns-else-encoded-clause-encodes c = λ line mode past samples e.
    subst (λ (m : Option Machine). Encodes line mode m (past ++ heard c.push-encoded.result.read c.args.bits.now)
    (samples ++ samples_in c.push-encoded.result.written c.push-encoded.new.parts)) (sym c.fill.ensures)
    (c.push-encoded.ensures.encodes line mode past samples
    (subst (λ (m : Option Machine). Encodes line mode m past samples) c.in-Ok.ensures.0 e))

pub returns-then-encoded-clause-answer : goal.returns-then-encoded-clause-answer
returns-then-encoded-clause-answer c =
    let encoded = c.push-encoded.result in
    let p : Progress = record c.none.result { read = encoded.read; written = encoded.written } in
    let lost : p.lost ≡ 0 = ap (λ (n : Progress). n.lost) c.none.ensures in
    let few = subst (λ (b : Bool). OnTrue b (length c.args.bits.now < encoded.read + bits_each c.in-Ok.taken.0)) c.if-encoded.true
    c.push-encoded.ensures.all in
    subst (λ (m : Option Machine). Answered (encoder_in m) m c.fill.new.handle.value (pos 0)
    (λ it. EncodeAnswers (bits_each it) (length c.args.bits.now) (length c.push-encoded.new.parts) (pos 0) p
    × (p.read ≡ bits_each it * p.written))) (sym c.in-Ok.ensures.0) ((lost, (inl (refl, few))), c.push-encoded.ensures.each)

pub returns-else-encoded-clause-answer : goal.returns-else-encoded-clause-answer
returns-else-encoded-clause-answer c =
    let encoded = c.push-encoded.result in
    let p : Progress = record c.none.result { read = encoded.read; written = encoded.written } in
    let lost : p.lost ≡ 0 = ap (λ (n : Progress). n.lost) c.none.ensures in
    let full = subst (λ (b : Bool). OnFalse b ((encoded.read + bits_each c.in-Ok.taken.0 ≤ length c.args.bits.now)
    × (length c.push-encoded.new.parts < 2 * encoded.written + 2))) c.if-encoded.false c.push-encoded.ensures.full in
    subst (λ (m : Option Machine). Answered (encoder_in m) m c.fill.new.handle.value (pos 2)
    (λ it. EncodeAnswers (bits_each it) (length c.args.bits.now) (length c.push-encoded.new.parts) (pos 2) p
    × (p.read ≡ bits_each it * p.written))) (sym c.in-Ok.ensures.0) ((lost, (inr (refl, full.0, full.1))), c.push-encoded.ensures.each)
