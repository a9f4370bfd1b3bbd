use Rattle.line_tap.proofs.Cited.{◌∙◌, ◌<◌, ap, sym, subst, arith, IfSome, result_ok, checked, CanBeSent}
use Rattle.std.proofs.lemmas.List.Elements.{All-from_get_or}
use Rattle.std.specs.Prelude.{◌≡◌}
use Rattle.line_tap.proofs.SentFrames.{ok-sendable, ok-spelled}
use Rattle.line_tap.proofs.seeker.frame_of.Goals as goal

pub returns : goal.returns
returns c = record {
  all = λ frame k. c.ok.ensures.value ∙ ap result_ok (c.read_checked.ensures.all frame k);
  is =
      subst (λ found. IfSome found (λ frame. c.args.octets.now ≡ checked c.args.framing.check c.args.framing.sender c.args.framing.dlci
      frame)) (sym c.ok.ensures.value)
      (ok-spelled c.args.framing.check c.args.framing.sender c.args.framing.dlci c.args.octets.now c.read_checked.result
      c.read_checked.ensures.ok);
  sendable =
      subst CanBeSent (sym c.ok.ensures.value)
      (ok-sendable c.args.framing.check c.args.framing.sender c.args.framing.dlci c.args.octets.now c.read_checked.result
      (All-from_get_or (λ octet. octet < 256) c.args.octets.now 0 (λ i within. omega (arith, c.type_inv.octets i)))
      c.read_checked.ensures.ok);
}
