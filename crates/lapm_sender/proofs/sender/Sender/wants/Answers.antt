use Rattle.std.proofs.Common.{◌+◌, ◌<◌, ◌&&◌, not, if◌then◌else◌, Some, None, length, arith, ap, sym, ◌∙◌}
use Rattle.std.proofs.lemmas.Bool.{lt-ltb}
use Rattle.lapm_sender.specs.Sending.{wanted_by}
use Rattle.lapm_sender.proofs.sender.Sender.wants.Goals as goal

pub returns-then-next-front-clause-value : goal.returns-then-next-front-clause-value
returns-then-next-front-clause-value c =
    let kept = c.self.inside.segments.kept in
    let few : length kept < c.self.inside.window =
    omega (arith, c.if-next-front.true, c.end-next.ensures.end, c.front.ensures, c.from.ensures) in
    let number = c.self.inside.segments.front + length kept in
    ap Some c.end-next.ensures.end
    ∙ sym (λ k. if not (c.if-not-self.true k) && lt-ltb (length kept) c.self.inside.window few k then Some number else None)
    ∙ ap wanted_by c.self.view_is
