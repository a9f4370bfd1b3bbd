use Rattle.lapm_frames.proofs.Names.{if◌then◌else◌, ◌∙◌, ap, Sixteen}
use Rattle.std.specs.Option.{is_some}
use Rattle.lapm_frames.proofs.checked.check_for.Goals as goal

pub returns-else-is_some : goal.returns-else-is_some
returns-else-is_some c =
    ap (λ numbered. if numbered then c.args.check else Sixteen)
    (c.if-is_some.ensures ∙ ap (λ parts. is_some parts.nr) c.parts.ensures.parts)
