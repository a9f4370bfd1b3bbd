use Rattle.std.proofs.Common.{sym, ◌∙◌}
use Rattle.bit_stuffing.proofs.Stuffed.{is_removed}
use Rattle.bit_stuffing.proofs.laws.one_content.Goals as goal

pub returns : goal.returns
returns c = λ content other line h k. is_removed h ∙ sym (is_removed k)
