use Rattle.line_coding.proofs.Middle.{middle_is_sent}
use Rattle.line_coding.proofs.laws.bits_in_the_middle_are_those_sent.Goals as goal

pub returns : goal.returns
returns c = middle_is_sent
