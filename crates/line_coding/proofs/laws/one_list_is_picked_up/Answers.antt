use Rattle.line_coding.proofs.Middle.{picked_up_once}
use Rattle.line_coding.proofs.laws.one_list_is_picked_up.Goals as goal

pub returns : goal.returns
returns c = picked_up_once
