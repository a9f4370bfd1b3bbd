use Rattle.bit_stuffing.proofs.Found.{answer-is, is_answer}
use Rattle.bit_stuffing.proofs.laws.one_answer.Goals as goal

pub returns : goal.returns
returns c = record { exists = answer-is; no_other = is_answer }
