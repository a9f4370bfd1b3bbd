use Rattle.lapm_frames.proofs.checked.read_checked.Goals as goal

pub returns-in-Ok-clause-all : goal.returns-in-Ok-clause-all
returns-in-Ok-clause-all c = λ frame spells. rw c.to_frame.ensures (c.in-Ok.ensures.all frame spells)
