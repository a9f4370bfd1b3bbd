use Rattle.link_run.proofs.Lone.{lone_hearings_deliver, lone_speaking_takes_nothing}
use Rattle.link_run.proofs.laws.lone_turns_deliver_what_came.Goals as goal

pub returns : goal.returns
returns c = record { hearing = lone_hearings_deliver c.reads_allowed.ensures c.keeps_taken.ensures; speaking = lone_speaking_takes_nothing }
