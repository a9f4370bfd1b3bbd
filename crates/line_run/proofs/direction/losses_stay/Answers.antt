use Rattle.line_run.proofs.Recordings.{loss-stays, loss-in_each}
use Rattle.line_run.proofs.direction.losses_stay.Goals as goal

pub returns : goal.returns
returns c = record { stays = loss-stays; each = loss-in_each }
