use Rattle.xid_params.proofs.Reading.{reads_written_always, written_spells_always}
use Rattle.xid_params.proofs.laws.reads_written.Goals as goal

pub returns : goal.returns
returns c = record { read = reads_written_always; spells = written_spells_always }
