use Rattle.detection.proofs.Quiet.{turned-is}
use Rattle.detection.proofs.reader.turned.Goals as goal

pub returns-clause-bits : goal.returns-clause-bits
returns-clause-bits c = turned-is c.args.four c.requires
