use Rattle.detection.proofs.Registers.{reader-starts}
use Rattle.detection.proofs.reader.PatternReader.new.Goals as goal

pub returns : goal.returns
returns c = reader-starts
