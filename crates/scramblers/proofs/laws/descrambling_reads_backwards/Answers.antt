use Rattle.scramblers.proofs.Readings.{Descrambles_from_Scrambles, Scrambles_from_Descrambles}
use Rattle.scramblers.proofs.laws.descrambling_reads_backwards.Goals as goal

pub returns : goal.returns
returns c = λ tap input line. (Descrambles_from_Scrambles tap input line, Scrambles_from_Descrambles tap input line)
