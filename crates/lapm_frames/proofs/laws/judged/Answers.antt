use Rattle.lapm_frames.proofs.Names.{check_for}
use Rattle.lapm_frames.proofs.Checking.{kind-heard, sixteen-heard}
use Rattle.lapm_frames.proofs.laws.judged.Goals as goal

pub returns-clause-sixteen : goal.returns-clause-sixteen
returns-clause-sixteen c = sixteen-heard

pub returns-clause-of_frame : goal.returns-clause-of_frame
returns-clause-of_frame c = λ check frame sender dlci. kind-heard check (check_for check frame) sender dlci frame
