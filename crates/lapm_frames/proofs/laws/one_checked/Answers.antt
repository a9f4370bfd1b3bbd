use Rattle.lapm_frames.proofs.Checking.{spells, spelled-checked, spells-one}
use Rattle.lapm_frames.proofs.laws.one_checked.Goals as goal

pub returns-clause-exists : goal.returns-clause-exists
returns-clause-exists c = λ check frame sender dlci. spells check sender dlci frame

pub returns-clause-no_other : goal.returns-clause-no_other
returns-clause-no_other c = λ check frame sender dlci whole. spelled-checked check sender dlci whole frame

pub returns-clause-one_frame : goal.returns-clause-one_frame
returns-clause-one_frame c = λ check frame other sender dlci whole. spells-one check sender dlci whole frame other
