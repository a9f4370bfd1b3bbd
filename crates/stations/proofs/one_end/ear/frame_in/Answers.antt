use Rattle.stations.proofs.Names.{◌≡◌, Ok, Err}
use Rattle.stations.proofs.one_end.ear.frame_in.Goals as goal

apart : {T E : Type 0} {x : T} {e : E} → Err e ≡ Ok x → ⊥
apart q = cc

pub returns-in-Err-clause-none : goal.returns-in-Err-clause-none
returns-in-Err-clause-none c = λ frame s. apart (c.in-Err.ensures.all frame s)

pub returns-in-Ok-clause-some : goal.returns-in-Ok-clause-some
returns-in-Ok-clause-some c = c.in-Ok.ensures.ok
