use Rattle.noise_script.proofs.Names.{◌≡◌, ◌++◌, take, drop, placed}
use Rattle.noise_script.proofs.draft.place_of.Given as goal

abbrev pub invariant-loop-at : goal.invariant-loop-at
invariant-loop-at l = placed l.line l.breaks ≡ take l.at l.breaks ++ placed l.line (drop l.at l.breaks)
