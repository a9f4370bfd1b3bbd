use Rattle.noise_script.proofs.Names.{◌≡◌, true, take, list_all}
use Rattle.noise_script.proofs.Cuts.{is_no_blank}
use Rattle.noise_script.proofs.lines.cut_word.Given as goal

abbrev pub invariant-loop-at : goal.invariant-loop-at
invariant-loop-at l = list_all is_no_blank (take l.at l.line) ≡ true
