use Rattle.noise_script.proofs.Names.{◌≡◌, true, take, list_all}
use Rattle.noise_script.proofs.Cuts.{is_no_feed}
use Rattle.noise_script.proofs.lines.next_line.Given as goal

abbrev pub invariant-loop-at : goal.invariant-loop-at
invariant-loop-at l = list_all is_no_feed (take l.at l.text) ≡ true
