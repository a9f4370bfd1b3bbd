use Rattle.noise_script.proofs.Names.{◌≡◌, drop, words_of}
use Rattle.noise_script.proofs.lines.without_blanks.Given as goal

abbrev pub invariant-loop-at : goal.invariant-loop-at
invariant-loop-at l = words_of (drop l.at l.line) ≡ words_of l.line
