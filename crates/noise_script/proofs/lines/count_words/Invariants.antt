use Rattle.noise_script.proofs.Names.{◌≡◌, ◌+◌, ◌≤◌, length, words_of}
use Rattle.noise_script.proofs.lines.count_words.Given as goal

abbrev pub invariant-loop-behind : goal.invariant-loop-behind
invariant-loop-behind l = record {
  counted : l.count + length (words_of l.rest) ≡ length (words_of l.line);
  room : l.count + length l.rest ≤ length l.line;
}

abbrev pub decreases-loop-behind : goal.decreases-loop-behind
decreases-loop-behind l = length l.rest
