use Rattle.noise_script.proofs.Names.{◌+◌, ◌≤◌, length, HoldsUpTo}
use Rattle.noise_script.proofs.reader.read_draft.Given as goal

abbrev pub invariant-loop-rest : goal.invariant-loop-rest
invariant-loop-rest l = record {
  holds : HoldsUpTo l.text l.rest l.number l.draft;
  room : l.number + length l.rest ≤ length l.text;
}

abbrev pub decreases-loop-rest : goal.decreases-loop-rest
decreases-loop-rest l = length l.rest
