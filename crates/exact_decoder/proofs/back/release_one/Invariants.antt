use Rattle.exact_decoder.proofs.Names.{◌≡◌, ℕ, ◌+◌, ◌<◌, ◌≤◌, length, take, replicate, Back}
use Rattle.exact_decoder.proofs.back.release_one.Given as goal

abbrev pub invariant-loop-back : goal.invariant-loop-back
invariant-loop-back g l = record {
  state : l.state < g.row.STATES;
  agreed : l.agreed ≤ length l.labels;
  moved : l.agreed + l.from ≡ l.fn.agreed + l.back;
  back : (left : ℕ) × Back g.row.STATES l.ring l.back left (replicate g.row.STATES l.state) (take l.agreed l.labels);
}
