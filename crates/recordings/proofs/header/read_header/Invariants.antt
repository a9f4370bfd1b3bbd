use Rattle.std.proofs.Common.{◌≡◌, ◌<◌, ◌≤◌, ℕ, true, length}
use Rattle.std.specs.Prelude.{slice_index}
use Rattle.recordings.specs.Headers.{fits}
use Rattle.recordings.proofs.header.read_header.Given as goal

abbrev pub invariant-loop-place : goal.invariant-loop-place
invariant-loop-place l = record {
  front : l.place ≤ length l.octets;
  before : (place : ℕ) → place < l.place → fits l.rate place (slice_index l.octets place) ≡ true;
}
