use Rattle.line_tap.proofs.Cited.{◌≡◌, ◌<◌, ◌≤◌, ℕ, true, length}
use Rattle.std.specs.Prelude.{slice_index}
use Rattle.line_tap.specs.Headers.{fits}
use Rattle.line_tap.proofs.header.check_header.Given as goal

abbrev pub invariant-loop-place : goal.invariant-loop-place
invariant-loop-place l = record {
  front : l.place ≤ length l.octets;
  before : (place : ℕ) → place < l.place → fits l.mode place (slice_index l.octets place) ≡ true;
}
