use Rattle.line_tap.proofs.Cited.{◌≡◌, ◌<◌, take, length, ReadsLabels, samples_in}
use Rattle.line_tap.proofs.labels.read_labels.Given as goal

abbrev pub invariant-loop-place : goal.invariant-loop-place
invariant-loop-place l = record {
  reads : ReadsLabels l.fn.demodulator l.demodulator l.from l.state (take l.place (samples_in l.octets)) l.bits l.labels;
  within : l.state < 8;
  count : length l.bits ≡ l.place;
  counted : length l.labels ≡ l.place;
}
