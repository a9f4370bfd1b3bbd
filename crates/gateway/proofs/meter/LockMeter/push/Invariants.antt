use Rattle.gateway.proofs.Names.{◌≡◌, ◌+◌, ◌*◌, ◌++◌, Bool, List, heard, samples_in, Mode, Sample}
use Rattle.gateway.proofs.Measuring.{Measures}
use Rattle.gateway.proofs.meter.LockMeter.push.Given as goal

abbrev pub invariant-loop-place : goal.invariant-loop-place
invariant-loop-place l = record {
  counted : l.margin.count ≡ l.fn.self.octets + l.place;
  measures : (mode : Mode) (past : List Bool) (samples : List Sample) → Measures mode l.fn.self.margin past samples
      → Measures mode l.margin (past ++ heard (8 * l.place) l.bits) (samples ++ samples_in (2 * l.place) l.parts);
}
