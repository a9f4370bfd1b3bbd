use Rattle.gateway.proofs.Names.{◌≡◌, ◌*◌, ◌≤◌, ◌++◌, Bool, List, length, HasEncoded, heard, samples_in, LineKind, Mode, Sample}
use Rattle.gateway.specs.Encoded.{bits_each}
use Rattle.gateway.proofs.encoder.SampleEncoder.push.Given as goal

abbrev pub invariant-loop-written : goal.invariant-loop-written
invariant-loop-written l = record {
  room : length l.parts ≡ length l.fn.parts;
  same : bits_each l.self ≡ bits_each l.fn.self;
  each : l.read ≡ bits_each l.fn.self * l.written;
  read : l.read ≤ length l.bits;
  encodes : (line : LineKind) (mode : Mode) (past : List Bool) (samples : List Sample) → HasEncoded line mode l.fn.self past samples
      → HasEncoded line mode l.self (past ++ heard l.read l.bits) (samples ++ samples_in l.written l.parts);
}
